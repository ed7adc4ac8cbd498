use Rattle.sgb_vec.proofs.Common.{◌∙◌, ap, rules, length-map}
use Rattle.sgb_graph.specs.Growth.{new_vertex}
use Rattle.sgb_graph.specs.Sound.{arc_kinds}
use Rattle.sgb_ops.specs.Product.{product_events}
use Rattle.sgb_ops.specs.inner.Pairs.{names_of_pairs}
use Rattle.sgb_ops.specs.inner.Compounds.{product_id}
use Rattle.sgb_ops.proofs.Pairs.{length-names_of_pairs}
use Rattle.sgb_ops.proofs.Results.{made}
use Rattle.sgb_ops.proofs.products.product_of_few.Goals as goal

pub add_steps-requires : goal.add_steps-requires
add_steps-requires c = search (rules, length-map, new_vertex, length-names_of_pairs, arc_kinds)

pub returns : goal.returns
returns c =
    let g = c.args.first.now in
    let h = c.args.second.now in
    let d = c.args.directed in
    let t = c.args.product_type in
    made d (product_events t g h d) (names_of_pairs g h) c.in_ok-names.names (product_id g.id h.id t d) _ c.in_ok-built.built c.add_steps.new.built c.set_id.new.self
    c.in_ok-names.ensures.ok c.in_ok-built.ensures.ok c.in_ok-add_steps.ensures.ok
    (c.id-3.ensures ∙ (ap (λ id. product_id id c.id-2.result.now t d) c.id.ensures ∙ ap (λ id. product_id g.id id t d) c.id-2.ensures)) c.set_id.ensures

pub returns-in_err-built : goal.returns-in_err-built
returns-in_err-built c = search (rules, length-names_of_pairs)
