use Rattle.sgb_vec.proofs.Common.{◌∙◌, ap, length, length-map}
use Rattle.sgb_graph.specs.Growth.{new_vertex}
use Rattle.sgb_ops.specs.Gunion.{union_events}
use Rattle.sgb_ops.specs.Merged.{merged_unless}
use Rattle.sgb_ops.specs.inner.Compounds.{gunion_id}
use Rattle.sgb_graph.specs.Vertices.{names_of}
use Rattle.sgb_ops.proofs.Results.{made}
use Rattle.sgb_ops.proofs.gunions.gunion_of.Goals as goal

pub returns : goal.returns
returns c =
    let g = c.args.first.now in
    let h = c.args.second.now in
    made c.args.directed (merged_unless c.args.multi c.args.directed (union_events g h c.args.directed)) (names_of g) c.in_ok-names.names (gunion_id g.id h.id c.args.multi c.args.directed) _ c.in_ok-built.built c.add_union_events.new.built c.set_id.new.self
    c.in_ok-names.ensures.ok c.in_ok-built.ensures.ok c.in_ok-add_union_events.ensures.ok
    (c.gunion_id.ensures ∙ (ap (λ i. gunion_id i c.id-2.result.now c.args.multi c.args.directed) c.id.ensures ∙ ap (λ i. gunion_id g.id i c.args.multi c.args.directed) c.id-2.ensures)) c.set_id.ensures

pub add_union_events-requires-clause-size : goal.add_union_events-requires-clause-size
add_union_events-requires-clause-size c = ap (λ b. length b.vertices) c.in_ok-built.ensures.ok ∙ (length-map c.in_ok-names.names new_vertex ∙ (ap length c.in_ok-names.ensures.ok ∙ length-map c.args.first.now.vertices (λ x. x.name)))
