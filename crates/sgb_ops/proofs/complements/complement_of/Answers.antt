use Rattle.sgb_vec.proofs.Common.{◌∙◌, ap, length, length-map}
use Rattle.sgb_graph.specs.Growth.{new_vertex}
use Rattle.sgb_graph.specs.Vertices.{names_of}
use Rattle.sgb_ops.specs.Complement.{complement_events}
use Rattle.sgb_ops.specs.inner.Compounds.{complement_id}
use Rattle.sgb_ops.proofs.Results.{made}
use Rattle.sgb_ops.proofs.complements.complement_of.Goals as goal

pub returns : goal.returns
returns c =
    let g = c.args.graph.now in
    made c.args.directed (complement_events g c.args.copy c.args.self_loops c.args.directed) (names_of g) c.in_ok-names.names (complement_id g.id c.args.copy c.args.self_loops c.args.directed) _ c.in_ok-built.built c.add_arcs.new.built c.set_id.new.self
    c.in_ok-names.ensures.ok c.in_ok-built.ensures.ok c.in_ok-add_arcs.ensures.ok
    (c.id-2.ensures ∙ ap (λ id. complement_id id c.args.copy c.args.self_loops c.args.directed) c.id.ensures) c.set_id.ensures

pub add_arcs-requires-clause-vertices : goal.add_arcs-requires-clause-vertices
add_arcs-requires-clause-vertices c = ap (λ b. length b.vertices) c.in_ok-built.ensures.ok ∙ (length-map c.in_ok-names.names new_vertex ∙ (ap length c.in_ok-names.ensures.ok ∙ length-map c.args.graph.now.vertices (λ x. x.name)))
