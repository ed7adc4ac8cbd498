use Rattle.std.proofs.Common.{ap, ◌∙◌}
use Rattle.sgb_vec.specs.Sums.{bounded_sums}
use Rattle.sgb_graph.specs.Growth.{new_graph}
use Rattle.sgb_gen.specs.Subsets.{subsets_id, subsets_vectors, moves_of_subsets}
use Rattle.sgb_gen.proofs.FamilyGraphs.{fields_unused, graph_made}
use Rattle.sgb_gen.proofs.accepted.subsets.Subsets.graph.Goals as goal

pub put_coordinates-requires-clause-fields : goal.put_coordinates-requires-clause-fields
put_coordinates-requires-clause-fields c = fields_unused (bounded_sums c.self.inside.family.total c.self.inside.family.bounds) c.args.self.now.directed c.in_ok-graph.graph c.add_arcs.new.graph _ (c.in_ok-graph.ensures.ok ∙ ap new_graph c.in_ok-names.ensures.ok) c.in_ok-add_arcs.ensures.ok

pub returns : goal.returns
returns c =
    let s = c.args.self.now in
    graph_made (subsets_id s) _ s.directed (subsets_vectors s) (bounded_sums c.self.inside.family.total c.self.inside.family.bounds) (moves_of_subsets s) _ _ _ _ _ (ap (λ d. bounded_sums d.sum.total d.sum.bounds) c.self.view_is) c.in_ok-names.ensures.ok (c.in_ok-graph.ensures.ok) c.in_ok-add_arcs.ensures.ok c.in_ok-put_coordinates.ensures.ok c.set_id.ensures c.id.ensures
