use Rattle.std.proofs.Common.{◌≤◌, length, arith}
use Rattle.sgb_vec.specs.Limits.{most_vertices}
use Rattle.sgb_graph.proofs.NewGraphs.{new_is_kept}
use Rattle.sgb_graph.proofs.graphs.Graph.new.Goals as goal

pub invariant_of-result : goal.invariant_of-result
invariant_of-result c =
    let few : length c.args.names ≤ most_vertices = omega arith in
    rw (c.no_fields.ensures, c.in_ok-vertices.ensures, c.new.ensures) (new_is_kept c.new_id-id.result c.args.names few)
