use Rattle.sgb_vec.proofs.Common.{rules, to_z-of_z, w64, SFits}
use Rattle.sgb_graph.specs.Graphs.{GraphData}
use Rattle.sgb_graph.proofs.Numbers.{ints_kept, ints_chains, ints_names, ints_fields}
use Rattle.sgb_graph.proofs.graphs.Graph.set_vertex_ints.Goals as goal

pub invariant_of-self-2 : goal.invariant_of-self-2
invariant_of-self-2 c =
    let x_fits : SFits w64 c.args.x = c.ranges.x in
    let y_fits : SFits w64 c.args.y = c.ranges.y in
    let z_fits : SFits w64 c.args.z = c.ranges.z in
    let put = simp to_z-of_z at c.in_ok-put_numbers.ensures.ok in
    rw put (ints_kept _ c.args.v c.args.x c.args.y c.args.z c.self.invariant)

pub returns-clause-chains : goal.returns-clause-chains
returns-clause-chains c = search (rules, GraphData, ints_chains)

pub returns-clause-names : goal.returns-clause-names
returns-clause-names c = search (rules, GraphData, ints_names)

pub returns-clause-fields : goal.returns-clause-fields
returns-clause-fields c = search (rules, SFits, w64, to_z-of_z, GraphData, ints_fields)
