use Rattle.std.proofs.Common.{◌≤◌, ◌+◌, refl, inl, arith, ap, length, rules}
use Rattle.sgb_graph.specs.Made.{graph_described}
use Rattle.sgb_gen.specs.VectorGraphs.{described_by}
use Rattle.sgb_arrays.specs.declared.refusals.Wrong.TheVariants as wrong
use Rattle.sgb_gen.proofs.VectorVertices.{vertices_are_members}
use Rattle.sgb_arrays.proofs.LocalRuns.{run_refused}
use Rattle.sgb_arrays.proofs.run_arcs.arcs_in.Goals as goal

pub returns-then-not-has_run-clause-refused : goal.returns-then-not-has_run-clause-refused
returns-then-not-has_run-clause-refused g c =
    let graph = g.L.Listed.graph c.args.listed.now in
    let members = g.L.Members.Family.members c.family.result.now in
    run_refused (graph_described (described_by graph)) (length members) c.args.first c.args.count wrong.Vertices (vertices_are_members graph members c.family.ensures.members)
    (inl (refl, c.if-not-has_run.ensures.not))

pub count_arcs-requires : goal.count_arcs-requires
count_arcs-requires g c =
    let there : c.args.first + c.args.count ≤ length (g.L.Listed.graph c.args.listed.now).vectors = omega (arith, c.if-not-has_run.ensures.there, ap length c.family.ensures.members) in
    search rules

pub returns-in-Ok-clause-arcs : goal.returns-in-Ok-clause-arcs
returns-in-Ok-clause-arcs g c =
    let graph = g.L.Listed.graph c.args.listed.now in
    let members = g.L.Members.Family.members c.family.result.now in
    (omega (arith, vertices_are_members graph members c.family.ensures.members, c.if-not-has_run.ensures.there), c.in-Ok.ensures.arcs)
