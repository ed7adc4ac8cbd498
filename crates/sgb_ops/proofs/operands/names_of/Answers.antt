use Rattle.sgb_vec.proofs.Common.{rules, ◌≤◌, ◌∙◌, length, arith, take_all, length-map}
use Rattle.sgb_vec.specs.Limits.{most_vertices}
use Rattle.sgb_graph.specs.Graphs.{GraphData}
use Rattle.sgb_graph.specs.Growth.{IsKept}
use Rattle.sgb_gen.proofs.FamilyWalks.{take_at_vector}
use Rattle.sgb_graph.specs.Vertices.{names_of}
use Rattle.sgb_ops.proofs.operands.names_of.Goals as goal

-- there are few of them
few_names : (g : GraphData) → IsKept g → length (names_of g) ≤ most_vertices
few_names g kept = grind (arith, length-map)

pub loop-v-preserved : goal.loop-v-preserved
loop-v-preserved c = search (rules, take_at_vector, names_of)

pub returns-in_err-names-clause-few : goal.returns-in_err-names-clause-few
returns-in_err-names-clause-few c = few_names c.args.graph.now c.n.ensures.kept

pub returns-in_err-name-clause-few : goal.returns-in_err-name-clause-few
returns-in_err-name-clause-few c = few_names c.args.graph.now c.n.ensures.kept

pub returns-in_default-clause-few : goal.returns-in_default-clause-few
returns-in_default-clause-few c = few_names c.args.graph.now c.n.ensures.kept

pub returns-clause-few : goal.returns-clause-few
returns-clause-few c = few_names c.args.graph.now c.n.ensures.kept

pub returns-clause-ok : goal.returns-clause-ok
returns-clause-ok c =
    let g = c.args.graph.now in
    c.loop-v.invariant ∙ take_all c.loop-v.v (names_of g) (omega (arith, length-map g.vertices (λ x. x.name)))
