use Rattle.sgb_graph.specs.Graphs.{chain_of}
use Rattle.sgb_graph.specs.Vertices.{name_at}
use Rattle.sgb_arrays.proofs.RunSteps.{parts_joined}
use Rattle.sgb_arrays.proofs.laws.runs_join_law.Goals as goal

pub returns-clause-arcs : goal.returns-clause-arcs
returns-clause-arcs c = λ g first a b. parts_joined (chain_of g) first a b

pub returns-clause-names : goal.returns-clause-names
returns-clause-names c = λ g first a b. parts_joined (name_at g) first a b
