use Rattle.sgb_vec.proofs.Common.{rules}
use Rattle.sgb_graph.proofs.KeptVertices.{held_already}
use Rattle.sgb_graph.proofs.vertices.fields.Fields.hold_numbers.Goals as goal

pub returns-then-are_integers-clause-ok : goal.returns-then-are_integers-clause-ok
returns-then-are_integers-clause-ok c = search (rules, held_already)
