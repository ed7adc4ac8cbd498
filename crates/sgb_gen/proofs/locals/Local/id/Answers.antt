use Rattle.sgb_gen.specs.VectorGraphs.{family_graph}
use Rattle.sgb_gen.proofs.locals.Local.id.Goals as goal

pub returns-in-Board : goal.returns-in-Board
unfolding family_graph
returns-in-Board c = rw c.in-Board.is c.id.ensures

pub returns-in-Simplex : goal.returns-in-Simplex
unfolding family_graph
returns-in-Simplex c = rw c.in-Simplex.is c.id-in-Simplex.ensures

pub returns-in-Subsets : goal.returns-in-Subsets
unfolding family_graph
returns-in-Subsets c = rw c.in-Subsets.is c.id-in-Subsets.ensures
