use Rattle.std.proofs.Common.{refl, sym, ◌∙◌}
use Rattle.sgb_gen.specs.Boards.{board_vector_graph}
use Rattle.sgb_gen.specs.Simplexes.{simplex_vector_graph}
use Rattle.sgb_gen.specs.Subsets.{subsets_vector_graph}
use Rattle.sgb_gen.proofs.VectorVertices.{vertices_are_members}
use Rattle.sgb_gen.proofs.locals.Local.size.Goals as goal

pub returns-in-Board : goal.returns-in-Board
returns-in-Board c =
    rw c.in-Board.is (rw c.family.ensures at c.size.ensures ∙ sym (vertices_are_members (board_vector_graph c.in-Board.board) _ refl))

pub returns-in-Simplex : goal.returns-in-Simplex
returns-in-Simplex c =
    rw c.in-Simplex.is (rw c.family-in-Simplex.ensures at c.size-in-Simplex.ensures ∙ sym (vertices_are_members (simplex_vector_graph c.in-Simplex.simplex) _ refl))

pub returns-in-Subsets : goal.returns-in-Subsets
returns-in-Subsets c =
    rw c.in-Subsets.is (rw c.family-in-Subsets.ensures at c.size-in-Subsets.ensures ∙ sym (vertices_are_members (subsets_vector_graph c.in-Subsets.subsets) _ refl))
