-- Graphs whose vertices are vectors, and which generator they are of, evaluated.
use Rattle.std.specs.Prelude.{◌≡◌, ℕ, zero, suc, pos, false, List, [], ◌∷◌, length, sum, refl}
use Rattle.std.proofs.Common.{ap, arith}
use Rattle.sgb_vec.specs.Boxes.{box}
use Rattle.sgb_vec.specs.Sums.{bounded_sums}
use Rattle.sgb_graph.specs.Events.{list_from}
use Rattle.sgb_graph.specs.declared.fields.Util.TheVariants.{Nothing, Int}
use Rattle.sgb_gen.specs.Boards.{BoardData}
use Rattle.sgb_gen.specs.Generators.{sort_made, sort_of, vectors_of}
use Rattle.sgb_gen.specs.LocalLists.{list_at, list_in}
use Rattle.sgb_gen.specs.Shorthands.{complete, petersen}
use Rattle.sgb_gen.specs.Simplexes.{SimplexData}
use Rattle.sgb_gen.specs.Sorts.{of_board, of_simplex, of_subsets}
use Rattle.sgb_gen.specs.Subsets.{SubsetsData}
use Rattle.sgb_moves.specs.VectorMoves.{Move}
use Rattle.sgb_gen.specs.VectorGraphs.{HasEnds, HasUnitToMove, VectorGraph, fields_of_vector}
use Rattle.sgb_gen.specs.declared.locals.Local.TheVariants as local
use Rattle.sgb_gen.specs.declared.params.Generator.TheVariants as generator

-- its first three entries, and no fourth one
pub fields_of_four : fields_of_vector (4 ∷ 5 ∷ 6 ∷ 7 ∷ []) ≡ Nothing ∷ Nothing ∷ Nothing ∷ Int (pos 4) ∷ Int (pos 5) ∷ Int (pos 6) ∷ []
fields_of_four = refl

-- a move from 0 to 1
abbrev step : Move
step = record { from = 0 ∷ []; to = 1 ∷ []; len = 1 }

pub has_ends : HasEnds ((0 ∷ []) ∷ (1 ∷ []) ∷ []) step
has_ends = ((0, omega arith, refl), (1, omega arith, refl))

pub no_start : HasEnds ((1 ∷ []) ∷ []) step → ⊥
no_start ((zero, below, at), there) = absurd cc
no_start ((suc k, below, at), there) = absurd (omega (arith, below))

pub no_end : HasEnds ((0 ∷ []) ∷ []) step → ⊥
no_end (here, (zero, below, at)) = absurd cc
no_end (here, (suc k, below, at)) = absurd (omega (arith, below))

-- a graph of these vectors, without moves
abbrev of_vectors : List (List ℕ) → VectorGraph
of_vectors vectors = record { id = []; directed = false; vectors = vectors; moves = [] }

-- the second vector has a unit, and another entry
pub unit_of_second : HasUnitToMove (of_vectors ((0 ∷ 0 ∷ []) ∷ (0 ∷ 1 ∷ []) ∷ []))
unit_of_second = (0 ∷ 1 ∷ [], (1, omega arith, refl), omega arith, omega arith)

-- one entry has no other, and zeros have no unit
pub one_entry_stays : HasUnitToMove (of_vectors ((2 ∷ []) ∷ [])) → ⊥
one_entry_stays (v, (zero, below, at), pair, unit) = absurd (omega (arith, pair, ap length at))
one_entry_stays (v, (suc k, below, at), pair, unit) = absurd (omega (arith, below))

pub zeros_stay : HasUnitToMove (of_vectors ((0 ∷ 0 ∷ []) ∷ [])) → ⊥
zeros_stay (v, (zero, below, at), pair, unit) = absurd (omega (arith, unit, ap sum at))
zeros_stay (v, (suc k, below, at), pair, unit) = absurd (omega (arith, below))

-- a path of three vertices: the later edge comes first in the list of its middle
abbrev path : VectorGraph
path = record {
  id = [];
  directed = false;
  vectors = (0 ∷ []) ∷ (1 ∷ []) ∷ (2 ∷ []) ∷ [];
  moves = step ∷ record { from = 1 ∷ []; to = 2 ∷ []; len = 1 } ∷ [];
}

pub list_of_middle : list_in path (1 ∷ []) ≡ record { tip = 2 ∷ []; len = pos 1 } ∷ record { tip = 0 ∷ []; len = pos 1 } ∷ []
unfolding list_from list_at
list_of_middle = refl

-- board(2,0,0,0,1,0,0), and simplex(1,1,1,0,0,0,0) with subsets(1,1,1,0,0,0,0x1,0) of the same vectors
abbrev pair : BoardData
pair = record { params = pos 2 ∷ pos 0 ∷ pos 0 ∷ pos 0 ∷ []; sizes = 2 ∷ []; piece = pos 1; wrap = pos 0; directed = false }

abbrev one_of_two : SimplexData
one_of_two = record { params = pos 1 ∷ pos 1 ∷ pos 1 ∷ pos 0 ∷ pos 0 ∷ pos 0 ∷ []; sum = record { total = 1; bounds = 1 ∷ 1 ∷ [] }; directed = false }

abbrev single : SubsetsData
single = record { params = one_of_two.params; sum = one_of_two.sum; size_bits = 1; directed = false }

pub vertices : (vectors_of (local.Board pair) ≡ (0 ∷ []) ∷ (1 ∷ []) ∷ [])
    × (vectors_of (local.Simplex one_of_two) ≡ (0 ∷ 1 ∷ []) ∷ (1 ∷ 0 ∷ []) ∷ [])
    × (vectors_of (local.Subsets single) ≡ (0 ∷ 1 ∷ []) ∷ (1 ∷ 0 ∷ []) ∷ [])
unfolding box bounded_sums
vertices = (refl, refl, refl)

pub sorts : (sort_of (local.Board pair) ≡ of_board) × (sort_of (local.Simplex one_of_two) ≡ of_simplex) × (sort_of (local.Subsets single) ≡ of_subsets)
sorts = (refl, refl, refl)

pub sorts_of_parameters : (sort_made (generator.Board (complete (pos 2))) ≡ of_board) × (sort_made (generator.Subsets petersen) ≡ of_subsets)
    × (sort_made (generator.Simplex (record { n = pos 1; n0 = pos 1; n1 = pos 1; n2 = pos 0; n3 = pos 0; n4 = pos 0; directed = false })) ≡ of_simplex)
sorts_of_parameters = (refl, refl, refl)
