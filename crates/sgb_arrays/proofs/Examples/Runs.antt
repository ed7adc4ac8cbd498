-- Runs of three vertices: an arc from the first to the second and one to the third, none from the second, and one back.
use Rattle.std.specs.Prelude.{◌≡◌, pos, [], ◌∷◌, codes, refl}
use Rattle.sgb_graph.specs.Graphs.{chain_of, numbers_from}
use Rattle.sgb_arrays.proofs.Examples.Rows.{graph}
use Rattle.sgb_arrays.specs.Runs.{AreNames, AreRows, part_starts, parts_of}

-- the last two: their starts are counted within the run, their tips are vertices of the whole graph
pub last_two : AreRows graph 1 2 (0 ∷ 0 ∷ 1 ∷ []) (0 ∷ []) (pos 7 ∷ []) × AreNames graph 1 2 (0 ∷ 2 ∷ 3 ∷ []) (codes "bcd")
unfolding part_starts numbers_from parts_of
last_two = (record { starts_are = refl; tips_are = refl; lengths_are = refl }, record { starts_are = refl; bytes_are = refl })

-- the first alone: later arcs come first in its list
pub first_one : AreRows graph 0 1 (0 ∷ 2 ∷ []) (2 ∷ 1 ∷ []) (pos 6 ∷ pos 5 ∷ [])
unfolding part_starts numbers_from parts_of
first_one = record { starts_are = refl; tips_are = refl; lengths_are = refl }

-- a run of no vertices
pub no_starts : part_starts (chain_of graph) 3 0 ≡ 0 ∷ []
unfolding part_starts
no_starts = refl
