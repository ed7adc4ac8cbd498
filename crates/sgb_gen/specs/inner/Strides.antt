-- How many places among the vectors of a box a displacement leads on.
use Rattle.std.specs.Prelude.{◌≡◌, ◌<◌, ◌≤◌, ℕ, ℤ, pos, ◌+ℤ◌, ◌*ℤ◌, List, ◌∷◌}
use Rattle.sgb_vec.specs.Boxes.{product_of}
use Rattle.sgb_gen.specs.Boards.{BoardData}
use Rattle.sgb_moves.specs.Moves.{opposite, place, sides_of}
use Rattle.sgb_moves.specs.inner.Moves.{longest_move}

-- how many places a unit of length leads on by a displacement: an entry counts as often as there are vectors of the sides after it
abbrev pub stride_of : List ℕ → List ℤ → ℤ
stride_of (n ∷ sizes) (e ∷ t) = e *ℤ pos (product_of sizes) +ℤ stride_of sizes t
stride_of _ _ = pos 0

-- whether sides wrap around makes no difference for the moves from x by t
abbrev pub IsFlatFrom : BoardData → List ℕ → List ℤ → Type 0
IsFlatFrom b x t = (l : ℕ) → 0 < l → l ≤ longest_move (sides_of b.sizes b.wrap) b.piece → place (sides_of b.sizes b.wrap) x t l ≡ place (sides_of b.sizes (pos 0)) x t l

-- nor for those by the opposite of t: so both lead by strides
abbrev pub LeadsByStride : BoardData → List ℕ → List ℤ → Type 0
LeadsByStride b x t = IsFlatFrom b x t × IsFlatFrom b x (opposite t)
