-- How the list of arcs of a vector comes from the moves that touch it; and how a list of arcs is kept.
use Rattle.std.specs.Prelude.{ℕ, pos, Bool, true, false, List, [], ◌∷◌, ◌++◌, take, drop, if◌then◌else◌}
use Rattle.sgb_moves.specs.VectorMoves.{Move, same_vector}
use Rattle.sgb_gen.specs.LocalLists.{LocalArc}

-- the arc to this vector of a move's length, where the move touches x
abbrev pub arc_if : Bool → List ℕ → ℕ → List LocalArc
arc_if touches tip len = if touches then record { tip = tip; len = pos len } ∷ [] else []

-- the arcs that a move puts on the list of x: of an arc one where it starts there, of an edge one for each end there
abbrev pub arcs_by : Bool → List ℕ → Move → List LocalArc
arcs_by true x m = arc_if (same_vector m.from x) m.to m.len
arcs_by false x m = arc_if (same_vector m.from x) m.to m.len ++ arc_if (same_vector m.to x) m.from m.len

-- the list of x: the arcs by later moves come first
abbrev pub arcs_of_moves : Bool → List ℕ → List Move → List LocalArc
arcs_of_moves directed x [] = []
arcs_of_moves directed x (m ∷ moves) = arcs_of_moves directed x moves ++ arcs_by directed x m

-- arcs whose vectors stand one after another, each of this width, and whose lengths stand beside them
abbrev pub arcs_in : ℕ → List ℕ → List ℕ → List LocalArc
arcs_in width tips [] = []
arcs_in width tips (len ∷ lens) = record { tip = take width tips; len = pos len } ∷ arcs_in width (drop width tips) lens
