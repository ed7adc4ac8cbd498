-- The coordinates of a place, each below the size of its side.
use Rattle.std.proofs.Common.{ℕ, ◌<◌, List, length, get_or, arith}
use Rattle.sgb_vec.specs.Lexicographic.{IsBelow}
use Rattle.sgb_vec.proofs.BoxPlaces.{IsBelow-at, IsBelow-length}

pub entry_there : (sizes x : List ℕ) (k : ℕ) → IsBelow x sizes → k < length sizes → k < length x
entry_there sizes x k below h = omega (arith, IsBelow-length sizes x below)

pub entry_less : (sizes x : List ℕ) (k : ℕ) → IsBelow x sizes → k < length sizes → get_or x k 0 < get_or sizes k 0
entry_less sizes x k below h = IsBelow-at sizes x k below (entry_there sizes x k below h)
