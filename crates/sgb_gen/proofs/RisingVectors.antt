-- Vectors in strictly rising lexicographic order: where one stands.
use Rattle.std.proofs.Common.{◌≡◌, ℕ, ◌<◌, List, arith}
use Rattle.std.specs.Prelude.{Some}
use Rattle.std.specs.List.{Contains, slice_get}
use Rattle.std.proofs.lemmas.Option.{slice_get_within, slice_get_read, get_or_from_slice_get}
use Rattle.sgb_vec.specs.Lexicographic.{IsBefore, IsRising}
use Rattle.sgb_gen.specs.VectorGraphs.{vertex_among}
use Rattle.sgb_gen.proofs.Vertices.{vertex_at}
use Rattle.sgb_vec.proofs.RisingLists.{place-once}
use Rattle.sgb_vec.proofs.SumSuccessors.{IsBefore-asymmetric}

-- a vector at an earlier place is before one at a later place
pub before_later : (vectors : List (List ℕ)) (i j : ℕ) (v w : List ℕ) → IsRising vectors → i < j → slice_get vectors i ≡ Some v → slice_get vectors j ≡ Some w → IsBefore v w
before_later vectors i j v w rises less here there = grind (arith, get_or_from_slice_get, slice_get_within)

-- which is that of its vertex
pub vertex_in_rising : (vectors : List (List ℕ)) (i : ℕ) (v : List ℕ) → IsRising vectors → slice_get vectors i ≡ Some v → vertex_among vectors v ≡ i
vertex_in_rising vectors i v rises at = vertex_at vectors i v at (λ j there. place-once IsBefore vectors v j i IsBefore-asymmetric rises there at)

-- and there it stands
pub at_vertex : (vectors : List (List ℕ)) (v : List ℕ) → IsRising vectors → Contains vectors v → slice_get vectors (vertex_among vectors v) ≡ Some v
at_vertex vectors v rises (k, within, at) = grind (arith, slice_get_read, at, vertex_in_rising)
