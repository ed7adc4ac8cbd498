-- The vertices of a family by their vectors.
use Rattle.std.proofs.Common.{rules, ◌≡◌, ◌≢◌, ℕ, zero, suc, true, false, cond, List, [], ◌∷◌, Some, refl, sym, ap, ◌∙◌, arith}
use Rattle.std.specs.Cmp.Lexicographic.{bytes_decides}
use Rattle.std.specs.List.{slice_get}
use Rattle.std.proofs.lemmas.Bool.{cases_Bool}
use Rattle.std.proofs.lemmas.Option.{slice_get_within}
use Rattle.sgb_vec.specs.Boxes.{box}
use Rattle.sgb_vec.specs.Lexicographic.{IsBelow}
use Rattle.sgb_vec.proofs.BoxPlaces.{StandsAt-from_slice_get}
use Rattle.sgb_moves.specs.VectorMoves.{same_vector}
use Rattle.sgb_gen.specs.VectorGraphs.{vertex_among}

-- a vector that is there
pub same_is : (v : List ℕ) → same_vector v v ≡ true
same_is v = (bytes_decides v v).1 refl

-- or not
pub other_is : (v w : List ℕ) → v ≢ w → same_vector v w ≡ false
other_is v w other = search (rules, cases_Bool)

-- the vertex of a vector that stands at one place alone
pub vertex_at : (vectors : List (List ℕ)) (i : ℕ) (v : List ℕ) → slice_get vectors i ≡ Some v → ((j : ℕ) → slice_get vectors j ≡ Some v → j ≡ i) → vertex_among vectors v ≡ i
vertex_at [] i v at only = absurd (omega (arith, slice_get_within [] i v at))
vertex_at (w ∷ ws) zero v at only = grind (arith, cond, same_is)
vertex_at (w ∷ ws) (suc i) v at only =
    let other : w ≢ v = λ e. absurd (omega (arith, only 0 (ap Some e))) in
    grind (arith, cond, other_is, other, vertex_at ws i v at (λ j there. omega (arith, only (suc j) there)))

-- of a box, the vertex of a vector is its place
pub vertex_in_box : (sizes v : List ℕ) (i : ℕ) → slice_get (box sizes) i ≡ Some v → vertex_among (box sizes) v ≡ i
vertex_in_box sizes v i at =
    cc (vertex_at (box sizes) i v at (λ j there. sym (StandsAt-from_slice_get sizes v j there).place ∙ (StandsAt-from_slice_get sizes v i at).place))

-- a vector that stands in a box is below its sizes
pub below_in_box : (sizes v : List ℕ) (i : ℕ) → slice_get (box sizes) i ≡ Some v → IsBelow v sizes
below_in_box sizes v i at = (StandsAt-from_slice_get sizes v i at).each_below
