-- The members of the families are vectors that have names.
use Rattle.sgb_vec.proofs.Common.{ℕ, ◌<◌, ◌≤◌, ◌^◌, List, length, get_or, arith, Contains, get_or_default_zero, AllZip-get_or}
use Rattle.sgb_vec.specs.Boxes.{box}
use Rattle.sgb_vec.specs.Sums.{bounded_sums}
use Rattle.sgb_vec.specs.NamedVectors.{IsVector}
use Rattle.sgb_vec.proofs.BoxPlaces.{IsBelow-from_Contains, IsBelow-length, IsBelow-at}
use Rattle.sgb_vec.proofs.SumMembers.{Contains-bounded_sums, IsWithin-length}

-- those of a box
pub box_members_are_vectors : (sizes v : List ℕ) → length sizes ≤ 251 → ((k : ℕ) → get_or sizes k 0 < 2 ^ 32) → Contains (box sizes) v → IsVector v
box_members_are_vectors sizes v few small member =
    let below = IsBelow-from_Contains sizes v member in
    record {
      short = omega (arith, IsBelow-length sizes v below);
      small = λ k d within. omega (arith, get_or_default_zero v k d within, IsBelow-at sizes v k below within, small k);
    }

-- those of a bounded sum
pub sum_members_are_vectors : (n : ℕ) (bounds v : List ℕ) → length bounds ≤ 251 → ((k : ℕ) → get_or bounds k 0 < 2 ^ 32) → Contains (bounded_sums n bounds) v → IsVector v
sum_members_are_vectors n bounds v few small member =
    let both = Contains-bounded_sums n bounds v in
    let within = (both.0 member).0 in
    record {
      short = omega (arith, IsWithin-length bounds v within);
      small = λ k d inside. omega (arith, get_or_default_zero v k d inside, AllZip-get_or (λ x b. x ≤ b) v bounds k 0 0 within inside, small k);
    }
