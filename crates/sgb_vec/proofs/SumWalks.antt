-- The first vector of a bounded sum, the next, the previous and the last, by the order of its vectors.
use Rattle.sgb_vec.proofs.Common.{◌≡◌, ℕ, ◌<◌, ◌≤◌, List, [], length, get_or, arith, sum, Contains, slice_get_within, get_or_from_slice_get, Contains-get_or}
use Rattle.sgb_vec.specs.Sums.{bounded_sums}
use Rattle.sgb_vec.specs.Lexicographic.{IsBefore, IsWithin}
use Rattle.sgb_vec.specs.Order.{HasNoneBefore, IsFinal, IsFirst, IsNext, IsLast, IsPrevious}
use Rattle.sgb_vec.proofs.SumMembers.{Contains-bounded_sums, bounded_sums-rise}
use Rattle.sgb_vec.proofs.RisingLists.{slice_get-least, slice_get-nearest, length-greatest, length-end, none_before_first, none_above_last, place-once, slice_get-end, slice_get-previous}
use Rattle.sgb_vec.proofs.SumSuccessors.{IsBefore-asymmetric, sum-within, IsLeast, IsGreatest, IsNearest}

-- a vector within the bounds that adds to n is a member
member : (n : ℕ) (bounds v : List ℕ) → IsWithin v bounds → sum v ≡ n → Contains (bounded_sums n bounds) v
member n bounds v within adds = let both = Contains-bounded_sums n bounds v in both.1 (within, adds)

-- the least vector is the first
pub IsFirst-least : (n : ℕ) (bounds w : List ℕ) → IsLeast bounds w → sum w ≡ n → IsFirst (bounded_sums n bounds) w
IsFirst-least n bounds w least adds =
    slice_get-least IsBefore (bounded_sums n bounds) w (bounded_sums-rise n bounds) (member n bounds w least.within adds)
    (λ u there before. let both = Contains-bounded_sums n bounds u in let parts = both.0 there in least.none_below u parts.0 (omega (arith, parts.1)) before)

-- and the first is the least
pub first-within : (n : ℕ) (bounds w : List ℕ) → IsFirst (bounded_sums n bounds) w → IsWithin w bounds × (sum w ≡ n)
first-within n bounds w first =
    let both = Contains-bounded_sums n bounds w in
    both.0 (0, slice_get_within (bounded_sums n bounds) 0 w first, get_or_from_slice_get (bounded_sums n bounds) 0 w w first)

pub IsLeast-first : (n : ℕ) (bounds w : List ℕ) → IsFirst (bounded_sums n bounds) w → IsLeast bounds w
IsLeast-first n bounds w first =
    let parts = first-within n bounds w first in
    record {
      within = parts.0;
      none_below = λ u within adds before.
          none_before_first IsBefore (bounded_sums n bounds) w u IsBefore-asymmetric (bounded_sums-rise n bounds) first (member n bounds u within (omega (arith, parts.1))) before;
    }

-- the greatest vector is the last
pub IsLast-greatest : (n : ℕ) (bounds v : List ℕ) → IsGreatest bounds v → sum v ≡ n → IsLast (bounded_sums n bounds) v
IsLast-greatest n bounds v greatest adds i there =
    length-greatest IsBefore (bounded_sums n bounds) v i (bounded_sums-rise n bounds) there
    (λ u member before. let both = Contains-bounded_sums n bounds u in let parts = both.0 member in greatest.none_above u parts.0 (omega (arith, parts.1)) before)

-- and the last is the greatest
pub IsGreatest-last : (n : ℕ) (bounds v : List ℕ) → IsWithin v bounds → sum v ≡ n → IsLast (bounded_sums n bounds) v → IsGreatest bounds v
IsGreatest-last n bounds v here adds last = record {
  within = here;
  none_above = λ u within same before.
      none_above_last IsBefore (bounded_sums n bounds) v u IsBefore-asymmetric (bounded_sums-rise n bounds) (member n bounds v here adds) last (member n bounds u within (omega arith)) before;
}

-- the least of those above a vector is the next
pub IsNext-nearest : (n : ℕ) (bounds v w : List ℕ) → IsNearest bounds v w → sum v ≡ n → IsNext (bounded_sums n bounds) v w
IsNext-nearest n bounds v w near adds i there =
    slice_get-nearest IsBefore (bounded_sums n bounds) v w i IsBefore-asymmetric (bounded_sums-rise n bounds) there (member n bounds w near.within (omega (arith, near.same_sum))) near.above
    (λ u member above below. let both = Contains-bounded_sums n bounds u in let parts = both.0 member in near.none_between u parts.0 (omega (arith, parts.1)) above below)

-- where there is a vector, the bounds have room for the sum
pub room_from_member : (n : ℕ) (bounds : List ℕ) → 0 < length (bounded_sums n bounds) → n ≤ sum bounds
room_from_member n bounds some =
    let v = get_or (bounded_sums n bounds) 0 [] in
    let both = Contains-bounded_sums n bounds v in
    grind (arith, Contains-get_or, sum-within)

-- none comes before the first vector
pub HasNoneBefore-first : (n : ℕ) (bounds v : List ℕ) → IsFirst (bounded_sums n bounds) v → HasNoneBefore (bounded_sums n bounds) v
HasNoneBefore-first n bounds v first i here =
    place-once IsBefore (bounded_sums n bounds) v i 0 IsBefore-asymmetric (bounded_sums-rise n bounds) here first

-- a vector comes right before the nearest above it
pub IsPrevious-nearest : (n : ℕ) (bounds v w : List ℕ) → IsWithin w bounds → IsNearest bounds w v → sum v ≡ n → IsPrevious (bounded_sums n bounds) v w
IsPrevious-nearest n bounds v w within near adds i here =
    let same : sum w ≡ n = omega (arith, near.same_sum) in
    slice_get-previous IsBefore (bounded_sums n bounds) v w i IsBefore-asymmetric (bounded_sums-rise n bounds)
    (member n bounds w within same) (IsNext-nearest n bounds w v near same) here

-- the greatest vector is at the end
pub IsFinal-greatest : (n : ℕ) (bounds v : List ℕ) → IsGreatest bounds v → sum v ≡ n → IsFinal (bounded_sums n bounds) v
IsFinal-greatest n bounds v greatest adds =
    slice_get-end (bounded_sums n bounds) v (member n bounds v greatest.within adds) (IsLast-greatest n bounds v greatest adds)

-- and the vector at the end is the greatest
pub final-within : (n : ℕ) (bounds v : List ℕ) → IsFinal (bounded_sums n bounds) v → IsWithin v bounds × (sum v ≡ n)
final-within n bounds v end =
    let both = Contains-bounded_sums n bounds v in
    grind (arith, slice_get_within, get_or_from_slice_get)

pub IsGreatest-final : (n : ℕ) (bounds v : List ℕ) → IsFinal (bounded_sums n bounds) v → IsGreatest bounds v
IsGreatest-final n bounds v end =
    let parts = final-within n bounds v end in
    IsGreatest-last n bounds v parts.0 parts.1 (λ i here. length-end IsBefore (bounded_sums n bounds) v i IsBefore-asymmetric (bounded_sums-rise n bounds) end here)
