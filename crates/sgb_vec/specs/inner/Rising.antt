-- The vectors of a family rise: the law of each family. It stands here because the code of an impl names the proof of its
-- laws, and code names only what stands in specs.
use Rattle.std.specs.Prelude.{◌+◌, ◌<◌, ◌==◌, ℕ, List, [], ◌∷◌, ◌++◌, All, map, sum}
use Rattle.std.specs.List.{flat_map, range_with_len}
use Rattle.std.specs.Cmp.{nat_cmp_is}
use Rattle.std.specs.declared.cmp.Ordering.TheVariants.{Less, Equal}
use Rattle.std.proofs.Common.{suc, zero, refl, arith}
use Rattle.std.proofs.lemmas.List.Elements.{All-nil, All-cons, All-head, All-tail, All-append, All-map, All-weaker}
use Rattle.std.proofs.lemmas.List.Kept.{AllPairs-filter, AllPairs-cons}
use Rattle.sgb_vec.specs.Boxes.{box}
use Rattle.sgb_vec.specs.Lexicographic.{IsBefore, IsRising}
use Rattle.sgb_vec.specs.Sums.{BoundedSum, bounded_sums}

-- no vectors rise
rising_none : IsRising []
rising_none i j d less within = absurd (omega arith)

-- of vectors that rise, the first is before the others, and these rise
before_others : (v : List ℕ) (vs : List (List ℕ)) → IsRising (v ∷ vs) → All (IsBefore v) vs
before_others v vs rise k d within = rise 0 (suc k) d (omega arith) (omega arith)

others_rise : (v : List ℕ) (vs : List (List ℕ)) → IsRising (v ∷ vs) → IsRising vs
others_rise v vs rise i j d less within = rise (suc i) (suc j) d (omega arith) (omega arith)

-- vectors that rise, and others that rise after them
rising_both : (vs ws : List (List ℕ)) → IsRising vs → IsRising ws → All (λ v. All (IsBefore v) ws) vs → IsRising (vs ++ ws)
rising_both [] ws rise after between = after
rising_both (v ∷ vs) ws rise after between =
    AllPairs-cons IsBefore v (vs ++ ws)
    (All-append (IsBefore v) vs ws (before_others v vs rise) (All-head (λ u. All (IsBefore u) ws) v vs between))
    (rising_both vs ws (others_rise v vs rise) after (All-tail (λ u. All (IsBefore u) ws) v vs between))

-- with the same entry in front they rise
same_front : (x : ℕ) (v w : List ℕ) → IsBefore v w → IsBefore (x ∷ v) (x ∷ w)
same_front x v w before = rw (← nat_cmp_is x x Equal refl) before

row_rises : (x : ℕ) (vs : List (List ℕ)) → IsRising vs → IsRising (map (λ v. x ∷ v) vs)
row_rises x [] rise = rising_none
row_rises x (v ∷ vs) rise =
    AllPairs-cons IsBefore (x ∷ v) (map (λ w. x ∷ w) vs)
    (All-map (IsBefore (x ∷ v)) (λ w. x ∷ w) vs (All-weaker (IsBefore v) (λ w. IsBefore (x ∷ v) (x ∷ w)) (λ w before. same_front x v w before) vs (before_others v vs rise)))
    (row_rises x vs (others_rise v vs rise))

-- a vector that begins with x is before each of the rows of greater entries
abbrev StartsBefore : ℕ → List ℕ → Type 0
StartsBefore x w = (u : List ℕ) → IsBefore (x ∷ u) w

less_front : (x y : ℕ) (u w : List ℕ) → x < y → IsBefore (x ∷ u) (y ∷ w)
less_front x y u w less = rw (← nat_cmp_is x y Less less)

row_after : (x y : ℕ) (vs : List (List ℕ)) → x < y → All (StartsBefore x) (map (λ v. y ∷ v) vs)
row_after x y [] less = All-nil (StartsBefore x)
row_after x y (v ∷ vs) less = All-cons (StartsBefore x) (y ∷ v) (map (λ w. y ∷ w) vs) (λ u. less_front x y u v less) (row_after x y vs less)

rows_after : (x start count : ℕ) (vs : List (List ℕ)) → x < start → All (StartsBefore x) (flat_map (λ y. map (λ v. y ∷ v) vs) (range_with_len start count))
rows_after x start zero vs less = All-nil (StartsBefore x)
rows_after x start (suc count) vs less =
    All-append (StartsBefore x) (map (λ v. start ∷ v) vs) (flat_map (λ y. map (λ v. y ∷ v) vs) (range_with_len (start + 1) count))
    (row_after x start vs less) (rows_after x (start + 1) count vs (omega arith))

row_before : (x : ℕ) (vs ws : List (List ℕ)) → All (StartsBefore x) ws → All (λ v. All (IsBefore v) ws) (map (λ v. x ∷ v) vs)
row_before x [] ws after = All-nil (λ v. All (IsBefore v) ws)
row_before x (v ∷ vs) ws after =
    All-cons (λ u. All (IsBefore u) ws) (x ∷ v) (map (λ w. x ∷ w) vs)
    (All-weaker (StartsBefore x) (IsBefore (x ∷ v)) (λ w before. before v) ws after) (row_before x vs ws after)

rows_rise : (start count : ℕ) (vs : List (List ℕ)) → IsRising vs → IsRising (flat_map (λ x. map (λ v. x ∷ v) vs) (range_with_len start count))
rows_rise start zero vs rise = rising_none
rows_rise start (suc count) vs rise =
    rising_both (map (λ v. start ∷ v) vs) (flat_map (λ x. map (λ v. x ∷ v) vs) (range_with_len (start + 1) count))
    (row_rises start vs rise) (rows_rise (start + 1) count vs rise)
    (row_before start vs _ (rows_after start (start + 1) count vs (omega arith)))

-- the vectors of a box
pub box_vectors_rise : (sizes : List ℕ) → IsRising (box sizes)
unfolding box
box_vectors_rise [] = AllPairs-cons IsBefore [] [] (All-nil (IsBefore [])) rising_none
box_vectors_rise (s ∷ sizes) = rows_rise 0 s (box sizes) (box_vectors_rise sizes)

-- those of a bounded sum
pub sum_vectors_rise : (s : BoundedSum) → IsRising (bounded_sums s.total s.bounds)
unfolding bounded_sums
sum_vectors_rise s = AllPairs-filter IsBefore (λ v. sum v == s.total) (box (map (λ b. b + 1) s.bounds)) (box_vectors_rise (map (λ b. b + 1) s.bounds))
