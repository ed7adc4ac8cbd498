-- Events in parts that share no ends are merged part by part.
use Rattle.sgb_vec.proofs.Common.{◌≡◌, ◌<◌, ◌≤◌, ◌+◌, ℕ, zero, suc, Bool, not, List, [], ◌∷◌, ◌++◌, get_or, refl, ap, ◌∙◌, append-nil, arith, All, filter, flat_map, range_with_len, not_from_false, All-nil, All-head, All-tail, All-append, filter-append}
use Rattle.sgb_vec.proofs.Lists.{filter-none, filter-all}
use Rattle.sgb_graph.specs.Events.{Event}
use Rattle.sgb_ops.specs.Merged.{has_ends_of, merged, merged_unless}
use Rattle.sgb_ops.proofs.Merging.{apart, merged_keeps}

-- no event of the first list has the ends of one of the second
abbrev pub AreApart : Bool → List Event → List Event → Type 0
AreApart directed xs ys = All (λ e. All (apart directed e) ys) xs

-- where no event has the ends of e all stay
pub all_stay : (directed : Bool) (e : Event) (ys : List Event) → All (apart directed e) ys → filter (λ f. not (has_ends_of directed e f)) ys ≡ ys
all_stay directed e ys all = filter-all (λ f. not (has_ends_of directed e f)) ys (λ k d h. not_from_false _ (all k d h))

-- two parts
merged_of_both : (directed : Bool) (xs ys : List Event) → AreApart directed xs ys → merged directed (xs ++ ys) ≡ merged directed xs ++ merged directed ys
unfolding merged
merged_of_both directed [] ys all = refl
merged_of_both directed (e ∷ xs) ys all =
    let from_e = All-head (λ x. All (apart directed x) ys) e xs all in
    let others = λ (f : Event). not (has_ends_of directed e f) in
    let like = filter-append (has_ends_of directed e) xs ys
    ∙ (ap (λ fs. filter (has_ends_of directed e) xs ++ fs) (filter-none (has_ends_of directed e) ys from_e) ∙ append-nil (filter (has_ends_of directed e) xs)) in
    simp (All-tail, apart, filter-append, all_stay, merged_keeps, from_e, others, like, merged_of_both directed xs ys (All-tail (λ x. All (apart directed x) ys) e xs all))

module _ (directed : Bool) (f : ℕ → List Event) (first stop : ℕ) (each : (u w : ℕ) → first ≤ u → u < w → w < stop → AreApart directed (f u) (f w)) where
  -- a part and all that come after it
  apart_from_later : (u v count : ℕ) → first ≤ u → u < v → v + count ≤ stop → AreApart directed (f u) (flat_map f (range_with_len v count))
  apart_from_later u v zero low after few = λ k d h. All-nil (apart directed (get_or (f u) k d))
  apart_from_later u v (suc count) low after few =
      λ k d h. All-append (apart directed (get_or (f u) k d)) (f v) (flat_map f (range_with_len (v + 1) count))
      (each u v low after (omega (arith, few)) k d h)
      (apart_from_later u (v + 1) count low (omega (arith, after)) (omega (arith, few)) k d h)

  merged_of_all : (v count : ℕ) → first ≤ v → v + count ≤ stop → merged directed (flat_map f (range_with_len v count)) ≡ flat_map (λ u. merged directed (f u)) (range_with_len v count)
  unfolding merged
  merged_of_all v zero low few = refl
  merged_of_all v (suc count) low few = grind (arith, merged_of_both, apart_from_later, merged_of_all (v + 1) count (omega (arith, low)) (omega (arith, few)))

-- all parts, one for each number
pub merged_parts : (multi directed : Bool) (f : ℕ → List Event) (v count : ℕ) → ((u w : ℕ) → v ≤ u → u < w → w < v + count → AreApart directed (f u) (f w))
    → merged_unless multi directed (flat_map f (range_with_len v count)) ≡ flat_map (λ u. merged_unless multi directed (f u)) (range_with_len v count)
merged_parts multi directed f v count each = grind (arith, merged_of_all)

-- parts one after another
pub merged_both : (multi directed : Bool) (xs ys : List Event) → AreApart directed xs ys → merged_unless multi directed (xs ++ ys) ≡ merged_unless multi directed xs ++ merged_unless multi directed ys
merged_both multi directed xs ys all = grind (arith, merged_of_both)
