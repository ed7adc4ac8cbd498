-- A way that ends has no more steps than there are records: it meets no record twice.
use Rattle.sgb_vec.proofs.Common.{◌≡◌, ◌<◌, ℕ, zero, suc, Bool, true, false, List, [], ◌∷◌, length, Option, Some, None, sym, ◌∙◌, subst, inl, inr, arith, slice_get, AllByRecursion, IsDistinct, list_any, list_all, eqb, and_parts, or_cases, or_parts, cases_Bool, eqb_tells, slice_get_within}
use Rattle.std.proofs.lemmas.Map.Keys.{IsDistinct-cons}
use Rattle.std.proofs.lemmas.Map.Steps.{length-le_from_distinct_below}
use Rattle.sgb_graph.specs.Graphs.{numbers_from, ends_from, ends_of}
use Rattle.sgb_graph.specs.declared.fields.ArcRec.{ArcRec}
use Rattle.sgb_graph.proofs.Chains.{ends_after, ends_longer, ends_none, ends_step, is_record, no_start, numbers_are_records, numbers_longer, numbers_none, numbers_step}

-- numbers that are equal by their test
equal_numbers : (k j : ℕ) → eqb k j ≡ true → k ≡ j
equal_numbers k j test = grind (arith, eqb_tells, eqb)

-- it ends from each record that it meets
ends_from_met : (fuel : ℕ) (records : List ArcRec) (first : Option ℕ) (k : ℕ) → ends_from fuel records first ≡ true → list_any (eqb k) (numbers_from fuel records first) ≡ true → ends_from fuel records (Some k) ≡ true
ends_from_met fuel records None k e met = absurd (let none = numbers_none fuel records in let there : list_any (eqb k) [] ≡ true = rw none at met in cc)
ends_from_met zero records (Some j) k e met = absurd (no_start records j e)
ends_from_met (suc fuel) records (Some j) k e met =
    let b = ends_after fuel records j e in
    let there : list_any (eqb k) (j ∷ numbers_from fuel records b.here.next) ≡ true = rw (numbers_step fuel records j b.here b.is) at met in
    elim (or_cases (eqb k j) (list_any (eqb k) (numbers_from fuel records b.here.next)) there) [
      | inl first ↦ rw (equal_numbers k j first) e
      | inr after ↦ ends_longer fuel (suc fuel) records (Some k) (omega arith) (ends_from_met fuel records b.here.next k b.ends after)
    ]

-- so it does not come back to a record
never_back : (fuel : ℕ) (records : List ArcRec) (k : ℕ) (r : ArcRec) → slice_get records k ≡ Some r → ends_from fuel records r.next ≡ true → list_any (eqb k) (numbers_from fuel records r.next) ≡ true → ⊥
never_back zero records k r is e met = no_start records k (ends_from_met zero records r.next k e met)
never_back (suc fuel) records k r is e met =
    let rest = sym (ends_step fuel records k r is) ∙ ends_from_met (suc fuel) records r.next k e met in
    never_back fuel records k r is rest (rw (numbers_longer fuel (suc fuel) records r.next (omega arith) rest) at met)

-- a list without this number
all_differ : (k : ℕ) (ks : List ℕ) → list_any (eqb k) ks ≡ false → AllByRecursion (λ y. eqb k y ≡ false) ks
all_differ k [] none = tt
all_differ k (j ∷ ks) none = grind (arith, or_parts, eqb, all_differ k ks (or_parts (eqb k j) (list_any (eqb k) ks) none).1)

-- the records that it meets are different ones
distinct_numbers : (fuel : ℕ) (records : List ArcRec) (first : Option ℕ) → ends_from fuel records first ≡ true → IsDistinct eqb (numbers_from fuel records first)
unfolding IsDistinct
distinct_numbers fuel records None e = subst (IsDistinct eqb) (sym (numbers_none fuel records)) tt
distinct_numbers zero records (Some k) e = absurd (no_start records k e)
distinct_numbers (suc fuel) records (Some k) e =
    let b = ends_after fuel records k e in
    let new : list_any (eqb k) (numbers_from fuel records b.here.next) ≡ false = elim (cases_Bool (list_any (eqb k) (numbers_from fuel records b.here.next))) [ inl met ↦ absurd (never_back fuel records k b.here b.is b.ends met) | inr none ↦ none ] in
    subst (IsDistinct eqb) (sym (numbers_step fuel records k b.here b.is))
    (IsDistinct-cons eqb k (numbers_from fuel records b.here.next) (all_differ k (numbers_from fuel records b.here.next) new) (distinct_numbers fuel records b.here.next b.ends))

-- it has as many steps as it meets records
ends_met : (fuel : ℕ) (records : List ArcRec) (first : Option ℕ) → ends_from fuel records first ≡ true → ends_from (length (numbers_from fuel records first)) records first ≡ true
ends_met fuel records None e = ends_none (length (numbers_from fuel records None)) records
ends_met zero records (Some k) e = absurd (no_start records k e)
ends_met (suc fuel) records (Some k) e = grind (arith, ends_after, numbers_step, ends_step, ends_met fuel records (ends_after fuel records k e).here.next (ends_after fuel records k e).ends)

-- the numbers that a list has pass the test that all pass
passes_if_met : (p : ℕ → Bool) (ks : List ℕ) (q : ℕ) → list_all p ks ≡ true → list_any (eqb q) ks ≡ true → p q ≡ true
passes_if_met p [] q all met = absurd cc
passes_if_met p (k ∷ ks) q all met = grind (arith, and_parts, or_cases, equal_numbers, passes_if_met p ks q (and_parts (p k) (list_all p ks) all).1)

-- the number of a record is below theirs
pub record_within : (records : List ArcRec) (q : ℕ) → is_record records q ≡ true → q < length records
unfolding is_record
record_within records q is = grind (arith, slice_get_within)

-- a way that ends at all, ends within as many steps as there are records
pub ends_within : (fuel : ℕ) (records : List ArcRec) (first : Option ℕ) → ends_from fuel records first ≡ true → ends_of records first ≡ true
ends_within fuel records first e =
    let numbers = numbers_from fuel records first in
    let few = length-le_from_distinct_below numbers (length records) (distinct_numbers fuel records first e)
    (λ q met. record_within records q (passes_if_met (is_record records) numbers q (numbers_are_records fuel records first) met)) in
    ends_longer (length numbers) (length records) records first few (ends_met fuel records first e)
