-- Steps of walks along chains of records, and the marks that they set.
use Rattle.sgb_vec.proofs.Common.{rules, ◌≡◌, ◌≤◌, ◌<◌, ◌⊎◌, ◌+◌, ◌&&◌, ℕ, zero, suc, Bool, true, false, List, length, set, get_or, Option, Some, None, refl, ap, sym, ◌∙◌, arith, ◌-◌, slice_get, is_some, not, IsTrue, list_all, range_with_len, and_parts, cases_eq, get_or-set_same, get_or-set_other, list_all_at, slice_get_past, slice_get_within, length-range_with_len, get_or-range_with_len}
use Rattle.sgb_graph.specs.Graphs.{ends_from, numbers_of, ends_of}
use Rattle.sgb_graph.specs.Sound.{leads_to_vertex, is_vertex}
use Rattle.sgb_graph.specs.inner.Walks.{leads_of, is_marked, chains_end}
use Rattle.sgb_graph.specs.declared.fields.ArcRec.{ArcRec}
use Rattle.sgb_graph.proofs.Chains.{ends_none, ends_step, numbers_none, step_of}
use Rattle.sgb_graph.proofs.EndingWays.{ends_within}
use Rattle.sgb_graph.proofs.Lists.{list_all-range}

-- the way from a record that is not there does not end
pub ends_outside : (fuel : ℕ) (records : List ArcRec) (k : ℕ) → length records ≤ k → ends_from fuel records (Some k) ≡ false
unfolding ends_from
ends_outside zero records k out = refl
ends_outside (suc fuel) records k out = grind (arith, slice_get_past)

-- such a record is one of them
pub way_inside : (records : List ArcRec) (k : ℕ) → ends_of records (Some k) ≡ true → k < length records
way_inside records k ends = let step = step_of records k ends in slice_get_within records k step.here step.is

-- the rest of the way is shorter
pub way_shorter : (records : List ArcRec) (k : ℕ) (r : ArcRec) → ends_of records (Some k) ≡ true → slice_get records k ≡ Some r → length (numbers_of records r.next) < length (numbers_of records (Some k))
way_shorter records k r ends is =
    let step = step_of records k ends in
    grind (arith, step)

-- and ends
pub way_goes_on : (records : List ArcRec) (k : ℕ) (r : ArcRec) → ends_of records (Some k) ≡ true → slice_get records k ≡ Some r → ends_of records r.next ≡ true
way_goes_on records k r ends is =
    let step = step_of records k ends in
    grind (arith, step)

-- so many steps lead from the first record to the next one
abbrev pub StepsLead : List ArcRec → Option ℕ → ℕ → Option ℕ → Type 0
StepsLead records first steps next = (fuel : ℕ) → ends_from (fuel + steps) records first ≡ ends_from fuel records next

-- one more
pub steps_more : (records : List ArcRec) (first next : Option ℕ) (steps k : ℕ) (r : ArcRec) → StepsLead records first steps next → next ≡ Some k → slice_get records k ≡ Some r → StepsLead records first (steps + 1) r.next
steps_more records first next steps k r lead here is fuel =
    let place : suc fuel + steps ≡ fuel + (steps + 1) = omega arith in
    ap (λ n. ends_from n records first) (sym place) ∙ (lead (suc fuel) ∙ (ap (ends_from (suc fuel) records) here ∙ ends_step fuel records k r is))

-- what is left of as many steps as there are records
left_steps : (records : List ArcRec) (first : Option ℕ) (steps : ℕ) (next : Option ℕ) (left : ℕ) → StepsLead records first steps next → left + steps ≡ length records → ends_of records first ≡ ends_from left records next
left_steps records first steps next left lead place = ap (λ n. ends_from n records first) (sym place) ∙ lead left

-- the walk comes to an end
pub walk_ends : (records : List ArcRec) (first next : Option ℕ) (steps : ℕ) → StepsLead records first steps next → next ≡ None → steps ≤ length records → ends_of records first ≡ true
walk_ends records first next steps lead none few =
    left_steps records first steps next (length records - steps) lead (omega arith)
    ∙ (ap (ends_from (length records - steps) records) none ∙ ends_none (length records - steps) records)

-- it comes to a record that is not there
pub walk_outside : (records : List ArcRec) (first next : Option ℕ) (steps k : ℕ) → StepsLead records first steps next → next ≡ Some k → steps ≤ length records → length records ≤ k → ends_of records first ≡ false
walk_outside records first next steps k lead here few out =
    left_steps records first steps next (length records - steps) lead (omega arith)
    ∙ (ap (ends_from (length records - steps) records) here ∙ ends_outside (length records - steps) records k out)

-- it comes to a record from which it ends
pub walk_meets : (records : List ArcRec) (first next : Option ℕ) (steps k : ℕ) → StepsLead records first steps next → next ≡ Some k → ends_of records (Some k) ≡ true → ends_of records first ≡ true
walk_meets records first next steps k lead here ends = ends_within (length records + steps) records first (lead (length records) ∙ (ap (ends_of records) here ∙ ends))

-- after as many steps as there are records it has ended, or it never does
pub walk_is_over : (records : List ArcRec) (first next : Option ℕ) (steps : ℕ) (none : Bool) → StepsLead records first steps next → steps ≡ length records → is_some next ≡ not none → none ≡ ends_of records first
unfolding ends_from
walk_is_over records first next steps none lead all test =
    let left = left_steps records first steps next 0 lead (omega arith) in
    grind (arith, left)

-- each arc on a way leads to a vertex where the first does, and each on the way after it
pub leads_step : (records : List ArcRec) (k : ℕ) (r : ArcRec) → ends_of records (Some k) ≡ true → slice_get records k ≡ Some r → leads_of records (Some k) ≡ (is_vertex r.tip && leads_of records r.next)
leads_step records k r ends is =
    let step = step_of records k ends in
    grind (arith, step)

-- so it is told by the next record of a walk
pub leads_before : (records : List ArcRec) (first next : Option ℕ) (k : ℕ) (r : ArcRec) (tip : Bool) → next ≡ Some k → ends_of records next ≡ true → leads_of records next ≡ leads_of records first → slice_get records k ≡ Some r → is_vertex r.tip ≡ tip
    → (tip && leads_of records r.next) ≡ leads_of records first
leads_before records first next k r tip here ends same is leads = rw (← same, ← leads, here) (sym (leads_step records k r (rw here at ends) is))

-- they do on the way after it where they do on all of it
pub leads_goes_on : (records : List ArcRec) (k : ℕ) (r : ArcRec) → ends_of records (Some k) ≡ true → slice_get records k ≡ Some r → leads_of records (Some k) ≡ true → leads_of records r.next ≡ true
leads_goes_on records k r ends is all =
    (and_parts (is_vertex r.tip) (leads_of records r.next) (sym (leads_step records k r ends is) ∙ all)).1

-- no arc is on the way from none
pub leads_none : (records : List ArcRec) → leads_of records None ≡ true
leads_none records = ap (list_all (leads_to_vertex records)) (numbers_none (length records) records)

-- what holds of each marked record holds with one more, of which it holds too
pub one_more_marked : (P : ℕ → Type 0) (marks : List Bool) (k : ℕ) → P k → ((j : ℕ) → IsTrue (get_or marks j false) → P j) → (j : ℕ) → IsTrue (get_or (set marks k true) j false) → P j
one_more_marked P marks k here before j marked = search (rules, cases_eq, get_or-set_other)

-- some number below n does not pass
pub not_each_below : (p : ℕ → Bool) (n k : ℕ) → k < n → p k ≡ false → list_all p (range_with_len 0 n) ≡ false
not_each_below p n k below fails =
    let from_zero : 0 + k ≡ k = omega arith in
    let place = get_or-range_with_len 0 n k 0 below ∙ from_zero in
    grind (arith, length-range_with_len, list_all_at, place)

-- all do
pub each_below : (p : ℕ → Bool) (n : ℕ) → ((k : ℕ) → k < n → p k ≡ true) → list_all p (range_with_len 0 n) ≡ true
each_below p n each = list_all-range p 0 n (λ k below. each k (omega arith))

-- some chain does not end
pub not_all_end : (records : List ArcRec) (k : ℕ) → k < length records → ends_of records (Some k) ≡ false → chains_end records ≡ false
not_all_end records k below endless = not_each_below (λ j. ends_of records (Some j)) (length records) k below endless

-- all do
pub all_end : (records : List ArcRec) → ((k : ℕ) → k < length records → ends_of records (Some k) ≡ true) → chains_end records ≡ true
all_end records each = each_below (λ j. ends_of records (Some j)) (length records) each

-- the record after a marked one is marked, or it is the next one of the walk
abbrev pub MarksReach : List ArcRec → List Bool → Option ℕ → Type 0
MarksReach records marks next =
    (k : ℕ) (r : ArcRec) → slice_get records k ≡ Some r → IsTrue (get_or marks k false) → (r.next ≡ next) ⊎ IsTrue (is_marked marks r.next)

-- what is marked, or is the next record, is marked with it
pub reached_more : (marks : List Bool) (k : ℕ) (first : Option ℕ) → k < length marks → (first ≡ Some k) ⊎ IsTrue (is_marked marks first) → IsTrue (is_marked (set marks k true) first)
reached_more marks k first inside h = grind (arith, cases_eq, get_or-set_same, get_or-set_other)

-- the walk goes on by one record
pub reach_more : (records : List ArcRec) (marks : List Bool) (k : ℕ) (r : ArcRec) → k < length marks → slice_get records k ≡ Some r → MarksReach records marks (Some k) → MarksReach records (set marks k true) r.next
reach_more records marks k r inside is reach j x there marked = grind (arith, cases_eq, reached_more, get_or-set_other)
