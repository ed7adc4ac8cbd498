-- Arrays of which a graph is made.
use Rattle.std.proofs.Common.{◌≡◌, ◌<◌, ◌≤◌, ◌+◌, ◌-◌, ℕ, ℤ, zero, suc, Bool, true, false, List, [], ◌∷◌, ◌++◌, map, length, get_or, None, refl, sym, ap, ◌∙◌, arith, subst}
use Rattle.std.specs.Prelude.{◌&&◌, nat_le, slice_index}
use Rattle.std.specs.List.{list_all, range_with_len}
use Rattle.std.proofs.lemmas.Bool.{and_parts}
use Rattle.std.proofs.lemmas.Bool.Decides.{nat_tests}
use Rattle.std.proofs.lemmas.List.{length-drop, length-map, length-take}
use Rattle.std.proofs.lemmas.List.Folds.{list_all-append, list_all_at}
use Rattle.std.proofs.lemmas.List.FromFn.{get_or-map-range_with_len, length-map-range_with_len, map-range_with_len_more}
use Rattle.std.proofs.lemmas.List.Sums.{fold-append}
use Rattle.sgb_graph.specs.Graphs.{GraphData}
use Rattle.sgb_graph.specs.Growth.{new_graph, new_vertex, with_event, with_events}
use Rattle.sgb_arrays.specs.Lists.{part_by_starts}
use Rattle.sgb_arrays.specs.Given.{climbs_to, event_given, fault_of, is_table, names_given}
use Rattle.sgb_arrays.specs.inner.Given.{are_below}

-- places that climb end no lower than they begin
pub climbs_up : (end first : ℕ) (xs : List ℕ) → climbs_to end first xs ≡ true → first ≤ end
climbs_up end first [] e = grind (arith, nat_tests, e)
climbs_up end first (x ∷ xs) e = let (low, high) = and_parts (nat_le first x) (climbs_to end x xs) e in grind (arith, nat_tests, low, climbs_up end x xs high)

-- each is no lower than the one before, and none is higher than the last
pub climbs_at : (end first : ℕ) (xs : List ℕ) (v : ℕ) → climbs_to end first xs ≡ true → v < length xs
    → (get_or (first ∷ xs) v 0 ≤ get_or xs v 0) × (get_or xs v 0 ≤ end)
climbs_at end first [] v e below = absurd (omega (arith, below))
climbs_at end first (x ∷ xs) zero e below =
    let (low, high) = and_parts (nat_le first x) (climbs_to end x xs) e in (grind (arith, nat_tests, low), climbs_up end x xs high)
climbs_at end first (x ∷ xs) (suc v) e below =
    let (low, high) = and_parts (nat_le first x) (climbs_to end x xs) e in climbs_at end x xs v high (omega (arith, below))

-- so it is with a table
pub table_at : (end : ℕ) (starts : List ℕ) (v : ℕ) → is_table end starts ≡ true → v < length starts - 1
    → (slice_index starts v ≤ slice_index starts (v + 1)) × (slice_index starts (v + 1) ≤ end)
table_at end [] v e below = absurd (omega (arith, below))
table_at end (x ∷ xs) v e below =
    let (zero', high) = and_parts _ (climbs_to end x xs) e in
    let next : suc v ≡ v + 1 = omega arith in
    subst (λ (k : ℕ). (get_or (x ∷ xs) v 0 ≤ get_or (x ∷ xs) k 0) × (get_or (x ∷ xs) k 0 ≤ end)) next (climbs_at end x xs v high (omega (arith, below)))

-- part v ends where the next one starts
pub part_ends : (bytes starts : List ℕ) (v : ℕ) → is_table (length bytes) starts ≡ true → v < length starts - 1
    → slice_index starts v + length (part_by_starts bytes starts v) ≡ slice_index starts (v + 1)
part_ends bytes starts v e below =
    let (up, within) = table_at (length bytes) starts v e below in
    let next : suc v ≡ v + 1 = omega arith in
    rw next (grind (arith, length-take, length-drop, up, within))

-- the first place is 0, and the last one is the end
pub table_first : (end : ℕ) (starts : List ℕ) → is_table end starts ≡ true → slice_index starts 0 ≡ 0
table_first end [] e = refl
table_first end (x ∷ xs) e = grind (arith, nat_tests, and_parts _ (climbs_to end x xs) e)

climbs_last : (end first : ℕ) (xs : List ℕ) → climbs_to end first xs ≡ true → get_or (first ∷ xs) (length xs) 0 ≡ end
climbs_last end first [] e = grind (arith, nat_tests, e)
climbs_last end first (x ∷ xs) e = climbs_last end x xs (and_parts (nat_le first x) (climbs_to end x xs) e).1

pub table_last : (end : ℕ) (starts : List ℕ) → is_table end starts ≡ true → slice_index starts (length starts - 1) ≡ end
table_last end [] e = absurd (grind (arith, e))
table_last end (x ∷ xs) e =
    let same : length (x ∷ xs) - 1 ≡ length xs = omega arith in
    ap (λ k. get_or (x ∷ xs) k 0) same ∙ climbs_last end x xs (and_parts _ (climbs_to end x xs) e).1

and_both : (x y : Bool) → x ≡ true → y ≡ true → (x && y) ≡ true
and_both true true e f = refl
and_both true false e f = f
and_both false y e f = e

-- names that are texts, up to this one
pub name_passes : (p : List ℕ → Bool) (f : ℕ → List ℕ) (v : ℕ) → list_all p (map f (range_with_len 0 v)) ≡ true → p (f v) ≡ true → list_all p (map f (range_with_len 0 (v + 1))) ≡ true
name_passes p f v before now =
    ap (list_all p) (map-range_with_len_more f 0 v v (omega arith)) ∙ list_all-append p (map f (range_with_len 0 v)) (f v ∷ []) ∙ and_both _ _ before (and_both (p (f v)) true now refl)

-- one that is none
pub name_fails : (p : List ℕ → Bool) (f : ℕ → List ℕ) (v n : ℕ) → v < n → p (f v) ≡ false → list_all p (map f (range_with_len 0 n)) ≡ false
name_fails p f v n below now =
    list_all_at p (map f (range_with_len 0 n)) v [] (omega (arith, below, length-map-range_with_len f 0 n)) (ap p (get_or-map-range_with_len f 0 n v v [] below (omega arith)) ∙ now)

-- the names, up to this one
pub name_more : (f : ℕ → List ℕ) (v : ℕ) (names new : List (List ℕ)) (x : List ℕ) → names ≡ map f (range_with_len 0 v) → x ≡ f v → new ≡ names ++ x ∷ [] → new ≡ map f (range_with_len 0 (v + 1))
name_more f v names new x before is more =
    more ∙ ap (λ ys. ys ++ x ∷ []) before ∙ ap (λ y. map f (range_with_len 0 v) ++ y ∷ []) is ∙ sym (map-range_with_len_more f 0 v v (omega arith))

-- where nothing is wrong with arrays the ends are vertices
no_fault : (starts bytes from to : List ℕ) (lengths : List ℤ) (id : List ℕ) → fault_of starts bytes from to lengths id ≡ None
    → (are_below (length starts - 1) from && are_below (length starts - 1) to) ≡ true
no_fault starts bytes from to lengths id e = grind (arith, e)

-- and there are as many as lengths
pub as_many : (starts bytes from to : List ℕ) (lengths : List ℤ) (id : List ℕ) → fault_of starts bytes from to lengths id ≡ None
    → (length from ≡ length lengths) × (length to ≡ length lengths)
as_many starts bytes from to lengths id e = (grind (arith, e), grind (arith, e))

-- the ends are vertices of the graph of the names
pub ends_there : (starts bytes from to : List ℕ) (lengths : List ℤ) (id : List ℕ) (g : GraphData) → fault_of starts bytes from to lengths id ≡ None
    → g ≡ new_graph (names_given starts bytes) → (are_below (length g.vertices) from ≡ true) × (are_below (length g.vertices) to ≡ true)
ends_there starts bytes from to lengths id g e is =
    let n = length starts - 1 in
    let size : n ≡ length g.vertices =
    sym (ap (λ (h : GraphData). length h.vertices) is ∙ length-map (names_given starts bytes) new_vertex ∙ length-map-range_with_len (part_by_starts bytes starts) 0 n) in
    let ends = and_parts (are_below n from) (are_below n to) (no_fault starts bytes from to lengths id e) in
    (subst (λ (k : ℕ). are_below k from ≡ true) size ends.0, subst (λ (k : ℕ). are_below k to ≡ true) size ends.1)

-- the graph with one event more
pub event_more : (directed : Bool) (g h now : GraphData) (from to : List ℕ) (lengths : List ℤ) (k : ℕ)
    → h ≡ with_events directed g (map (event_given from to lengths) (range_with_len 0 k)) → now ≡ with_event directed h (event_given from to lengths k)
    → now ≡ with_events directed g (map (event_given from to lengths) (range_with_len 0 (k + 1)))
event_more directed g h now from to lengths k before is =
    is ∙ ap (λ x. with_event directed x (event_given from to lengths k)) before
    ∙ sym (ap (with_events directed g) (map-range_with_len_more (event_given from to lengths) 0 k k (omega arith))
    ∙ fold-append (with_event directed) g (map (event_given from to lengths) (range_with_len 0 k)) (event_given from to lengths k ∷ []))
