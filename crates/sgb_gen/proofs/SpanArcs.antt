-- The arcs of a span, one after another.
use Rattle.std.proofs.Common.{◌≡◌, ℕ, ◌+◌, ◌-◌, ◌*◌, ◌<◌, ◌≤◌, ℤ, Bool, true, false, List, [], ◌∷◌, ◌++◌, get_or, length, map, reverse, drop, Some, sym, ap, ◌∙◌, arith}
use Rattle.std.specs.List.{range_with_len, slice_get}
use Rattle.std.specs.Prelude.{unwrap_or}
use Rattle.std.proofs.lemmas.List.{drop-map, drop_all, get_or-reverse, length-map, length-reverse}
use Rattle.std.proofs.lemmas.List.FromFn.{get_or-range_with_len, length-range_with_len}
use Rattle.std.proofs.lemmas.Option.{slice_get-get_or, slice_get_within}
use Rattle.sgb_vec.specs.Boxes.{box}
use Rattle.sgb_gen.specs.Spans.{FallBy, SpanData, arc_along, arcs_of_span}
use Rattle.sgb_gen.specs.inner.Spans.{LeadBack, LeadOn, lengths_between}
use Rattle.sgb_gen.proofs.FamilyWalks.{drop_at_vector}

-- how many lengths there are
pub lengths-count : (rising : Bool) (from to : ℕ) → length (lengths_between rising from to) ≡ to - from
lengths-count true from to = length-range_with_len (from + 1) (to - from)
lengths-count false from to = length-reverse (range_with_len (from + 1) (to - from)) ∙ length-range_with_len (from + 1) (to - from)

-- the one at a place, from the shortest on
pub length-rising : (from to k : ℕ) → k < to - from → slice_get (lengths_between true from to) k ≡ Some (from + 1 + k)
length-rising from to k within =
    slice_get-get_or (range_with_len (from + 1) (to - from)) k 0 (omega (arith, within, length-range_with_len (from + 1) (to - from)))
    ∙ ap Some (get_or-range_with_len (from + 1) (to - from) k 0 within)

-- from the longest on
pub length-falling : (from to k : ℕ) → k < to - from → slice_get (lengths_between false from to) k ≡ Some (to - k)
length-falling from to k within =
    let ls = range_with_len (from + 1) (to - from) in
    let count : length ls ≡ to - from = length-range_with_len (from + 1) (to - from) in
    slice_get-get_or (reverse ls) k 0 (omega (arith, within, length-reverse ls, count))
    ∙ ap Some (get_or-reverse ls k 0 (omega (arith, within, count))
    ∙ ap (λ i. get_or ls i 0) {x = length ls - 1 - k} {y = to - from - 1 - k} (omega (arith, count))
    ∙ get_or-range_with_len (from + 1) (to - from) (to - from - 1 - k) 0 (omega (arith, within))
    ∙ omega (arith, within))

-- where arcs lead back by a stride, the vertices fall by it from the shortest on
pub fall-back : (sizes : List ℕ) (wrap : ℤ) (x : List ℕ) (parts : List (ℕ × ℤ)) (from to v stride : ℕ) → slice_get (box sizes) v ≡ Some x → LeadBack sizes wrap x parts to stride
    → FallBy (record { sizes = sizes; wrap = wrap; x = x; parts = parts; lengths = lengths_between true from to }) (v - (from + 1) * stride) stride
fall-back sizes wrap x parts from to v stride there leads k l at =
    let few : k < to - from = omega (arith, slice_get_within (lengths_between true from to) k l at, lengths-count true from to) in
    let is : l ≡ from + 1 + k = ap (λ o. unwrap_or o 0) (sym at ∙ length-rising from to k few) in
    let lead = leads v l there (omega (arith, is)) (omega (arith, is, few)) in
    omega (arith, lead, ap (λ m. m * stride) is)

-- on, from the longest on
pub fall-on : (sizes : List ℕ) (wrap : ℤ) (x : List ℕ) (parts : List (ℕ × ℤ)) (from to v stride : ℕ) → slice_get (box sizes) v ≡ Some x → LeadOn sizes wrap x parts to stride
    → FallBy (record { sizes = sizes; wrap = wrap; x = x; parts = parts; lengths = lengths_between false from to }) (v + to * stride) stride
fall-on sizes wrap x parts from to v stride there leads k l at =
    let few : k < to - from = omega (arith, slice_get_within (lengths_between false from to) k l at, lengths-count false from to) in
    let is : l ≡ to - k = ap (λ o. unwrap_or o 0) (sym at ∙ length-falling from to k few) in
    let lead = leads v l there (omega (arith, is, few)) (omega (arith, is)) in
    let both : to ≡ l + k = omega (arith, is, few) in
    omega (arith, lead.0, ap (λ m. m * stride) both)

-- the next arc stands apart
pub next-apart : (s : SpanData) (k l : ℕ) → slice_get s.lengths k ≡ Some l
    → drop k (arcs_of_span s) ≡ (arc_along s.sizes s.wrap s.x s.parts l ∷ []) ++ drop (k + 1) (arcs_of_span s)
next-apart s k l at =
    let arc = arc_along s.sizes s.wrap s.x s.parts in
    drop-map arc k s.lengths ∙ ap (map arc) (drop_at_vector s.lengths k l at) ∙ ap (λ arcs. arc l ∷ arcs) (sym (drop-map arc (k + 1) s.lengths))

-- after the last there are none
pub none-left : (s : SpanData) (k n : ℕ) → n ≡ length s.lengths → n ≤ k → drop k (arcs_of_span s) ≡ []
none-left s k n count past =
    drop_all k (arcs_of_span s) (omega (arith, count, past, length-map s.lengths (arc_along s.sizes s.wrap s.x s.parts)))
