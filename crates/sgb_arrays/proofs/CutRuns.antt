-- Arrays of the lists of all vertices, cut down to those of a run.
use Rattle.std.proofs.Common.{◌≡◌, ◌∙◌, ℕ, zero, suc, ◌+◌, ◌-◌, ◌≤◌, ◌<◌, List, [], ◌∷◌, ◌++◌, append_assoc, drop, length, map, take, refl, sym, ap, ap₂, add-one, arith}
use Rattle.std.specs.Prelude.{slice_index, slice_range}
use Rattle.std.specs.List.{flat_map, range_with_len}
use Rattle.std.proofs.lemmas.List.{length-append, length-map, map-append}
use Rattle.std.proofs.lemmas.List.FromFn.{length-range_with_len}
use lib.Seq.{take-append_seam, drop-append_seam}
use Rattle.sgb_vec.proofs.Lists.{range-joined}
use Rattle.sgb_arrays.specs.Lists.{starts_from}
use Rattle.sgb_arrays.specs.Runs.{part_starts, parts_of}
use Rattle.sgb_arrays.specs.inner.Cuts.{arcs_cut, starts_cut, values_cut}
use Rattle.sgb_arrays.proofs.RunSteps.{length-part_starts, parts_joined}

-- of starts of parts those from a part on
starts_dropped : {X : Type 0} (parts : ℕ → List X) (at : ℕ) (vs ws : List ℕ)
    → drop (length vs) (starts_from at (map (λ u. length (parts u)) (vs ++ ws))) ≡ starts_from (at + length (flat_map parts vs)) (map (λ u. length (parts u)) ws)
starts_dropped parts at [] ws =
    let same : at ≡ at + 0 = omega arith in
    ap (λ k. starts_from k (map (λ u. length (parts u)) ws)) same
starts_dropped parts at (v ∷ vs) ws =
    let same : (at + length (parts v)) + length (flat_map parts vs) ≡ at + length (parts v ++ flat_map parts vs) = omega (arith, length-append (parts v) (flat_map parts vs)) in
    starts_dropped parts (at + length (parts v)) vs ws ∙ ap (λ k. starts_from k (map (λ u. length (parts u)) ws)) same

-- and those up to a part
starts_taken : {X : Type 0} (parts : ℕ → List X) (at : ℕ) (vs ws : List ℕ)
    → take (suc (length vs)) (starts_from at (map (λ u. length (parts u)) (vs ++ ws))) ≡ starts_from at (map (λ u. length (parts u)) vs)
starts_taken parts at [] [] = refl
starts_taken parts at [] (w ∷ ws) = refl
starts_taken parts at (v ∷ vs) ws = ap (λ ks. at ∷ ks) (starts_taken parts (at + length (parts v)) vs ws)

-- one of them
start_there : {X : Type 0} (parts : ℕ → List X) (at : ℕ) (vs ws : List ℕ)
    → slice_index (starts_from at (map (λ u. length (parts u)) (vs ++ ws))) (length vs) ≡ at + length (flat_map parts vs)
start_there parts at [] [] = omega arith
start_there parts at [] (w ∷ ws) = omega arith
start_there parts at (v ∷ vs) ws = omega (arith, start_there parts (at + length (parts v)) vs ws, length-append (parts v) (flat_map parts vs))

-- counted from another place
starts_moved : (from at : ℕ) (sizes : List ℕ) → map (λ start. start - from) (starts_from (from + at) sizes) ≡ starts_from at sizes
starts_moved from at [] =
    let here : (from + at) - from ≡ at = omega arith in
    ap (λ k. k ∷ []) here
starts_moved from at (size ∷ sizes) =
    let here : (from + at) - from ≡ at = omega arith in
    let next : (from + at) + size ≡ from + (at + size) = omega arith in
    ap₂ (λ k ks. k ∷ ks) here (ap (λ k. map (λ start. start - from) (starts_from k sizes)) next ∙ starts_moved from (at + size) sizes)

-- a middle part of a list
middle_there : {X : Type 0} (before part after values : List X) (from size : ℕ) → values ≡ before ++ (part ++ after) → from ≡ length before → size ≡ length part
    → take size (drop from values) ≡ part
middle_there before part after values from size is begin long =
    ap₂ (λ k xs. take size (drop k xs)) begin is ∙ ap (take size) (drop-append_seam before (part ++ after)) ∙ ap (λ k. take k (part ++ after)) long ∙ take-append_seam part after

module _ {X : Type 0} (parts : ℕ → List X) where
  -- where a part starts
  pub start_is : (n v : ℕ) (starts : List ℕ) → v ≤ n → starts ≡ part_starts parts 0 n → slice_index starts v ≡ length (parts_of parts 0 v)
  unfolding part_starts parts_of
  start_is n v starts within is =
      let all : n ≡ v + (n - v) = omega (arith, within) in
      let begin : 0 + v ≡ v = omega arith in
      let rest = range_with_len (0 + v) (n - v) in
      let joined = ap (range_with_len 0) all ∙ range-joined 0 v (n - v) in
      let there = start_there parts 0 (range_with_len 0 v) rest in
      let first = ap (λ vs. slice_index (starts_from 0 (map (λ u. length (parts u)) vs)) v) joined in
      let place = ap (slice_index (starts_from 0 (map (λ u. length (parts u)) (range_with_len 0 v ++ rest)))) (sym (length-range_with_len 0 v)) in
      omega (arith, ap (λ ss. slice_index ss v) is, first, place, there)

  -- those before a run, and those of it
  pub run_joined : (first count : ℕ) → parts_of parts 0 (first + count) ≡ parts_of parts 0 first ++ parts_of parts first count
  run_joined first count =
      let begin : 0 + first ≡ first = omega arith in
      parts_joined parts 0 first count ∙ ap (λ k. parts_of parts 0 first ++ parts_of parts k count) begin

  module _ (n first count : ℕ) (starts : List ℕ) (there : first + count ≤ n) (is : starts ≡ part_starts parts 0 n) where
    begun : slice_index starts first ≡ length (parts_of parts 0 first)
    begun = start_is n first starts (omega (arith, there)) is

    ended : slice_index starts (first + count) ≡ length (parts_of parts 0 (first + count))
    ended = start_is n (first + count) starts there is

    joined : length (parts_of parts 0 (first + count)) ≡ length (parts_of parts 0 first) + length (parts_of parts first count)
    joined = ap length (run_joined first count) ∙ length-append (parts_of parts 0 first) (parts_of parts first count)

    -- the run is there, and stands in the arrays
    pub cut_there : first + count < length starts
    cut_there = omega (arith, there, ap length is, length-part_starts parts 0 n)

    pub cut_rises : slice_index starts first ≤ slice_index starts (first + count)
    cut_rises = omega (arith, begun, ended, joined)

    pub cut_size : arcs_cut starts first count ≡ length (parts_of parts first count)
    cut_size = omega (arith, begun, ended, joined)

    whole : parts_of parts 0 n ≡ parts_of parts 0 first ++ (parts_of parts first count ++ parts_of parts (first + count) (n - (first + count)))
    whole =
        let all : n ≡ (first + count) + (n - (first + count)) = omega (arith, there) in
        ap (parts_of parts 0) all ∙ run_joined (first + count) (n - (first + count)) ∙ ap (λ xs. xs ++ parts_of parts (first + count) (n - (first + count))) (run_joined first count)
        ∙ append_assoc (parts_of parts 0 first) (parts_of parts first count) (parts_of parts (first + count) (n - (first + count)))

    pub cut_within : slice_index starts (first + count) ≤ length (parts_of parts 0 n)
    cut_within =
        let after = parts_of parts (first + count) (n - (first + count)) in
        omega (arith, ended, joined, ap length whole, length-append (parts_of parts 0 first) (parts_of parts first count ++ after), length-append (parts_of parts first count) after)

    -- what the arrays say of the run is cut out of them
    pub cut_values : {Y : Type 0} (f : X → Y) (values : List Y) → values ≡ map f (parts_of parts 0 n) → values_cut values starts first count ≡ map f (parts_of parts first count)
    cut_values f values are =
        let own = parts_of parts first count in
        let after = parts_of parts (first + count) (n - (first + count)) in
        let split = are ∙ ap (map f) whole ∙ map-append f (parts_of parts 0 first) (own ++ after) ∙ ap (λ ys. map f (parts_of parts 0 first) ++ ys) (map-append f own after) in
        let from = begun ∙ sym (length-map (parts_of parts 0 first) f) in
        let size = cut_size ∙ sym (length-map own f) in
        middle_there (map f (parts_of parts 0 first)) (map f own) (map f after) values _ _ split from size

    cut_starts_from : slice_range starts first (first + count + 1) ≡ starts_from (length (parts_of parts 0 first)) (map (λ u. length (parts u)) (range_with_len first count))
    unfolding part_starts parts_of
    cut_starts_from =
        let rest = n - (first + count) in
        let all : n ≡ first + (count + rest) = omega (arith, there) in
        let begin : 0 + first ≡ first = omega arith in
        let from : 0 + length (flat_map parts (range_with_len 0 first)) ≡ length (flat_map parts (range_with_len 0 first)) = omega arith in
        let size : (first + count + 1) - first ≡ suc (length (range_with_len first count)) = omega (arith, add-one count, length-range_with_len first count) in
        let before = range_with_len 0 first in
        let own = range_with_len first count in
        let after = range_with_len (first + count) rest in
        let vertices = ap (range_with_len 0) all ∙ range-joined 0 first (count + rest) ∙ ap (λ k. before ++ range_with_len k (count + rest)) begin ∙ ap (λ vs. before ++ vs) (range-joined first count rest) in
        let begun_there = ap (λ k. drop k (starts_from 0 (map (λ u. length (parts u)) (before ++ (own ++ after))))) (sym (length-range_with_len 0 first)) in
        let dropped = ap (drop first) (is ∙ ap (λ vs. starts_from 0 (map (λ u. length (parts u)) vs)) vertices) ∙ begun_there ∙ starts_dropped parts 0 before (own ++ after)
        ∙ ap (λ k. starts_from k (map (λ u. length (parts u)) (own ++ after))) from in
        ap₂ take size dropped ∙ starts_taken parts (length (flat_map parts before)) own after

    pub cut_starts : starts_cut starts first count ≡ part_starts parts first count
    unfolding part_starts
    cut_starts =
        let from = length (parts_of parts 0 first) in
        let none : from ≡ from + 0 = omega arith in
        let sizes = map (λ u. length (parts u)) (range_with_len first count) in
        ap₂ (λ k ss. map (λ start. start - k) ss) begun cut_starts_from ∙ ap (λ k. map (λ start. start - from) (starts_from k sizes)) none ∙ starts_moved from 0 sizes
