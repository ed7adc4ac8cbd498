-- What there is for the vertices of a run, by their places in it.
use Rattle.std.proofs.Common.{◌≡◌, ◌∙◌, ℕ, zero, suc, ◌+◌, List, ◌++◌, length, refl, sym, ap, ap₂, add-one, arith}
use Rattle.std.proofs.lemmas.List.FromFn.{fill_by_all, get_or-map-range_with_len, length-map-range_with_len}
use Rattle.std.specs.List.{range_with_len}
use Rattle.std.specs.Prelude.{map}
use Rattle.sgb_arrays.specs.Lists.{starts_from}
use Rattle.sgb_arrays.specs.Runs.{part_starts, parts_of}
use Rattle.sgb_arrays.proofs.RunSteps.{parts_more}

module _ {X : Type 0} (parts : ℕ → List X) (first : ℕ) where
  -- that of a vertex, by its place
  at_place : ℕ → List X
  at_place k = parts (first + k)

  -- one after another
  pub parts_by_place : (count : ℕ) → parts_of (λ k. parts (first + k)) 0 count ≡ parts_of parts first count
  unfolding parts_of
  parts_by_place zero = refl
  parts_by_place (suc count) =
      let place : first + (0 + count) ≡ first + count = omega arith in
      let one : suc count ≡ count + 1 = sym (add-one count) in
      ap (parts_of (λ k. parts (first + k)) 0) one ∙ parts_more (λ k. parts (first + k)) 0 count
      ∙ ap₂ (λ xs k. xs ++ parts k) (parts_by_place count) place ∙ sym (parts_more parts first count) ∙ ap (parts_of parts first) (sym one)

  -- where each starts
  pub starts_by_place : (count : ℕ) → part_starts (λ k. parts (first + k)) 0 count ≡ part_starts parts first count
  unfolding part_starts
  starts_by_place count =
      let sizes = fill_by_all (λ k. length (parts (first + k))) (map (λ v. length (parts v)) (range_with_len first count)) count 0 (length-map-range_with_len (λ v. length (parts v)) first count)
      (λ k within. get_or-map-range_with_len (λ v. length (parts v)) first count k (first + k) 0 within refl) in
      ap (starts_from 0) (sym sizes)
