-- Names as lines of a text.
use Rattle.std.proofs.Common.{◌≡◌, ◌<◌, ◌≤◌, ◌+◌, ◌-◌, ◌∙◌, ℕ, List, [], ◌∷◌, ◌++◌, true, length, sym, ap, arith}
use Rattle.std.specs.Prelude.{slice_index}
use Rattle.std.specs.List.{flat_map, range_with_len}
use Rattle.std.proofs.lemmas.List.Folds.{flat_map-map}
use Rattle.sgb_arrays.specs.Lists.{part_by_starts}
use Rattle.sgb_arrays.specs.Given.{is_table, names_given}
use Rattle.sgb_arrays.specs.Runs.{parts_of}
use Rattle.sgb_arrays.specs.inner.PartsLeft.{parts_left}
use Rattle.sgb_arrays.specs.inner.Puts.{put_from}
use Rattle.sgb_arrays.proofs.GivenLists.{part_ends, table_at, table_last}
use Rattle.sgb_arrays.proofs.PartsLeft.{parts_left-none}
use Rattle.sgb_arrays.proofs.PutValues.{put_from-all}

module _ (starts names : List ℕ) where
  -- the line of a name
  abbrev pub line_at : ℕ → List ℕ
  line_at v = part_by_starts names starts v ++ 10 ∷ []

  pub lines_are : parts_of line_at 0 (length starts - 1) ≡ flat_map (λ name. name ++ 10 ∷ []) (names_given starts names)
  unfolding parts_of
  lines_are = sym (flat_map-map (λ name. name ++ 10 ∷ []) (part_by_starts names starts) (range_with_len 0 (length starts - 1)))

  -- the line of a name ends where that of the next one begins
  pub line_ends : (v at : ℕ) (name : List ℕ) → is_table (length names) starts ≡ true → v < length starts - 1 → name ≡ part_by_starts names starts v
      → at ≡ slice_index starts v + v → at + (length name + 1) ≡ slice_index starts (v + 1) + (v + 1)
  line_ends v at name table within is place = omega (arith, place, ap length is, part_ends names starts v table within)

  -- within an array for all lines
  pub line_fits : (v at : ℕ) (name lines : List ℕ) → is_table (length names) starts ≡ true → v < length starts - 1 → name ≡ part_by_starts names starts v
      → at ≡ slice_index starts v + v → length lines ≡ length names + (length starts - 1) → at + length name + 1 ≤ length lines
  line_fits v at name lines table within is place places =
      omega (arith, places, line_ends v at name table within is place, (table_at (length names) starts v table within).1)

  -- after the last one all lines are put
  pub lines_put : (v at : ℕ) (now old : List ℕ) → is_table (length names) starts ≡ true → v ≡ length starts - 1 → length old ≡ length names + (length starts - 1)
      → put_from at (parts_left line_at (length starts - 1) v) now ≡ put_from 0 (parts_of line_at 0 (length starts - 1)) old
      → at + length (parts_left line_at (length starts - 1) v) ≡ length (parts_of line_at 0 (length starts - 1)) → at ≡ slice_index starts v + v
      → now ≡ flat_map (λ name. name ++ 10 ∷ []) (names_given starts names)
  lines_put v at now old table last places put end place =
      let none = parts_left-none line_at (length starts - 1) v (omega (arith, last)) in
      let whole : length old ≡ length (parts_of line_at 0 (length starts - 1)) =
      omega (arith, places, end, place, last, ap length none, ap (slice_index starts) last, table_last (length names) starts table) in
      ap (λ xs. put_from at xs now) (sym none) ∙ put ∙ put_from-all (parts_of line_at 0 (length starts - 1)) old whole ∙ lines_are
