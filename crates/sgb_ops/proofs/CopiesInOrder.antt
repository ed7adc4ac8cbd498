-- The copies of the vertices, one vertex after another.
use Rattle.sgb_vec.proofs.Common.{◌≡◌, ◌<◌, ◌≤◌, ◌+◌, ◌-◌, ℕ, zero, suc, List, [], ◌∷◌, ◌++◌, length, take, false, refl, sym, ap, ◌∙◌, inl, inr, append-nil, arith, ◌⊎◌, Contains, Option, Some, None, filter, flat_map, nat_le, slice_get, sum_by, list_any, range_with_len, option_map_or, cases_lt, le-leb, lt-leb, nat_tests, flat_map-append, take_all, All-contains}
use Rattle.sgb_vec.proofs.Lists.{range-within, filter-all, range-joined, range-more}
use Rattle.sgb_ops.specs.declared.induced_graphs.entries.Entry.{Entry}
use Rattle.sgb_ops.specs.Copies.{own_copies}
use Rattle.sgb_ops.specs.Entries.{copies_by, copies_of, first_copy, is_unnumbered, merged_count, merged_number, size_of_entry}
use Rattle.sgb_ops.specs.inner.Entries.{own_total}
use Rattle.sgb_ops.specs.declared.induced_graphs.entries.Entry.TheVariants as entry
use Rattle.sgb_ops.proofs.EntryTotals.{next_first, number_below, numbered_one}

-- how many copies a vertex has alone
abbrev size_at : List Entry → ℕ → ℕ
size_at entries v = option_map_or size_of_entry (slice_get entries v) 0

-- of the copies by an entry those are kept that stand for its vertex alone
own_by : (k start : ℕ) (e : Entry) → k ≤ start → merged_number e ≤ k → is_unnumbered e ≡ false → filter (nat_le k) (copies_by start e) ≡ range_with_len start (size_of_entry e)
own_by k start e low few numbered = grind (arith, lt-leb, nat_tests, filter-all, le-leb, range-within)

own_at : (entries : List Entry) (v : ℕ) (o : Option Entry) → slice_get entries v ≡ o → list_any is_unnumbered entries ≡ false
    → filter (nat_le (merged_count entries)) (option_map_or (copies_by (first_copy entries v)) o []) ≡ range_with_len (first_copy entries v) (option_map_or size_of_entry o 0)
own_at entries v o here numbered = grind (arith, own_by, number_below, numbered_one)

own_range : (entries : List Entry) (v : ℕ) → list_any is_unnumbered entries ≡ false → own_copies entries v ≡ range_with_len (first_copy entries v) (size_at entries v)
own_range entries v numbered = own_at entries v (slice_get entries v) refl numbered

-- the copies of the vertices before v
copies_before : (entries : List Entry) (v : ℕ) → list_any is_unnumbered entries ≡ false → flat_map (own_copies entries) (range_with_len 0 v) ≡ range_with_len (merged_count entries) (own_total (take v entries))
copies_before entries zero numbered = refl
copies_before entries (suc v) numbered =
    let k = merged_count entries in
    let before = copies_before entries v numbered in
    let more : suc v ≡ v + 1 = omega arith in
    let place : 0 + v ≡ v = omega arith in
    let next : own_total (take v entries) + size_at entries v ≡ own_total (take (suc v) entries) = omega (arith, next_first entries v) in
    ap (λ n. flat_map (own_copies entries) (range_with_len 0 n)) more ∙ ap (flat_map (own_copies entries)) (range-more 0 v)
    ∙ (flat_map-append (own_copies entries) (range_with_len 0 v) ((0 + v) ∷ [])
    ∙ (ap (λ ks. ks ++ flat_map (own_copies entries) ((0 + v) ∷ [])) before
    ∙ (ap (λ (i : ℕ). range_with_len k (own_total (take v entries)) ++ flat_map (own_copies entries) (i ∷ [])) place
    ∙ (ap (λ ks. range_with_len k (own_total (take v entries)) ++ ks) (append-nil (own_copies entries v) ∙ own_range entries v numbered)
    ∙ (sym (range-joined k (own_total (take v entries)) (size_at entries v)) ∙ ap (range_with_len k) next)))))

pub copies_are_all : (entries : List Entry) → list_any is_unnumbered entries ≡ false
    → flat_map (own_copies entries) (range_with_len 0 (length entries)) ≡ range_with_len (merged_count entries) (sum_by size_of_entry entries)
copies_are_all entries numbered =
    copies_before entries (length entries) numbered ∙ ap (λ es. range_with_len (merged_count entries) (own_total es)) (take_all (length entries) entries (omega arith))

-- a copy by an entry stands for its vertex alone, between the first one and that of the next vertex; or it is its merged one
by_entry : (start u : ℕ) (e : Entry) → is_unnumbered e ≡ false → Contains (copies_by start e) u → ((start ≤ u) × (u < start + size_of_entry e)) ⊎ (e ≡ entry.Merged (u + 1))
by_entry start u e numbered h = grind (arith, All-contains, range-within, nat_tests)

-- the same for the copies of a vertex
pub copy_between : (entries : List Entry) (v u : ℕ) → list_any is_unnumbered entries ≡ false → Contains (copies_of entries v) u
    → ((first_copy entries v ≤ u) × (u < first_copy entries (suc v))) ⊎ (slice_get entries v ≡ Some (entry.Merged (u + 1)))
copy_between entries v u numbered copy = by_option (slice_get entries v) refl copy
  where
    by_option : (o : Option Entry) → slice_get entries v ≡ o → Contains (option_map_or (copies_by (first_copy entries v)) o []) u
        → ((first_copy entries v ≤ u) × (u < first_copy entries (suc v))) ⊎ (slice_get entries v ≡ Some (entry.Merged (u + 1)))
    by_option None here (k, below, at) = absurd (omega (arith, below))
    by_option (Some e) here inside = elim (by_entry (first_copy entries v) u e (numbered_one entries v e numbered here) inside) [
      | inl between ↦ grind (arith, size_at, next_first)
      | inr merged ↦ inr (here ∙ ap (λ (x : Entry). Some x) merged)
    ]

-- first copies rise
firsts_rise : (entries : List Entry) (v d : ℕ) → first_copy entries v ≤ first_copy entries (d + v)
firsts_rise entries v zero = grind (arith)
firsts_rise entries v (suc d) =
    let next : suc d + v ≡ suc (d + v) = omega arith in
    omega (arith, firsts_rise entries v d, next_first entries (d + v), ap (first_copy entries) next)

pub firsts_order : (entries : List Entry) (v w : ℕ) → v < w → first_copy entries (suc v) ≤ first_copy entries w
firsts_order entries v w less =
    let place : (w - suc v) + suc v ≡ w = omega (arith, less) in
    omega (arith, firsts_rise entries (suc v) (w - suc v), ap (first_copy entries) place)

-- a merged copy stands before all that stand for one vertex alone
merged_first : (entries : List Entry) (v w u : ℕ) → slice_get entries v ≡ Some (entry.Merged (u + 1)) → u < first_copy entries w
merged_first entries v w u merged = omega (arith, number_below entries v (entry.Merged (u + 1)) merged)

pub copies_are_apart : (entries : List Entry) (u v w : ℕ) → list_any is_unnumbered entries ≡ false
    → Contains (copies_of entries v) u → Contains (copies_of entries w) u
    → (v ≡ w) ⊎ ((slice_get entries v ≡ Some (entry.Merged (u + 1))) × (slice_get entries w ≡ Some (entry.Merged (u + 1))))
copies_are_apart entries u v w numbered first second = grind (arith, copy_between entries v u numbered first, copy_between entries w u numbered second, cases_lt, firsts_order, merged_first)
