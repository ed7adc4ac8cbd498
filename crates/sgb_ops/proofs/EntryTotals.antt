-- How many vertices entries make.
use Rattle.sgb_vec.proofs.Common.{◌≡◌, ◌≢◌, ◌<◌, ◌≤◌, ◌+◌, ◌-◌, ℕ, zero, suc, false, List, [], ◌∷◌, ◌++◌, take, drop, max, length, get_or, Option, Some, None, refl, sym, ap, ◌∙◌, arith, rules, All, ◌||◌, slice_get, list_any, range_with_len, option_map_or, or_parts, nat_tests, drop_more, take_more, slice_get_read, All-nil, All-cons, All-append, length-map-range_with_len, get_or-map-range_with_len, sum_by-cons, sum_by_push, sum_by-take-le, Ok}
use Rattle.sgb_vec.specs.Limits.{most_vertices}
use Rattle.sgb_ops.specs.declared.induced_graphs.entries.Entry.{Entry}
use Rattle.sgb_ops.specs.declared.induced_graphs.entries.Entry.TheVariants as entry
use Rattle.sgb_ops.specs.inner.Copies.{IsKeptEntry, copies_end, copies_start, count_by, first_copies, merged_of, start_by}
use Rattle.sgb_ops.specs.Entries.{accepted_entries, copies_of, first_copy, is_unnumbered, merged_count, merged_number, size_of_entry}
use Rattle.sgb_ops.specs.inner.Entries.{own_total, total_of}

-- the entries up to the one at this place
entries_more : (entries : List Entry) (i : ℕ) (e : Entry) → i < length entries → e ≡ get_or entries i e → take (i + 1) entries ≡ take i entries ++ e ∷ []
entries_more entries i e below is = take_more entries i e below ∙ ap (λ x. take i entries ++ x ∷ []) (sym is)

-- it counts
pub total_more : (entries : List Entry) (i : ℕ) (e : Entry) → i < length entries → e ≡ get_or entries i e → own_total (take (i + 1) entries) ≡ own_total (take i entries) + size_of_entry e
total_more entries i e below is = ap own_total (entries_more entries i e below is) ∙ sum_by_push size_of_entry (take i entries) e

-- the copies of an entry are among those of all
pub place_fits : (entries : List Entry) (v : ℕ) (e : Entry) → v < length entries → e ≡ get_or entries v e → first_copy entries v + size_of_entry e ≤ total_of entries
place_fits entries v e below is = omega (arith, total_more entries v e below is, sum_by-take-le size_of_entry entries (v + 1))

-- it is sound, as those before are
pub kept_more : (entries : List Entry) (i : ℕ) (e : Entry) → i < length entries → e ≡ get_or entries i e → All IsKeptEntry (take i entries) → IsKeptEntry e → All IsKeptEntry (take (i + 1) entries)
kept_more entries i e below is before now =
    rw (entries_more entries i e below is) (All-append IsKeptEntry (take i entries) (e ∷ []) before (All-cons IsKeptEntry e [] now (All-nil IsKeptEntry)))

-- such entries, one for each vertex, are accepted where each merged vertex has a number
pub few_accepted : (n : ℕ) (entries : List Entry) → length entries ≡ n → list_any is_unnumbered entries ≡ false → total_of entries ≤ most_vertices → accepted_entries n entries ≡ Ok entries
few_accepted n entries count numbered few = grind (arith, nat_tests)

-- the first copy of a vertex or of what comes after the last one, where it is looked up
pub first_at : (entries : List Entry) (firsts : List ℕ) (v d : ℕ) → firsts ≡ first_copies entries → v ≤ length entries → get_or firsts v d ≡ first_copy entries v
first_at entries firsts v d is within =
    ap (λ ks. get_or ks v d) is ∙ get_or-map-range_with_len (first_copy entries) 0 (length entries + 1) v v d (omega (arith, within)) (omega arith)

pub length-firsts : (entries : List Entry) (firsts : List ℕ) → firsts ≡ first_copies entries → length firsts ≡ length entries + 1
length-firsts entries firsts is = ap length is ∙ length-map-range_with_len (first_copy entries) 0 (length entries + 1)

-- the copies of a vertex alone come between its first one and that of the next vertex
next_own : (entries : List Entry) (v : ℕ) → own_total (take (suc v) entries) ≡ own_total (take v entries) + option_map_or size_of_entry (slice_get entries v) 0
next_own [] zero = refl
next_own [] (suc v) = refl
next_own (e ∷ entries) zero = omega (arith, sum_by-cons size_of_entry e [])
next_own (e ∷ entries) (suc v) = search (rules, sum_by-cons, size_of_entry, next_own entries v)

pub next_first : (entries : List Entry) (v : ℕ) → first_copy entries (suc v) ≡ first_copy entries v + option_map_or size_of_entry (slice_get entries v) 0
next_first entries v = omega (arith, next_own entries v)

pub next_copy : (entries : List Entry) (v : ℕ) → first_copy entries (v + 1) ≡ first_copy entries v + option_map_or size_of_entry (slice_get entries v) 0
next_copy entries v = grind (arith, next_first)

pub copies-range : (entries : List Entry) (v : ℕ) → copies_of entries v ≡ range_with_len (copies_start entries v) (option_map_or count_by (slice_get entries v) 0)
copies-range entries v = grind (arith)

pub copies_between : (entries : List Entry) (v a b : ℕ) → a ≡ copies_start entries v → b ≡ copies_end entries v → range_with_len a (b - a) ≡ copies_of entries v
copies_between entries v a b first last = search (rules, copies-range)

-- the entry that is looked up
pub entry_there : (entries : List Entry) (v : ℕ) (e : Entry) → v < length entries → e ≡ get_or entries v e → slice_get entries v ≡ Some e
entry_there entries v e below is = slice_get_read entries (length entries) v e refl below is

-- other copies begin at the first one, and end where those of the next vertex begin
own_by : (first : ℕ) (e : Entry) → ((k : ℕ) → e ≢ entry.Merged k) → (start_by first e ≡ first) × (count_by e ≡ size_of_entry e)
own_by first e other = grind (arith)

-- what is left of entries, one after another
pub unnumbered_left : (entries : List Entry) (i : ℕ) (e : Entry) → i < length entries → e ≡ get_or entries i e
    → list_any is_unnumbered (drop i entries) ≡ is_unnumbered e || list_any is_unnumbered (drop (i + 1) entries)
unnumbered_left entries i e below is = ap (list_any is_unnumbered) (drop_more entries i e below ∙ ap (λ x. x ∷ drop (i + 1) entries) (sym is))

pub merged_left : (entries : List Entry) (i : ℕ) (e : Entry) → i < length entries → e ≡ get_or entries i e
    → merged_count (drop i entries) ≡ max (merged_number e) (merged_count (drop (i + 1) entries))
merged_left entries i e below is = ap merged_count (drop_more entries i e below ∙ ap (λ x. x ∷ drop (i + 1) entries) (sym is))

-- a merged number is among those that there are
pub number_below : (entries : List Entry) (v : ℕ) (e : Entry) → slice_get entries v ≡ Some e → merged_number e ≤ merged_count entries
number_below [] v e here = absurd (search (rules, here))
number_below (x ∷ entries) zero e here = let same : x ≡ e = search (rules, here) in omega (arith, ap merged_number same)
number_below (x ∷ entries) (suc v) e here = omega (arith, number_below entries v e here)

-- none of numbered entries has no number
pub numbered_one : (entries : List Entry) (v : ℕ) (e : Entry) → list_any is_unnumbered entries ≡ false → slice_get entries v ≡ Some e → is_unnumbered e ≡ false
numbered_one [] v e numbered here = absurd (search (rules, here))
numbered_one (x ∷ entries) zero e numbered here = let same : x ≡ e = search (rules, here) in ap is_unnumbered (sym same) ∙ (or_parts (is_unnumbered x) (list_any is_unnumbered entries) numbered).0
numbered_one (x ∷ entries) (suc v) e numbered here = numbered_one entries v e (or_parts (is_unnumbered x) (list_any is_unnumbered entries) numbered).1 here

-- they are among those of all
fits_by : (total first : ℕ) (e : Entry) → first + size_of_entry e ≤ total → merged_number e ≤ total → is_unnumbered e ≡ false → start_by first e + count_by e ≤ total
fits_by total first e own merged numbered = grind (arith, nat_tests)

within_by : (entries : List Entry) (v : ℕ) (o : Option Entry) → slice_get entries v ≡ o → list_any is_unnumbered entries ≡ false
    → option_map_or (start_by (first_copy entries v)) o 0 + option_map_or count_by o 0 ≤ total_of entries
within_by entries v o here numbered =
    let more = next_copy entries v in
    grind (arith, sum_by-take-le, fits_by, number_below, numbered_one, more)

pub copies_within : (entries : List Entry) (v : ℕ) → list_any is_unnumbered entries ≡ false → copies_start entries v + option_map_or count_by (slice_get entries v) 0 ≤ total_of entries
copies_within entries v numbered = within_by entries v (slice_get entries v) refl numbered

-- where the copies of a vertex begin and end, read from places that are these entries: those of a merged vertex
pub merged_read : (es places : List Entry) (v number : ℕ) (e : Entry) (r : Option ℕ) → places ≡ es → v < length es → e ≡ get_or places v e → r ≡ merged_of e → r ≡ Some number
    → (number - 1 ≡ copies_start es v) × (number - 1 + 1 ≡ copies_end es v)
merged_read es places v number e r same below is asked some = grind (arith, entry_there)

-- and others, with the table of first copies
pub own_read : (es places : List Entry) (firsts : List ℕ) (v : ℕ) (e : Entry) (r : Option ℕ) → places ≡ es → firsts ≡ first_copies places → v < length es → e ≡ get_or places v e → r ≡ merged_of e → r ≡ None
    → ((d : ℕ) → get_or firsts v d ≡ copies_start es v) × ((d : ℕ) → get_or firsts (v + 1) d ≡ copies_end es v)
own_read es places firsts v e r same table below is asked none = grind (arith, first_at, entry_there, own_by, next_copy)
