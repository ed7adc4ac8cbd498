-- Entries with which no vector that begins alike has a wanted size in common; and wanted sizes by the least and the greatest one.
use Rattle.std.proofs.Common.{◌≡◌, ℕ, zero, suc, ◌+◌, ◌-◌, ◌<◌, ◌≤◌, min, false, List, [], ◌∷◌, ◌++◌, length, reverse, take, set, sum, refl, sym, ap, ap₂, ◌∙◌, arith, append-nil}
use Rattle.std.proofs.lemmas.Bool.{cases_lt}
use Rattle.std.proofs.lemmas.Grind.{take-set_at}
use Rattle.std.proofs.lemmas.List.{length-set, take-set-le, take-take}
use Rattle.sgb_vec.specs.Sums.{bounded_sums}
use Rattle.sgb_vec.proofs.SumSuccessors.{sum-cons}
use Rattle.sgb_gen.specs.LocalLists.{LocalArc}
use Rattle.sgb_gen.specs.Subsets.{is_wanted_size}
use Rattle.sgb_gen.specs.inner.Descents.{HasNoArcs, IsBegun, arcs_under, front_of, row, rows}
use Rattle.sgb_gen.proofs.Descents.{rows-first, rows-parts, rows-end, sums-rows}
use Rattle.sgb_gen.proofs.DescentArcs.{row-under, rows-under, under-append, under-unwanted}
use Rattle.sgb_gen.proofs.SubsetsCounts.{begun-on}

-- ---- entries without arcs

-- an entry with which no size in common can be wanted
pub entry-unwanted : (sb room shared left c b h e : ℕ) → e ≤ left
    → ((k : ℕ) → left - e ≤ k + (room - b - (shared - h)) → k ≤ left - e → k ≤ shared - h → is_wanted_size sb (k + (c + min h e)) ≡ false)
    → HasNoArcs sb room shared left c b h e
entry-unwanted sb room shared left c b h e within none front bounds x begun =
    sym (row-under sb front c left h e bounds x within)
    ∙ under-unwanted sb (front ++ e ∷ []) (c + min h e) bounds x (room - b) (shared - h) (left - e)
    (begun-on room shared left c b h e bounds x (b ∷ bounds) (h ∷ x) refl refl within begun) none

-- the entries from one on that have none may be left out
module _ (sb left c h : ℕ) (front bounds x : List ℕ) where
  abbrev arcs_of : ℕ → ℕ → List LocalArc
  arcs_of low n = arcs_under sb front c (h ∷ x) (rows left bounds low n)

  abbrev HasNone : ℕ → Type 0
  HasNone e = arcs_under sb front c (h ∷ x) (row left bounds e) ≡ []

  none_of : (low n : ℕ) → ((e : ℕ) → low ≤ e → e < low + n → HasNone e) → arcs_of low n ≡ []
  none_of low zero none = refl
  none_of low (suc n) none = grind (arith, under-append, none_of low n (λ e from to. none e from (omega arith)))

  parts_of : (low mid end : ℕ) → low ≤ mid → mid ≤ end → arcs_of low (end - low) ≡ arcs_of mid (end - mid) ++ arcs_of low (mid - low)
  parts_of low mid end from to =
      ap (arcs_of low) {y = (mid - low) + (end - mid)} (omega arith)
      ∙ ap (arcs_under sb front c (h ∷ x)) (rows-parts left bounds low (mid - low) (end - mid))
      ∙ under-append sb front c (h ∷ x) (rows left bounds (low + (mid - low)) (end - mid)) (rows left bounds low (mid - low))
      ∙ ap (λ l. l ++ arcs_of low (mid - low)) (ap (λ a. arcs_of a (end - mid)) (omega arith))

  pub none-below : (low least end : ℕ) → low ≤ least → least ≤ end → ((e : ℕ) → low ≤ e → e < least → HasNone e) → arcs_of low (end - low) ≡ arcs_of least (end - least)
  none-below low least end more within none =
      parts_of low least end more within
      ∙ ap (λ l. arcs_of least (end - least) ++ l) (none_of low (least - low) (λ e from to. none e from (omega arith)))
      ∙ append-nil (arcs_of least (end - least))

  pub none-above : (low after end : ℕ) → low ≤ after → after ≤ end → ((e : ℕ) → after ≤ e → e < end → HasNone e) → arcs_of low (end - low) ≡ arcs_of low (after - low)
  none-above low after end more within none =
      parts_of low after end more within
      ∙ ap (λ l. l ++ arcs_of low (after - low)) (none_of after (end - after) (λ e from to. none e from (omega arith)))

  -- so the arcs by some entries are those by the wanted ones
  pub wanted-among : (at count least after : ℕ) → at ≤ least → least ≤ at + count → ((e : ℕ) → at ≤ e → e < least → HasNone e)
      → least ≤ after → after ≤ at + count → ((e : ℕ) → after ≤ e → e < at + count → HasNone e)
      → arcs_of at count ≡ arcs_of least (after - least)
  wanted-among at count least after from to none_before more within none_after =
      ap (arcs_of at) {x = count} {y = at + count - at} (omega arith)
      ∙ none-below at least (at + count) from to none_before
      ∙ none-above least after (at + count) more within none_after

  -- and all arcs are those by the entries within the bound that leave no more than there is room for
  pub rows-kept : (room b end at count : ℕ) → sum bounds ≡ room - b → end ≡ min left b + 1 → ((bs : List ℕ) → sum bs ≡ room - b → rows left bs 0 (end - 0) ≡ rows left bs at count)
      → arcs_under sb front c (h ∷ x) (reverse (bounded_sums left (b ∷ bounds))) ≡ arcs_of at count
  rows-kept room b end at count adds end_is kept =
      ap (arcs_under sb front c (h ∷ x)) (sums-rows left b bounds ∙ ap (rows left bounds 0) {x = b + 1} {y = b + 1 - 0} (omega arith) ∙ rows-end left bounds 0 b (omega arith) ∙ ap (λ n. rows left bounds 0 (n - 0)) (sym end_is)
      ∙ kept bounds adds)

-- ---- the vector where an arc leads, entry by entry

-- an entry is placed
pub front-placed : (tip x xs : List ℕ) (h e place : ℕ) → x ≡ h ∷ xs → length x ≤ length tip → place ≡ length tip - length x → front_of (set tip place e) xs ≡ front_of tip x ++ e ∷ []
front-placed tip x xs h e place x_is fits at = grind (arith, length-set, take-set_at)

-- what stands before it stays
pub front-kept : (tip x : List ℕ) (place e : ℕ) → length tip - length x ≤ place → front_of (set tip place e) x ≡ front_of tip x
front-kept tip x place e from =
    cc (length-set tip place e, take-set-le (length tip - length x) tip place e from)

-- what begins alike begins alike with an entry less
pub front-shorter : (new tip x xs : List ℕ) → length new ≡ length tip → length xs ≤ length x → front_of new xs ≡ front_of tip xs → front_of new x ≡ front_of tip x
front-shorter new tip x xs same shorter alike =
    cc (take-take (length new - length x) (length new - length xs) new (omega arith), same, alike, take-take (length tip - length x) (length tip - length xs) tip (omega arith))

-- ---- ranges of entries, one entry more

pub range_above : (P : ℕ → Type 0) (low e : ℕ) → ((k : ℕ) → low ≤ k → k < e → P k) → P e → (k : ℕ) → low ≤ k → k < e + 1 → P k
range_above P low e all here k from to = grind (arith, cases_lt)

pub range_below : (P : ℕ → Type 0) (after end : ℕ) → 0 < after → ((k : ℕ) → after ≤ k → k < end → P k) → P (after - 1) → (k : ℕ) → after - 1 ≤ k → k < end → P k
range_below P after end some all here k from to = grind (arith, cases_lt)

-- ---- a step of the descent

-- the arcs by the greater entries, and then those where the least one is placed
pub least-placed : (sb c left b h least count low n place : ℕ) (tip new bs xs bounds x : List ℕ)
    → bounds ≡ b ∷ bs → x ≡ h ∷ xs → length x ≤ length tip → length new ≡ length tip → place ≡ length tip - length x → low ≡ least + 1 → n + 1 ≡ count → least ≤ left
    → ((front : List ℕ) → arcs_under sb front c (h ∷ xs) (reverse (bounded_sums left (b ∷ bs))) ≡ arcs_under sb front c (h ∷ xs) (rows left bs least count))
    → front_of new (h ∷ xs) ≡ front_of tip (h ∷ xs)
    → arcs_under sb (front_of tip x) c x (reverse (bounded_sums left bounds))
    ≡ arcs_under sb (front_of tip (h ∷ xs)) c (h ∷ xs) (rows left bs low n) ++ arcs_under sb (front_of (set new place least) xs) (c + min h least) xs (reverse (bounded_sums (left - least) bs))
least-placed sb c left b h least count low n place tip new bs xs bounds x bounds_are x_is fits long at low_is count_is within same kept =
    let front = front_of tip (h ∷ xs) in
    let fits_new : length (h ∷ xs) ≤ length new = omega (arith, fits, ap length x_is, long) in
    let at_new : place ≡ length new - length (h ∷ xs) = at ∙ ap₂ (λ k v. k - length v) (sym long) x_is in
    let placed_front : front_of (set new place least) xs ≡ front ++ least ∷ [] = front-placed new (h ∷ xs) xs h least place refl fits_new at_new ∙ ap (λ f. f ++ least ∷ []) kept in
    ap₂ (λ v cs. arcs_under sb (front_of tip v) c v (reverse (bounded_sums left cs))) x_is bounds_are
    ∙ same front
    ∙ ap (λ k. arcs_under sb front c (h ∷ xs) (rows left bs least k)) {x = count} {y = suc n} (omega (arith, count_is))
    ∙ ap (arcs_under sb front c (h ∷ xs)) (rows-first left bs least n)
    ∙ under-append sb front c (h ∷ xs) (rows left bs (least + 1) n) (row left bs least)
    ∙ ap₂ (λ l m. l ++ m) (ap (λ k. arcs_under sb front c (h ∷ xs) (rows left bs k n)) (sym low_is))
    (sym (row-under sb front c left h least bs xs within) ∙ ap (λ f. arcs_under sb f (c + min h least) xs (reverse (bounded_sums (left - least) bs))) (sym placed_front))

-- the arcs where the greatest entry is placed, and then those by the lesser ones
pub rows-placed : (sb c left h low k place : ℕ) (first tip bs xs : List ℕ) → 0 < k → low + (k - 1) ≤ left → length xs < length first → length tip ≡ length first → place ≡ length first - length xs - 1
    → front_of tip (h ∷ xs) ≡ front_of first (h ∷ xs)
    → arcs_under sb (front_of first (h ∷ xs)) c (h ∷ xs) (rows left bs low k)
    ≡ arcs_under sb (front_of (set tip place (low + (k - 1))) xs) (c + min h (low + (k - 1))) xs (reverse (bounded_sums (left - (low + (k - 1))) bs)) ++ arcs_under sb (front_of first (h ∷ xs)) c (h ∷ xs) (rows left bs low (k - 1))
rows-placed sb c left h low k place first tip bs xs some within fits long at kept =
    let front = front_of first (h ∷ xs) in
    let e = low + (k - 1) in
    let placed_front : front_of (set tip place e) xs ≡ front ++ e ∷ [] =
    front-placed tip (h ∷ xs) xs h e place refl (omega (arith, fits, long)) (omega (arith, at, long)) ∙ ap (λ f. f ++ e ∷ []) kept in
    rows-under sb front c (h ∷ xs) left bs low k some
    ∙ ap (λ l. l ++ arcs_under sb front c (h ∷ xs) (rows left bs low (k - 1))) (sym (row-under sb front c left h e bs xs within)
    ∙ ap (λ f. arcs_under sb f (c + min h e) xs (reverse (bounded_sums (left - e) bs))) (sym placed_front))

-- what the other bounds add to
pub others-add : (bounds x : List ℕ) (room shared left c b : ℕ) (bs : List ℕ) → bounds ≡ b ∷ bs → IsBegun bounds x room shared left c → sum bs ≡ room - b
others-add bounds x room shared left c b bs is begun = omega (arith, begun.bounds_add, ap sum is, sum-cons b bs)

-- before all entries of a vector there is none
pub front-none : (tip x : List ℕ) → length tip ≡ length x → front_of tip x ≡ []
front-none tip x same = ap (λ n. take n tip) {y = 0} (omega (arith, same))
