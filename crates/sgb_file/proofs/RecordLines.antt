-- A section of a file: its title, and records that are written one after another, or put together before they are written.
use Rattle.sgb_vec.proofs.Common.{◌≡◌, ◌<◌, ◌+◌, ◌++◌, ℕ, true, List, [], ◌∷◌, Some, Result, Ok, Err, refl, append-nil, length, drop, slice_get, arith, false, Option, Appends, at_drop_more, get_or_from_slice_get}
use Rattle.sgb_file.specs.Checksum.{has_star}
use Rattle.sgb_file.specs.Devices.{AppendsPrefix}
use Rattle.sgb_file.specs.Saving.{laid_out, pieces_of, record_lines, quoted, record_number_text}
use Rattle.sgb_file.specs.inner.Layouts.{AreLaidOut, AreLaidUpTo, HasLaid, IsStopped, LinesSoFar, Stage, lines_of, has_any}
use Rattle.sgb_file.proofs.LaidLines.{checksum-starred, stopped-first}
use Rattle.sgb_file.specs.inner.ShortLines.{ShortText, short_stage}

-- the title was written, or the writing stopped there
pub title-laid : (title line : List ℕ) (rest : List (List ℕ)) (a b : Stage) → line ≡ title ++ 10 ∷ [] → has_star title ≡ true
    → Appends a.written b.written line → b.failed ≡ a.failed → b.layout.checksum ≡ a.layout.checksum → LinesSoFar (title ∷ rest) rest a b
title-laid title line rest a b e star p sound sum = (title ∷ [], refl, grind (arith, append-nil, checksum-starred))

pub title-cut : (title line : List ℕ) (rest : List (List ℕ)) (a b : Stage) → line ≡ title ++ 10 ∷ []
    → AppendsPrefix a.written b.written line → b.failed ≡ true → IsStopped (title ∷ rest) a b
title-cut title line rest a b e p failed = stopped-first _ (title ∷ []) rest a b refl (record { written = rw (append-nil, ← e) p; failed = failed })

-- a record was laid out after an empty line, or the writing stopped there
pub record-laid : (texts : List (List ℕ)) (a b : Stage) → a.layout.line ≡ [] → HasLaid (laid_out a.layout.line (pieces_of texts)) a b → HasLaid (record_lines texts) a b
record-laid texts a b line p = rw (← line) p

pub record-cut : (texts : List (List ℕ)) (a b : Stage) → a.layout.line ≡ [] → IsStopped (laid_out a.layout.line (pieces_of texts)) a b → IsStopped (record_lines texts) a b
record-cut texts a b line p = rw (← line) p

-- the first of the records that are left
first_record : {X : Type 0} (texts : X → List (List ℕ)) (xs : List X) (k : ℕ) (x : X) → k < length xs → slice_get xs k ≡ Some x
    → lines_of texts (drop k xs) ≡ record_lines (texts x) ++ lines_of texts (drop (k + 1) xs)
first_record texts xs k x h e = rw (at_drop_more (λ ys. lines_of texts ys) xs k x h, get_or_from_slice_get xs k x x e) refl

-- the next record was written
pub next-laid : {X : Type 0} (texts : X → List (List ℕ)) (xs : List X) (k : ℕ) (x : X) (a b : Stage) → k < length xs
    → slice_get xs k ≡ Some x → HasLaid (record_lines (texts x)) a b → LinesSoFar (lines_of texts (drop k xs)) (lines_of texts (drop (k + 1) xs)) a b
next-laid texts xs k x a b h e p = (record_lines (texts x), first_record texts xs k x h e, p)

-- it was laid out after an empty line, or the writing stopped there
pub next-laid_out : {X T E : Type 0} (texts : X → List (List ℕ)) (xs : List X) (k : ℕ) (x : X) (a b : Stage) (r : Result T E) → k < length xs
    → slice_get xs k ≡ Some x → a.layout.line ≡ [] → AreLaidOut (texts x) a b r
    → AreLaidUpTo (lines_of texts (drop k xs)) (λ _. lines_of texts (drop (k + 1) xs)) a b r
next-laid_out texts xs k x a b (Ok y) h e line p = (next-laid texts xs k x a b h e (record-laid (texts x) a b line p.0), p.1)
next-laid_out texts xs k x a b (Err f) h e line p = stopped-first _ _ _ a b (first_record texts xs k x h e) (record-cut (texts x) a b line p)

-- the texts of a vertex whose fields are not used
pub bare_texts : (n name : List ℕ) (f first : Option ℕ) (fields : List (List ℕ)) → n ≡ name → f ≡ first → has_any fields ≡ false
    → quoted n ∷ record_number_text f ∷ [] ≡ quoted name ∷ record_number_text first ∷ fields
bare_texts n name f first fields en ef none = grind (arith)

-- the writing stopped within lines that were put together
pub together-cut : (all left : List (List ℕ)) (old new : ShortText) (a b : Stage) → old ≡ record { text = []; value = a.layout.checksum }
    → LinesSoFar all left (short_stage old) (short_stage new) → AppendsPrefix a.written b.written new.text → b.failed ≡ true
    → IsStopped all a b
together-cut all left old new a b e p written failed =
    stopped-first _ p.0 left a b p.1 (record { written = grind arith; failed = failed })
