-- Entries read one after another.
use Rattle.std.proofs.Common.{◌≡◌, ◌≢◌, ◌+◌, ◌-◌, ℕ, zero, suc, List, [], ◌∷◌, ◌++◌, length, codes, Result, Ok, refl, sym, ◌∙◌, ap, inl, inr, append-nil, arith}
use Rattle.sgb_expr.specs.Listed.{listed}
use Rattle.sgb_expr.specs.Expression.{Entry, entry_of}
use Rattle.sgb_expr.specs.inner.Gives.{Fails}
use Rattle.sgb_text.proofs.Readings.{or_else, then_read, read_after, read_as, fixed_at, fixed_as}
use Rattle.sgb_expr.specs.inner.Readings.{separator_before}
use Rattle.sgb_expr.specs.inner.Reading.{entry_at, entries_at, expression_at}
use Rattle.sgb_expr.specs.declared.entries.EntryExpr.{EntryExpr}
use Rattle.sgb_expr.specs.declared.wrong.Wrong.{Wrong}
use Rattle.sgb_expr.specs.declared.wrong.Wrong.TheVariants.{Left, NoRoom}
use Rattle.sgb_text.proofs.Readers.{bind_of, bind_stops, one_more, then_stops, with_first}
use Rattle.sgb_text.proofs.Words.{fixed_again, fixed_cases}
use Rattle.sgb_expr.proofs.EntryReaders.{entries_step}
use Rattle.sgb_expr.proofs.Nesting.{expression_no_longer}

-- these, and the entries with which the text goes on
abbrev pub and_entries : List Entry → List ℕ → List ℕ → Result (List Entry × List ℕ) ℕ
and_entries first separator rest = with_first first (entries_at expression_at separator rest)

-- an entry, and what is read after it
abbrev next_entry : List ℕ → Result (List Entry × List ℕ) ℕ
next_entry = then_read (entry_at expression_at) (λ entry. read_as (λ more. entry ∷ more) (entries_at expression_at (codes ",")))

-- where no `]` comes an entry is read
entry_comes : (separator rest : List ℕ) → ((after : List ℕ) → rest ≢ codes "]" ++ after) → entries_at expression_at separator rest ≡ read_after separator next_entry rest
entry_comes separator rest h = elim (fixed_cases (codes "]") rest) [
  | inl r ↦ absurd (h r.0 r.2)
  | inr p ↦
      entries_step expression_at expression_no_longer separator rest
      ∙ ap (λ (r : Result (List Entry × List ℕ) ℕ). or_else r (read_after separator next_entry rest)) (bind_stops (fixed_at (codes "]") rest) (λ after. Ok ([], after)) p.0 p.1)
]

-- the separator or the entry is not there
pub entries_wrong : (memory : Type 0) (w : Wrong) (list : List EntryExpr) (place : ℕ) (separator rest : List ℕ) (whole : Result (List Entry × List ℕ) ℕ) → ((after : List ℕ) → rest ≢ codes "]" ++ after)
    → place ≡ length list → separator ≡ separator_before place [] → Fails memory w (read_after separator (entry_at expression_at) rest)
    → and_entries (listed list) (separator_before (length list) []) rest ≡ whole → Fails memory w whole
entries_wrong memory (Left left) list place separator rest whole h at before e inv =
    let same : separator ≡ separator_before (length list) [] = before ∙ ap (λ n. separator_before n []) at in
    sym inv
    ∙ ap (with_first (listed list))
    (entry_comes (separator_before (length list) []) rest h
    ∙ then_stops (fixed_at (separator_before (length list) []) rest) (entry_at expression_at) (λ x. read_as (λ more. x.0 ∷ more) (entries_at expression_at (codes ",")) x.1) left
    (ap (λ s. read_after s (entry_at expression_at) rest) (sym same) ∙ e))
entries_wrong memory NoRoom list place separator rest whole h at before e inv = e

-- an entry is read after those
entry_read : (first : List Entry) (entry : Entry) (separator rest begun after : List ℕ) (whole : Result (List Entry × List ℕ) ℕ) → ((after : List ℕ) → rest ≢ codes "]" ++ after)
    → fixed_at separator rest ≡ Ok begun → entry_at expression_at begun ≡ Ok (entry, after) → and_entries first separator rest ≡ whole → and_entries (first ++ entry ∷ []) (codes ",") after ≡ whole
entry_read first entry separator rest begun after whole h e f inv =
    sym (one_more first entry (entries_at expression_at (codes ",") after))
    ∙ sym (ap (with_first first)
    (entry_comes separator rest h ∙ bind_of (fixed_at separator rest) next_entry begun e
    ∙ bind_of (entry_at expression_at begun) (λ x. read_as (λ more. x.0 ∷ more) (entries_at expression_at (codes ",")) x.1) (entry, after) f))
    ∙ inv

-- and kept in the list
listed_more : (list : List EntryExpr) (one : EntryExpr) → listed (list ++ one ∷ []) ≡ listed list ++ entry_of one ∷ []
listed_more [] one = refl
listed_more (e ∷ list) one = ap (λ es. entry_of e ∷ es) (listed_more list one)

pub entry_kept : (list more : List EntryExpr) (one : EntryExpr) (place : ℕ) (separator rest begun after : List ℕ) (whole : Result (List Entry × List ℕ) ℕ) → ((after : List ℕ) → rest ≢ codes "]" ++ after)
    → place ≡ length list → more ≡ list ++ one ∷ [] → separator ≡ separator_before place []
    → fixed_at separator rest ≡ Ok begun → entry_at expression_at begun ≡ Ok (entry_of one, after)
    → and_entries (listed list) (separator_before (length list) []) rest ≡ whole → and_entries (listed more) (separator_before (length more) []) after ≡ whole
entry_kept list more one place separator rest begun after whole h at is before e f inv =
    let comma : separator_before (length more) [] ≡ codes "," = ap (λ (es : List EntryExpr). separator_before (length es) []) is ∙ later list in
    let same : separator ≡ separator_before (length list) [] = before ∙ ap (λ n. separator_before n []) at in
    ap (λ es. and_entries es (separator_before (length more) []) after) (ap listed is ∙ listed_more list one)
    ∙ ap (λ s. and_entries (listed list ++ entry_of one ∷ []) s after) comma
    ∙ entry_read (listed list) (entry_of one) (separator_before (length list) []) rest begun after whole h (ap (λ s. fixed_at s rest) (sym same) ∙ e) f inv
  where
    later : (list : List EntryExpr) → separator_before (length (list ++ one ∷ [])) [] ≡ codes ","
    later [] = refl
    later (e ∷ list) = refl

-- the `]` is read
pub entries_end : (first : List Entry) (separator rest after : List ℕ) (whole : Result (List Entry × List ℕ) ℕ) → rest ≡ codes "]" ++ after → and_entries first separator rest ≡ whole → whole ≡ Ok (first, after)
entries_end first separator rest after whole e inv =
    let end : fixed_as [] (codes "]") rest ≡ Ok ([], after) = ap (fixed_as [] (codes "]")) e ∙ bind_of (fixed_at (codes "]") (codes "]" ++ after)) (λ u. Ok ([], u)) after (fixed_again (codes "]") after) in
    sym inv
    ∙ ap (with_first first)
    (entries_step expression_at expression_no_longer separator rest
    ∙ ap (λ (r : Result (List Entry × List ℕ) ℕ). or_else r (read_after separator next_entry rest)) end)
    ∙ ap (λ (es : List Entry). Ok (es, after)) (append-nil first)

-- what stands before an entry that is not the first has a byte
pub separator_counts : (place : ℕ) (separator : List ℕ) → separator ≡ separator_before place [] → length separator + (1 - place) ≡ 1
separator_counts zero separator e = omega (arith, ap length e)
separator_counts (suc place) separator e = omega (arith, ap length e)
