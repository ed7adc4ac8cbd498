-- Readers of entries, integers and expressions, one after another to a `]`.
use Rattle.sgb_vec.proofs.Common.{◌≡◌, ◌≤◌, ◌<◌, ◌+◌, ◌&&◌, ◌==◌, ℕ, ℤ, pos, neg_ℤ, zero, suc, Bool, true, false, not, List, [], ◌∷◌, ◌++◌, length, min, codes, Result, Ok, Err, refl, sym, ◌∙◌, ap, subst, inl, inr, append_assoc, arith, lit≤, is_digit, and_parts, not-true, eqb_tells}
use Rattle.sgb_expr.specs.Expression.{Expression, Entry}
use Rattle.sgb_text.specs.Languages.{Fixed, Then, After, As, Or}
use Rattle.sgb_expr.specs.Numbers.{IsInteger, most_digits}
use Rattle.sgb_expr.specs.Forms.{AreSeparated}
use Rattle.sgb_expr.specs.inner.Operations.{IsEntry, AreEntries}
use Rattle.sgb_text.proofs.Readings.{◌>>=◌, either, or_else, then_read, read_as, fixed_at, fixed_as}
use Rattle.sgb_expr.specs.inner.Readings.{number_at, integer_at}
use Rattle.sgb_expr.specs.inner.Reading.{entry_at, entries_then, entries_for, entries_at}
use Rattle.sgb_text.proofs.Readers.{Anything, Reads, bind_ok, bind_stops, ok_same, either_found, either_stops, by_first, by_second, no_ok, reads_then, reads_as, reads_or, reads_before}
use Rattle.sgb_text.proofs.Words.{fixed_other, reads_after, reads_fixed}
use Rattle.sgb_vec.proofs.NamedNumbers.{first_byte}
use Rattle.sgb_expr.proofs.Digits.{number_stops}
use Rattle.sgb_expr.proofs.NumberReaders.{Clear, reads_integer}
use Rattle.sgb_text.proofs.Limits.{reads_all, reads_else}
use Rattle.sgb_text.proofs.Lengths.{Language, Reader, Within, Agree, no_longer, fixed_takes, bind_agrees}
use Rattle.sgb_expr.proofs.GeneratorReaders.{clear_byte}

-- the text begins with a byte that is no digit, no `-` and no `]`
abbrev pub is_lettered : List ℕ → Bool
is_lettered [] = false
is_lettered (byte ∷ text) = not (is_digit byte 10) && (not (45 == byte) && not (93 == byte))

pub lettered_more : (a b : List ℕ) → is_lettered a ≡ true → is_lettered (a ++ b) ≡ true
lettered_more [] b e = absurd (cc)
lettered_more (byte ∷ a) b e = e

pub lettered_some : (text : List ℕ) → is_lettered text ≡ true → 0 < length text
lettered_some [] e = absurd (cc)
lettered_some (byte ∷ text) e = omega arith

-- expressions that may stand inside others, and their reader
pub record Inside (Inner : Language Expression) (inner : Reader Expression) : Type 0 where
  pub reads : Reads Inner Anything inner
  pub lettered : (word : List ℕ) (e : Expression) → Inner word e → is_lettered word ≡ true

-- such a text begins no integer
lettered_no_integer : (text tail : List ℕ) → is_lettered text ≡ true → (left : ℕ) × (integer_at (text ++ tail) ≡ Err left)
lettered_no_integer [] tail e = absurd (cc)
lettered_no_integer (byte ∷ text) tail e =
    let all = and_parts (not (is_digit byte 10)) (not (45 == byte) && not (93 == byte)) e in
    let sign = and_parts (not (45 == byte)) (not (93 == byte)) all.1 in
    let none = first_byte 10 17 byte (text ++ tail) ∙ rw (not-true (is_digit byte 10) all.0) refl in
    let number = bind_stops (number_at 10 most_digits (byte ∷ text ++ tail)) (λ x. Ok (pos x.0, x.1)) (length (byte ∷ text ++ tail)) (number_stops 10 most_digits (byte ∷ text ++ tail) none) in
    let signed = bind_stops (fixed_at (codes "-") (byte ∷ text ++ tail)) (λ rest. number_at 10 most_digits rest >>= λ x. Ok (neg_ℤ (pos x.0), x.1)) (length (byte ∷ text ++ tail)) (fixed_other 45 byte [] (text ++ tail) (not-true (45 == byte) sign.0)) in
    (min (length (byte ∷ text ++ tail)) (length (byte ∷ text ++ tail)), either_stops _ _ _ _ signed number)

-- nor a `]`
lettered_no_end : (text tail : List ℕ) → is_lettered text ≡ true → (left : ℕ) × (fixed_at (codes "]") (text ++ tail) ≡ Err left)
lettered_no_end [] tail e = absurd (cc)
lettered_no_end (byte ∷ text) tail e =
    let all = and_parts (not (is_digit byte 10)) (not (45 == byte) && not (93 == byte)) e in
    let end = and_parts (not (45 == byte)) (not (93 == byte)) all.1 in
    (length (byte ∷ text ++ tail), fixed_other 93 byte [] (text ++ tail) (not-true (93 == byte) end.1))

-- nor does an integer begin one
integer_no_end : (word tail : List ℕ) (value : ℤ) → IsInteger word value → (left : ℕ) × (fixed_at (codes "]") (word ++ tail) ≡ Err left)
integer_no_end [] tail value is =
    let again = reads_integer.again [] [] value is (λ byte e. absurd (cc)) in
    absurd (no_ok again)
integer_no_end (byte ∷ word) tail value is = elim (eqb_tells 93 byte) [
  | inl h ↦
      let again = reads_integer.again (byte ∷ word) [] value is (λ byte e. absurd (cc)) in
      absurd (no_ok (subst (λ (b : ℕ). integer_at (b ∷ word ++ []) ≡ Ok (value, [])) (sym h.1) again))
  | inr h ↦ (length (byte ∷ word ++ tail), fixed_other 93 byte [] (word ++ tail) h.0)
]

-- so no entry does
entry_no_end : {Inner : Language Expression} {inner : Reader Expression} → Inside Inner inner → (word tail : List ℕ) (entry : Entry) → IsEntry Inner word entry → (left : ℕ) × (fixed_at (codes "]") (word ++ tail) ≡ Err left)
entry_no_end i word tail entry (inl w) = integer_no_end word tail w.0 w.1
entry_no_end i word tail entry (inr w) = lettered_no_end word tail (i.lettered word w.0 w.1)

-- a reader of entries
reads_entry : {Inner : Language Expression} {inner : Reader Expression} → Inside Inner inner → Reads (IsEntry Inner) Clear (entry_at inner)
reads_entry {Inner} {inner} i =
    reads_or (reads_as Entry.Number reads_integer) (reads_before (λ tail c. tt) (reads_as Entry.Graph i.reads))
    (λ word tail value w.
    let stops = lettered_no_integer word tail (i.lettered word w.0 w.1) in
    (stops.0, bind_stops (integer_at (word ++ tail)) (λ x. Ok (Entry.Number x.0, x.1)) stops.0 stops.1))
    (λ tail h. h)

-- so many entries at most
abbrev AtMost : Language Expression → ℕ → List ℕ → Language (List Entry)
AtMost Inner zero separator = Fixed [] (codes "]")
AtMost Inner (suc most) separator =
    Or (Fixed [] (codes "]")) (After separator (Then (IsEntry Inner) (λ entry. As (λ more. entry ∷ more) (AtMost Inner most (codes ",")))))

-- what follows an entry in a list
at_most_clear : (Inner : Language Expression) (most : ℕ) (word tail : List ℕ) (entries : List Entry) → AtMost Inner most (codes ",") word entries → Clear (word ++ tail)
at_most_clear Inner zero word tail entries w = subst (λ (u : List ℕ). Clear (u ++ tail)) (sym w.0) (clear_byte 93 tail (lit≤ tt))
at_most_clear Inner (suc most) word tail entries (inl w) = subst (λ (u : List ℕ). Clear (u ++ tail)) (sym w.0) (clear_byte 93 tail (lit≤ tt))
at_most_clear Inner (suc most) word tail entries (inr w) = subst (λ (u : List ℕ). Clear (u ++ tail)) (sym w.1) (clear_byte 44 (w.0 ++ tail) (lit≤ tt))

-- what stands before an entry
pub data IsSeparator : List ℕ → Type 0 where
  none_before : IsSeparator []
  comma_before : IsSeparator (codes ",")

-- an entry after its separator does not begin with a `]`
separated_no_end : {Inner : Language Expression} {inner : Reader Expression} → Inside Inner inner → (Others : Entry → Language (List Entry)) (separator : List ℕ) → IsSeparator separator
    → (word tail : List ℕ) (entries : List Entry) → After separator (Then (IsEntry Inner) Others) word entries → (left : ℕ) × (fixed_at (codes "]") (word ++ tail) ≡ Err left)
separated_no_end i Others separator none_before word tail entries w =
    let stops = entry_no_end i w.2.0 (w.2.1 ++ tail) w.2.2 w.2.4 in
    let same : word ++ tail ≡ w.2.0 ++ (w.2.1 ++ tail) = ap (λ u. u ++ tail) (w.1 ∙ w.2.3) ∙ append_assoc w.2.0 w.2.1 tail in
    (stops.0, ap (fixed_at (codes "]")) same ∙ stops.1)
separated_no_end i Others separator comma_before word tail entries w =
    (length (44 ∷ w.0 ++ tail), ap (λ u. fixed_at (codes "]") (u ++ tail)) w.1)

-- a reader of so many entries at most
reads_at_most : {Inner : Language Expression} {inner : Reader Expression} → Inside Inner inner → (most : ℕ) (separator : List ℕ) → IsSeparator separator
    → Reads (AtMost Inner most separator) Anything (entries_for inner most separator)
reads_at_most i zero separator is = reads_fixed [] (codes "]")
reads_at_most {Inner} {inner} i (suc most) separator is =
    reads_else [] 93
    (reads_after separator (reads_then (reads_entry i) (λ entry. reads_as (λ more. entry ∷ more) (reads_at_most i most (codes ",") comma_before))
    (λ v word tail value w t. at_most_clear Inner most word tail w.0 w.1)))
    (separated_no_end i (λ entry. As (λ more. entry ∷ more) (AtMost Inner most (codes ","))) separator is)

-- so many entries are entries
at_most_are : (Inner : Language Expression) (most : ℕ) (separator word : List ℕ) (entries : List Entry) → AtMost Inner most separator word entries → AreEntries Inner separator word entries
at_most_are Inner zero separator word entries w = subst (λ (es : List Entry). AreEntries Inner separator word es) (sym w.1) (w.0, refl)
at_most_are Inner (suc most) separator word entries (inl w) = subst (λ (es : List Entry). AreEntries Inner separator word es) (sym w.1) (w.0, refl)
at_most_are Inner (suc most) separator word entries (inr w) =
    let t = w.2 in
    subst (λ (es : List Entry). AreEntries Inner separator word es) (sym t.5.2)
    (w.0, w.1, (t.0, t.1, t.2, t.3, t.4, (t.5.0, at_most_are Inner most (codes ",") t.1 t.5.0 t.5.1, refl)))

-- entries are so many at most
are_at_most : (Inner : Language Expression) (n most : ℕ) (separator word : List ℕ) (entries : List Entry) → n ≤ most → AreSeparated (IsEntry Inner) separator n (codes "]") word entries
    → AtMost Inner most separator word entries
are_at_most Inner zero zero separator word entries h w = w
are_at_most Inner zero (suc most) separator word entries h w = inl w
are_at_most Inner (suc n) zero separator word entries h w = absurd (omega (arith, h))
are_at_most Inner (suc n) (suc most) separator word entries h w =
    let t = w.2 in
    inr (w.0, w.1, (t.0, t.1, t.2, t.3, t.4, (t.5.0, are_at_most Inner n most (codes ",") t.1 t.5.0 (omega (arith, h)) t.5.1, t.5.2)))

-- what a reader leaves is no longer than the text
abbrev pub Shortens : Reader Expression → Type 0
Shortens inner = (text : List ℕ) (e : Expression) (rest : List ℕ) → inner text ≡ Ok (e, rest) → length rest ≤ length text

-- what is left after an entry is no longer than the text
pub entry_no_longer : (inner : Reader Expression) → Shortens inner → (text : List ℕ) (entry : Entry) (rest : List ℕ) → entry_at inner text ≡ Ok (entry, rest) → length rest ≤ length text
entry_no_longer inner shortens text entry rest e = elim (either_found (read_as Entry.Number integer_at text) (read_as Entry.Graph inner text) (entry, rest) e) [
  | by_first h ↦
      let x = bind_ok (integer_at text) (λ x. Ok (Entry.Number x.0, x.1)) (entry, rest) h in
      let same : x.0.1 ≡ rest = ap (λ (p : Entry × List ℕ). p.1) (ok_same (Entry.Number x.0.0, x.0.1) (entry, rest) x.2) in
      omega (arith, ap length same, no_longer reads_integer text x.0.0 x.0.1 x.1)
  | by_second left h k ↦
      let x = bind_ok (inner text) (λ x. Ok (Entry.Graph x.0, x.1)) (entry, rest) k in
      let same : x.0.1 ≡ rest = ap (λ (p : Entry × List ℕ). p.1) (ok_same (Entry.Graph x.0.0, x.0.1) (entry, rest) x.2) in
      omega (arith, ap length same, shortens text x.0.0 x.0.1 x.1)
]

-- what is read after an entry counts on shorter texts alone
pub then_same : (inner : Reader Expression) → Shortens inner → (others more : Reader (List Entry)) (separator text : List ℕ)
    → ((rest : List ℕ) → length rest + length separator ≤ length text → others rest ≡ more rest) → entries_then inner others separator text ≡ entries_then inner more separator text
then_same inner shortens others more separator text h =
    let after = λ (read : Reader (List Entry)) (begun : List ℕ). then_read (entry_at inner) (λ entry. read_as (λ es. entry ∷ es) read) begun in
    ap (or_else (fixed_as [] (codes "]") text))
    (bind_agrees (fixed_at separator text) (after others) (after more)
    (λ begun e. bind_agrees (entry_at inner begun) (λ x. read_as (λ es. x.0 ∷ es) others x.1) (λ x. read_as (λ es. x.0 ∷ es) more x.1)
    (λ x f.
    let within = entry_no_longer inner shortens begun x.0 x.1 f in
    let takes = fixed_takes separator text begun e in
    ap (λ (r : Result (List Entry × List ℕ) ℕ). r >>= λ read. Ok (x.0 ∷ read.0, read.1)) (h x.1 (omega (arith, within, takes))))))

-- after a `,` no more entries are read than the text has bytes
comma_same : (inner : Reader Expression) → Shortens inner → (m n : ℕ) (text : List ℕ) → length text ≤ m → length text ≤ n → entries_for inner m (codes ",") text ≡ entries_for inner n (codes ",") text
comma_same inner shortens zero zero text h k = refl
comma_same inner shortens (suc m) (suc n) text h k =
    then_same inner shortens (entries_for inner m (codes ",")) (entries_for inner n (codes ",")) (codes ",") text
    (λ rest within. comma_same inner shortens m n rest (omega (arith, within, h)) (omega (arith, within, k)))
comma_same inner shortens zero (suc n) [] h k = refl
comma_same inner shortens (suc m) zero [] h k = refl
comma_same inner shortens zero (suc n) (byte ∷ text) h k = absurd (omega (arith, h))
comma_same inner shortens (suc m) zero (byte ∷ text) h k = absurd (omega (arith, k))

-- so many entries are enough
entries_enough : (inner : Reader Expression) → Shortens inner → (n : ℕ) (separator text : List ℕ) → length text ≤ n → entries_at inner separator text ≡ entries_for inner (suc n) separator text
unfolding entries_at
entries_enough inner shortens n separator text h =
    then_same inner shortens (entries_for inner (length text) (codes ",")) (entries_for inner n (codes ",")) separator text
    (λ rest within. comma_same inner shortens (length text) n rest (omega (arith, within)) (omega (arith, within, h)))

-- entries are read one by one
pub entries_step : (inner : Reader Expression) → Shortens inner → (separator text : List ℕ) → entries_at inner separator text ≡ entries_then inner (entries_at inner (codes ",")) separator text
unfolding entries_at
entries_step inner shortens separator text =
    then_same inner shortens (entries_for inner (length text) (codes ",")) (entries_at inner (codes ",")) separator text
    (λ rest within. comma_same inner shortens (length text) (suc (length rest)) rest (omega (arith, within)) (omega arith))

-- a reader of entries to a `]`
pub reads_entries : {Inner : Language Expression} {inner : Reader Expression} → Inside Inner inner → (separator : List ℕ) → IsSeparator separator → Reads (AreEntries Inner separator) Anything (entries_at inner separator)
reads_entries {Inner} {inner} i separator is =
    reads_all (λ n. AtMost Inner (suc n) separator) (λ n. entries_for inner (suc n) separator) (λ n. reads_at_most i (suc n) separator is)
    (λ n word value w. at_most_are Inner (suc n) separator word value w)
    (λ word value w. (length value, λ n h. are_at_most Inner (length value) (suc n) separator word value (omega (arith, h)) w))
    (λ n text h. entries_enough inner (no_longer i.reads) n separator text h)

-- with more expressions there are more entries
pub entries_more : (Less More : Language Expression) → Within Less More → (n : ℕ) (separator word : List ℕ) (entries : List Entry) → AreSeparated (IsEntry Less) separator n (codes "]") word entries
    → AreSeparated (IsEntry More) separator n (codes "]") word entries
entries_more Less More h zero separator word entries w = w
entries_more Less More h (suc n) separator word entries w =
    let t = w.2 in
    (w.0, w.1, (t.0, t.1, t.2, t.3, entry_more t.0 t.2 t.4, (t.5.0, entries_more Less More h n (codes ",") t.1 t.5.0 t.5.1, t.5.2)))
  where
    entry_more : (text : List ℕ) (one : Entry) → IsEntry Less text one → IsEntry More text one
    entry_more text one (inl v) = inl v
    entry_more text one (inr v) = inr (v.0, h text v.0 v.1, v.2)

-- readers of expressions that agree read entries alike
pub entries_for_agree : {Inner : Language Expression} {inner other : Reader Expression} {n : ℕ} → Inside Inner inner → Agree n inner other → (most : ℕ) (separator text : List ℕ) → length text ≤ n
    → entries_for inner most separator text ≡ entries_for other most separator text
entries_for_agree i h zero separator text short = refl
entries_for_agree {Inner} {inner} {other} {n} i h (suc most) separator text short =
    let after = λ (read : Reader Expression) (begun : List ℕ). then_read (entry_at read) (λ entry. read_as (λ es. entry ∷ es) (entries_for read most (codes ","))) begun in
    ap (or_else (fixed_as [] (codes "]") text))
    (bind_agrees (fixed_at separator text) (after inner) (after other)
    (λ begun e.
    let takes = fixed_takes separator text begun e in
    bind_agrees (entry_at inner begun) (λ x. read_as (λ es. x.0 ∷ es) (entries_for inner most (codes ",")) x.1) (λ x. read_as (λ es. x.0 ∷ es) (entries_for other most (codes ",")) x.1)
    (λ x f.
    let within = entry_no_longer inner (no_longer i.reads) begun x.0 x.1 f in
    ap (λ (r : Result (List Entry × List ℕ) ℕ). r >>= λ read. Ok (x.0 ∷ read.0, read.1)) (entries_for_agree i h most (codes ",") x.1 (omega (arith, within, takes, short))))
    ∙ ap (λ (r : Result (Entry × List ℕ) ℕ). r >>= λ x. read_as (λ es. x.0 ∷ es) (entries_for other most (codes ",")) x.1)
    (ap (λ (r : Result (Expression × List ℕ) ℕ). either (read_as Entry.Number integer_at begun) (r >>= λ x. Ok (Entry.Graph x.0, x.1))) (h begun (omega (arith, takes, short))))))

pub entries_agree : {Inner : Language Expression} {inner other : Reader Expression} {n : ℕ} → Inside Inner inner → Agree n inner other → (separator text : List ℕ) → length text ≤ n → entries_at inner separator text ≡ entries_at other separator text
unfolding entries_at
entries_agree i h separator text short = entries_for_agree i h (suc (length text)) separator text short
