-- Readers of fixed words, and of one among several.
use Rattle.std.proofs.Common.{◌≡◌, ◌≢◌, ℕ, ◌+◌, ◌-◌, ◌<◌, ◌≤◌, ◌⊎◌, ◌==◌, ◌&&◌, Bool, true, false, if◌then◌else◌, List, [], ◌∷◌, ◌++◌, length, Some, Result, Ok, Err, refl, sym, ◌∙◌, ap, subst, inl, inr, arith, length-append, min, nat_eq, drop}
use Rattle.std.proofs.Math.Path.{fun_ext}
use Rattle.std.specs.List.{common_prefix_len}
use Rattle.std.proofs.lemmas.Bool.Decides.{eqb_tells}
use Rattle.std.proofs.lemmas.Bool.{and_parts, eq-eqb}
use Rattle.sgb_text.specs.Languages.{After, Fixed}
use Rattle.sgb_text.proofs.Readings.{◌>>=◌, either, fixed_at, fixed_as, read_after, word_at}
use Rattle.sgb_text.proofs.Readers.{Anything, next, Cut, Reads, bind_of, bind_stops, cut_after, no_ok, ok_same, either_wrong, reads_is, reads_or, reads_then}

-- a byte read again
fixed_step : (byte : ℕ) (bytes text : List ℕ) → fixed_at (byte ∷ bytes) (byte ∷ text) ≡ fixed_at bytes text
fixed_step byte bytes text = rw (eq-eqb byte byte refl) refl

-- another byte
pub fixed_other : (byte other : ℕ) (bytes text : List ℕ) → (byte == other) ≡ false → fixed_at (byte ∷ bytes) (other ∷ text) ≡ Err (length (other ∷ text))
fixed_other byte other bytes text e = rw e refl

-- a text that begins with the bytes
pub fixed_again : (bytes tail : List ℕ) → fixed_at bytes (bytes ++ tail) ≡ Ok tail
fixed_again [] tail = refl
fixed_again (byte ∷ bytes) tail = fixed_step byte bytes (bytes ++ tail) ∙ fixed_again bytes tail

-- two texts part after the same bytes
pub record Parts (bytes text : List ℕ) (left : ℕ) : Type 0 where
  pub cut : Cut text left
  pub byte : ℕ
  pub more : List ℕ
  pub bytes_are : bytes ≡ cut.good ++ byte ∷ more
  pub other : next cut.bad ≢ Some byte

-- one byte more before they part
parts_later : (byte : ℕ) (bytes text : List ℕ) (left : ℕ) → Parts bytes text left → Parts (byte ∷ bytes) (byte ∷ text) left
parts_later byte bytes text left p = record {
  cut = cut_after (byte ∷ []) (byte ∷ text) text left refl p.cut;
  byte = p.byte;
  more = p.more;
  bytes_are = ap (λ u. byte ∷ u) p.bytes_are;
  other = p.other;
}

-- what was read, or where the texts part
pub fixed_cases : (bytes text : List ℕ) → ((rest : List ℕ) × (fixed_at bytes text ≡ Ok rest) × (text ≡ bytes ++ rest)) ⊎ ((left : ℕ) × (fixed_at bytes text ≡ Err left) × Parts bytes text left)
fixed_cases [] text = inl (text, refl, refl)
fixed_cases (byte ∷ bytes) [] = inr (0, refl, record { cut = record { good = []; bad = []; whole = refl; count = refl }; byte = byte; more = bytes; bytes_are = refl; other = λ e. cc })
fixed_cases (byte ∷ bytes) (other ∷ text) = elim (eqb_tells byte other) [
  | inl h ↦ elim (fixed_cases bytes text) [
    | inl r ↦ inl (r.0, subst (λ (c : ℕ). fixed_at (byte ∷ bytes) (c ∷ text) ≡ Ok r.0) h.1 (fixed_step byte bytes text ∙ r.1), (cc (h.1, r.2)))
    | inr p ↦ inr (
      p.0,
      subst (λ (c : ℕ). fixed_at (byte ∷ bytes) (c ∷ text) ≡ Err p.0) h.1 (fixed_step byte bytes text ∙ p.1),
      subst (λ (c : ℕ). Parts (byte ∷ bytes) (c ∷ text) p.0) h.1 (parts_later byte bytes text p.0 p.2),
    )
  ]
  | inr h ↦ inr (
    length (other ∷ text),
    fixed_other byte other bytes text h.0,
    record {
      cut = record { good = []; bad = other ∷ text; whole = refl; count = refl };
      byte = byte;
      more = bytes;
      bytes_are = refl;
      other = λ e. h.1 (cc (e));
    },
  )
]

-- what parts from the bytes after the same beginning is not read
pub fixed_stops : (good more bad : List ℕ) (byte : ℕ) → next bad ≢ Some byte → fixed_at (good ++ byte ∷ more) (good ++ bad) ≡ Err (length bad)
fixed_stops [] more [] byte h = refl
fixed_stops [] more (other ∷ bad) byte h = grind (arith, eqb_tells, fixed_other)
fixed_stops (c ∷ good) more bad byte h = fixed_step c (good ++ byte ∷ more) (good ++ bad) ∙ fixed_stops good more bad byte h

-- two places of one reading
pub err_same : {A : Type 0} (m n : ℕ) → ◌≡◌ {A = Result A ℕ} (Err m) (Err n) → m ≡ n
err_same m n e = cc

-- a reader of one fixed text
pub reads_fixed : {V : Type 0} (value : V) (bytes : List ℕ) → Reads (Fixed value bytes) Anything (fixed_as value bytes)
reads_fixed {V} value bytes = record {
  found = λ text v rest e. elim (fixed_cases bytes text) [
    | inl r ↦
        let both : (value, r.0) ≡ (v, rest) = ok_same (value, r.0) (v, rest) (sym (bind_of (fixed_at bytes text) (λ u. Ok (value, u)) r.0 r.1) ∙ e) in
        let is : v ≡ value = sym (ap (λ (p : V × List ℕ). p.0) both) in
        let after : r.0 ≡ rest = ap (λ (p : V × List ℕ). p.1) both in record {
          word = bytes;
          whole = r.2 ∙ ap (λ u. bytes ++ u) after;
          is = (refl, is);
          same = λ other e2. bind_of (fixed_at bytes (bytes ++ other)) (λ u. Ok (value, u)) other (fixed_again bytes other) ∙ ap (λ (w : V). Ok (w, other)) (sym is);
        }
    | inr p ↦ absurd (no_ok (sym (bind_stops (fixed_at bytes text) (λ u. Ok (value, u)) p.0 p.1) ∙ e))
  ];
  wrong = λ text left e. elim (fixed_cases bytes text) [
    | inl r ↦ absurd (no_ok (sym e ∙ bind_of (fixed_at bytes text) (λ u. Ok (value, u)) r.0 r.1))
    | inr p ↦
        let same_left : p.0 ≡ left = err_same p.0 left (sym (bind_stops (fixed_at bytes text) (λ u. Ok (value, u)) p.0 p.1) ∙ e) in
        let c = p.2.cut in record {
          cut = record { good = c.good; bad = c.bad; whole = c.whole; count = sym same_left ∙ c.count };
          begins = (p.2.byte ∷ p.2.more, value, (sym p.2.bytes_are, refl));
          same = λ other e2.
              let stops : fixed_at bytes (c.good ++ other) ≡ Err (length other) = grind (arith, fixed_at, other, fixed_stops) in
              bind_stops (fixed_at bytes (c.good ++ other)) (λ u. Ok (value, u)) (length other) stops;
        }
  ];
  again = λ word tail v is t.
      ap (λ (w : List ℕ). fixed_as value bytes (w ++ tail)) is.0 ∙ bind_of (fixed_at bytes (bytes ++ tail)) (λ u. Ok (value, u)) tail (fixed_again bytes tail)
      ∙ ap (λ (w : V). Ok (w, tail)) (sym is.1);
  some = (bytes, value, (refl, refl));
}

-- the text is the word of this value, among these
abbrev pub IsWord : {V : Type 0} → List (List ℕ × V) → List ℕ → V → Type 0
IsWord [] text v = ⊥
IsWord (word ∷ words) text v = Fixed word.1 word.0 text v ⊎ IsWord words text v

-- two words part before either ends
abbrev pub do_part : List ℕ → List ℕ → Bool
do_part [] b = false
do_part (x ∷ a) [] = false
do_part (x ∷ a) (y ∷ b) = if x == y then do_part a b else true

-- a word parts from each of these
abbrev pub parts_from : {V : Type 0} → List ℕ → List (List ℕ × V) → Bool
parts_from a [] = true
parts_from a (word ∷ words) = do_part a word.0 && parts_from a words

-- any two of the words part
abbrev pub are_apart : {V : Type 0} → List (List ℕ × V) → Bool
are_apart [] = true
are_apart (word ∷ words) = parts_from word.0 words && are_apart words

-- the same reader, text by text
pub reads_same : {V : Type 0} {Word : List ℕ → V → Type 0} {Tail : List ℕ → Type 0} {first second : List ℕ → Result (V × List ℕ) ℕ}
    → ((text : List ℕ) → second text ≡ first text) → Reads Word Tail second → Reads Word Tail first
reads_same {V} {Word} {Tail} {first} {second} e r = subst (λ (f : List ℕ → Result (V × List ℕ) ℕ). Reads Word Tail f) (fun_ext e) r

-- no value of its own
abbrev no_value : ℕ
no_value = 0

-- a fixed text, of no value, and what is read after it
fixed_then : {B : Type 0} (r : Result (List ℕ) ℕ) (f : List ℕ → Result B ℕ) → ((r >>= λ rest. Ok (no_value, rest)) >>= λ (x : ℕ × List ℕ). f x.1) ≡ (r >>= f)
fixed_then r f = grind (arith)

-- these bytes and then a word
pub reads_after : {V : Type 0} {Word : List ℕ → V → Type 0} {Tail : List ℕ → Type 0} {read : List ℕ → Result (V × List ℕ) ℕ} (bytes : List ℕ) → Reads Word Tail read → Reads (After bytes Word) Tail (read_after bytes read)
reads_after {V} {Word} {Tail} {read} bytes r =
    reads_is
    (λ word value w. (w.1, w.3 ∙ ap (λ u. u ++ w.1) w.4.0, w.5))
    (λ word value w. (bytes, w.0, 0, w.1, (refl, refl), w.2))
    (reads_same (λ text. fixed_then (fixed_at bytes text) read) (reads_then (reads_fixed {V = ℕ} 0 bytes) (λ _. r) (λ v word tail value w t. tt)))

-- the last of some words
last_word : {V : Type 0} (word : List ℕ × V) (text : List ℕ) → fixed_as word.1 word.0 text ≡ word_at (word ∷ []) text
last_word {V} word text = elim (fixed_cases word.0 text) [
  | inl r ↦ grind (arith, bind_of, fixed_at, either)
  | inr p ↦ grind (arith, bind_stops, fixed_at, min, length-append, either)
]

-- a word that parts from another is not read where that stands
parts_stops : {V : Type 0} (value : V) (a b tail : List ℕ) → do_part a b ≡ true → (left : ℕ) × (fixed_as value a (b ++ tail) ≡ Err left)
parts_stops value [] b tail e = absurd (cc)
parts_stops value (x ∷ a) [] tail e = absurd (cc)
parts_stops {V} value (x ∷ a) (y ∷ b) tail e = elim (eqb_tells x y) [
  | inl h ↦ grind (arith, parts_stops value a b tail (sym (rw h.0 refl) ∙ e))
  | inr h ↦ (length (y ∷ b ++ tail), ap (λ (r : Result (List ℕ) ℕ). r >>= λ rest. Ok (value, rest)) (fixed_other x y a (b ++ tail) h.0))
]

-- a word that parts from each of some words is not read where one of them stands
parts_stops_all : {V : Type 0} (value v : V) (a word tail : List ℕ) (words : List (List ℕ × V)) → parts_from a words ≡ true → IsWord words word v → (left : ℕ) × (fixed_as value a (word ++ tail) ≡ Err left)
parts_stops_all value v a word tail [] e w = absurd w
parts_stops_all {V} value v a word tail (first ∷ words) e (inl w) = grind (arith, parts_stops, and_parts, do_part, parts_from, fixed_as)
parts_stops_all {V} value v a word tail (first ∷ words) e (inr w) =
    parts_stops_all value v a word tail words (and_parts (do_part a first.0) (parts_from a words) e).1 w

-- a reader of one of some words, any two of which part
pub reads_words : {V : Type 0} (word : List ℕ × V) (words : List (List ℕ × V)) → are_apart (word ∷ words) ≡ true → Reads (IsWord (word ∷ words)) Anything (word_at (word ∷ words))
reads_words word [] e =
    reads_is (λ text v w. inl w) (λ text v w. elim w [ inl h ↦ h | inr h ↦ absurd h ]) (reads_same (last_word word) (reads_fixed word.1 word.0))
reads_words word (other ∷ words) e =
    let t = and_parts (parts_from word.0 (other ∷ words)) (are_apart (other ∷ words)) e in
    reads_or (reads_fixed word.1 word.0) (reads_words other words t.1) (λ u tail v w. parts_stops_all word.1 v word.0 u tail (other ∷ words) t.0 w) (λ tail h. h)

-- where the bytes and the text part, as a length
pub fixed_parts : (bytes text : List ℕ) → common_prefix_len nat_eq bytes text < length bytes → fixed_at bytes text ≡ Err (length text - common_prefix_len nat_eq bytes text)
fixed_parts [] text h = absurd (omega (arith, h))
fixed_parts (byte ∷ bytes) [] h = refl
fixed_parts (byte ∷ bytes) (other ∷ text) h = elim (eqb_tells byte other) [
  | inl e ↦
      let one : common_prefix_len nat_eq (byte ∷ bytes) (other ∷ text) ≡ 1 + common_prefix_len nat_eq bytes text = rw e.0 refl in
      let below : common_prefix_len nat_eq bytes text < length bytes = omega (arith, h, one) in
      subst (λ (c : ℕ). fixed_at (byte ∷ bytes) (c ∷ text) ≡ Err (length (c ∷ text) - common_prefix_len nat_eq (byte ∷ bytes) (other ∷ text))) e.1
      (fixed_step byte bytes text ∙ fixed_parts bytes text below ∙ ap Err (omega (arith, one)))
  | inr e ↦ grind (arith, nat_eq, byte, other, fixed_other)
]

-- where the text begins with the bytes
pub fixed_reads : (bytes text : List ℕ) → length bytes ≤ common_prefix_len nat_eq bytes text → fixed_at bytes text ≡ Ok (drop (length bytes) text)
fixed_reads [] text h = refl
fixed_reads (byte ∷ bytes) [] h = absurd (omega (arith, h))
fixed_reads (byte ∷ bytes) (other ∷ text) h = elim (eqb_tells byte other) [
  | inl e ↦
      let one : common_prefix_len nat_eq (byte ∷ bytes) (other ∷ text) ≡ 1 + common_prefix_len nat_eq bytes text = rw e.0 refl in
      let above : length bytes ≤ common_prefix_len nat_eq bytes text = omega (arith, h, one) in
      subst (λ (c : ℕ). fixed_at (byte ∷ bytes) (c ∷ text) ≡ Ok (drop (length bytes) text)) e.1 (fixed_step byte bytes text ∙ fixed_reads bytes text above)
  | inr e ↦ grind (arith, nat_eq, byte, other)
]

-- a fixed text stops within the text
fixed_within : {V : Type 0} (value : V) (bytes text : List ℕ) (left : ℕ) → fixed_as value bytes text ≡ Err left → left ≤ length text
fixed_within {V} value bytes text left e = elim (fixed_cases bytes text) [
  | inl r ↦ absurd (no_ok (sym e ∙ bind_of (fixed_at bytes text) (λ u. Ok (value, u)) r.0 r.1))
  | inr p ↦ grind (arith, err_same, bind_stops, fixed_at, length-append)
]

-- words stop within the text
word_within : {V : Type 0} (words : List (List ℕ × V)) (text : List ℕ) (left : ℕ) → word_at words text ≡ Err left → left ≤ length text
word_within [] text left e = let same = err_same (length text) left e in omega (arith, same)
word_within (word ∷ words) text left e = grind (arith, either_wrong, fixed_as, word_at, fixed_within)

-- a text may go wrong no earlier than at its beginning
from_beginning : {V : Type 0} (text : List ℕ) (r : Result V ℕ) → ((left : ℕ) → r ≡ Err left → left ≤ length text) → either (Err (length text)) r ≡ r
from_beginning text r h = grind (arith)

pub word_begins : {V : Type 0} (words : List (List ℕ × V)) (text : List ℕ) → either (Err (length text)) (word_at words text) ≡ word_at words text
word_begins words text = from_beginning text (word_at words text) (λ left e. word_within words text left e)

-- two places and what else is read
either_twice : {A : Type 0} (a b : ℕ) (r : Result A ℕ) → either (Err a) (either (Err b) r) ≡ either (Err (min a b)) r
either_twice a b r = grind (arith)

-- one word was not read
pub word_passed : {V : Type 0} (value : V) (bytes text : List ℕ) (words : List (List ℕ × V)) (left other : ℕ) (all : Result (V × List ℕ) ℕ) → fixed_at bytes text ≡ Err other
    → either (Err left) (word_at ((bytes, value) ∷ words) text) ≡ all → either (Err (min left other)) (word_at words text) ≡ all
word_passed {V} value bytes text words left other all e h = grind (arith, either_twice, word_at, either, bind_stops, fixed_at)

-- one word was read
pub word_found : {V : Type 0} (value : V) (bytes text rest : List ℕ) (words : List (List ℕ × V)) (left : ℕ) (all : Result (V × List ℕ) ℕ) → fixed_at bytes text ≡ Ok rest
    → either (Err left) (word_at ((bytes, value) ∷ words) text) ≡ all → all ≡ Ok (value, rest)
word_found {V} value bytes text rest words left all e h =
    sym h ∙ ap (λ (r : Result (V × List ℕ) ℕ). either (Err left) (either r (word_at words text))) (bind_of (fixed_at bytes text) (λ u. Ok (value, u)) rest e)
