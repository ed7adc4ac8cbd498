-- Readers of some words or others, and readers that are as many as texts are long.
use Rattle.std.proofs.Common.{◌≡◌, ℕ, ◌≤◌, ◌+◌, List, [], ◌∷◌, ◌++◌, length, Result, Ok, Err, refl, sym, ◌∙◌, ap, append-nil, arith, length-append}
use Rattle.std.proofs.lemmas.Bool.Decides.{eqb_tells}
use Rattle.std.proofs.lemmas.List.{nil_from_length}
use Rattle.sgb_text.specs.Languages.{Fixed, Or}
use Rattle.sgb_text.proofs.Readings.{either, or_else, fixed_at, fixed_as}
use Rattle.sgb_text.proofs.Readers.{Anything, Reads, bind_stops, cut_in, next, no_ok, reads_or}
use Rattle.sgb_text.proofs.Words.{err_same, fixed_other, reads_fixed, reads_same}
use Rattle.sgb_text.proofs.Lengths.{Language, Reader}

-- the first of two readings or the second, where the first stops no further on
else_is : {A : Type 0} (r s : Result A ℕ) → ((a b : ℕ) → r ≡ Err a → s ≡ Err b → b ≤ a) → or_else r s ≡ either r s
else_is r s h = grind (arith)

-- one byte stops at once
byte_stops : {V : Type 0} (value : V) (byte : ℕ) (text : List ℕ) (left : ℕ) → fixed_as value (byte ∷ []) text ≡ Err left → left ≡ length text
byte_stops value byte text left e = grind (arith, err_same, eqb_tells, fixed_at, no_ok, fixed_other)

-- a reader of one byte, or of other words, none of which begins with it
pub reads_else : {V : Type 0} {Word : Language V} {read : Reader V} (value : V) (byte : ℕ) → Reads Word Anything read
    → ((word tail : List ℕ) (v : V) → Word word v → (left : ℕ) × (fixed_at (byte ∷ []) (word ++ tail) ≡ Err left))
    → Reads (Or (Fixed value (byte ∷ [])) Word) Anything (λ text. or_else (fixed_as value (byte ∷ []) text) (read text))
reads_else {V} {Word} {read} value byte r apart =
    reads_same
    (λ text. sym (else_is (fixed_as value (byte ∷ []) text) (read text)
    (λ a b e f.
    let w = r.wrong text b f in
    let all = byte_stops value byte text a e in
    omega (arith, all, w.cut.count, ap length w.cut.whole, length-append w.cut.good w.cut.bad))))
    (reads_or (reads_fixed value (byte ∷ [])) r
    (λ word tail v w.
    let stops = apart word tail v w in
    (stops.0, bind_stops (fixed_at (byte ∷ []) (word ++ tail)) (λ rest. Ok (value, rest)) stops.0 stops.1))
    (λ tail h. h))

-- two cuts of one text at one place
same_cut : (a u b v : List ℕ) → a ++ u ≡ b ++ v → length u ≡ length v → (b ≡ a) × (u ≡ v)
same_cut a u b v e h =
    let t = cut_in a u b v e (omega (arith, h)) in
    grind (arith, nil_from_length, length-append, append-nil, t)

-- a reader that is each of some readers on texts to a length, where each word is one of a language's from some length on
pub reads_all : {V : Type 0} {Word : Language V} {Tail : List ℕ → Type 0} {read : Reader V} (To : ℕ → Language V) (to : ℕ → Reader V) → ((n : ℕ) → Reads (To n) Tail (to n))
    → ((n : ℕ) (word : List ℕ) (value : V) → To n word value → Word word value)
    → ((word : List ℕ) (value : V) → Word word value → (m : ℕ) × ((n : ℕ) → m ≤ n → To n word value))
    → ((n : ℕ) (text : List ℕ) → length text ≤ n → read text ≡ to n text) → Reads Word Tail read
reads_all {V} {Word} {Tail} {read} To to r are from same = record {
  found = λ text value rest e.
      let at : (n : ℕ) → length text ≤ n → to n text ≡ Ok (value, rest) = λ n h. sym (same n text h) ∙ e in
      let f = (r (length text)).found text value rest (at (length text) (omega arith)) in record {
        word = f.word;
        whole = f.whole;
        is = are (length text) f.word value f.is;
        same = λ other e2.
            let n = length text + length (f.word ++ other) in
            let g = (r n).found text value rest (at n (omega arith)) in
            let one = same_cut f.word rest g.word rest (sym f.whole ∙ g.whole) refl in
            same n (f.word ++ other) (omega arith) ∙ ap (λ u. to n (u ++ other)) (sym one.0) ∙ g.same other e2;
      };
  wrong = λ text left e.
      let at : (n : ℕ) → length text ≤ n → to n text ≡ Err left = λ n h. sym (same n text h) ∙ e in
      let f = (r (length text)).wrong text left (at (length text) (omega arith)) in record {
        cut = f.cut;
        begins = (f.begins.0, f.begins.1, are (length text) (f.cut.good ++ f.begins.0) f.begins.1 f.begins.2);
        same = λ other e2.
            let n = length text + length (f.cut.good ++ other) in
            let g = (r n).wrong text left (at n (omega arith)) in
            let one = same_cut f.cut.good f.cut.bad g.cut.good g.cut.bad (sym f.cut.whole ∙ g.cut.whole) (sym f.cut.count ∙ g.cut.count) in
            same n (f.cut.good ++ other) (omega arith) ∙ ap (λ u. to n (u ++ other)) (sym one.0) ∙ g.same other (e2 ∙ ap next one.1);
      };
  again = λ word tail value is t.
      let m = from word value is in
      let n = m.0 + length (word ++ tail) in
      same n (word ++ tail) (omega arith) ∙ (r n).again word tail value (m.1 n (omega arith)) t;
  some = let a = (r 0).some in (a.0, a.1, are 0 a.0 a.1 a.2);
}
