-- Whole texts read as words: what is read, and where a text goes wrong.
use Rattle.std.proofs.Common.{◌≡◌, ◌≤◌, ◌<◌, ◌-◌, ◌+◌, ℕ, List, [], ◌∷◌, ◌++◌, length, take, Ok, Err, refl, sym, ◌∙◌, ap, subst, append_assoc, append-nil, arith, length-append, zero, suc, inl, inr}
use Rattle.std.proofs.Math.Seq.{take-append_seam}
use Rattle.sgb_text.specs.Languages.{Begins, IsLongestPrefixOf, IsNoWord}
use Rattle.sgb_text.proofs.Readings.{at_end, whole_by}
use Rattle.sgb_text.proofs.Lengths.{Language, Reader}
use Rattle.sgb_text.proofs.Readers.{Reads, next, Stops, bind_ok, bind_err, bind_of, no_ok, ok_same, stops_within, stops_after, word_again}
use Rattle.sgb_text.proofs.Words.{err_same}

-- nothing is left after the word
end_ok : {V : Type 0} (v w : V) (rest : List ℕ) → at_end v rest ≡ Ok w → (rest ≡ []) × (v ≡ w)
end_ok v w rest h = grind (arith, ok_same, no_ok)

-- what is read is a word
pub word_whole : {V : Type 0} {Word : Language V} {Tail : List ℕ → Type 0} {read : Reader V} → Reads Word Tail read → (text : List ℕ) (value : V) → whole_by read text ≡ Ok value → Word text value
word_whole {V} {Word} {Tail} {read} r text value h =
    let x = bind_ok (read text) (λ x. at_end x.0 x.1) value h in
    let f = r.found text x.0.0 x.0.1 x.1 in
    grind (arith, end_ok, append-nil, x, f)

-- a word is read
pub whole_word : {V : Type 0} {Word : Language V} {Tail : List ℕ → Type 0} {read : Reader V} → Reads Word Tail read → Tail [] → (text : List ℕ) (value : V) → Word text value → whole_by read text ≡ Ok value
whole_word {read = read} r end text value is = bind_of (read text) (λ x. at_end x.0 x.1) (value, []) (word_again r end text value is)

-- something is left after the word
end_wrong : {V : Type 0} {Word : Language V} {Tail : List ℕ → Type 0} {read : Reader V} → Reads Word Tail read → Tail [] → (text : List ℕ) (value : V) (rest : List ℕ) (left : ℕ) → read text ≡ Ok (value, rest) → at_end value rest ≡ Err left → Stops Word text left
end_wrong r end text value [] left h k = absurd (no_ok (sym k))
end_wrong {Word = Word} r end text value (byte ∷ rest) left h k =
    subst (λ (n : ℕ). Stops Word text n) (err_same (length (byte ∷ rest)) left k) (stops_after r end text value byte rest h)

-- where a text goes wrong
whole_stops : {V : Type 0} {Word : Language V} {Tail : List ℕ → Type 0} {read : Reader V} → Reads Word Tail read → Tail [] → (text : List ℕ) (left : ℕ) → whole_by read text ≡ Err left → Stops Word text left
whole_stops {read = read} r end text left h = elim (bind_err (read text) (λ x. at_end x.0 x.1) left h) [
  | inl e ↦ stops_within r end text left e
  | inr x ↦ end_wrong r end text x.0.0 x.0.1 left x.1 x.2
]

-- a longer prefix of the text goes on with its next byte
goes_on : (good bad : List ℕ) (j : ℕ) → length good < j → j ≤ length (good ++ bad) → (rest : List ℕ) × (take j (good ++ bad) ≡ good ++ rest) × ((more : List ℕ) → next (rest ++ more) ≡ next bad)
goes_on [] [] j above within = absurd (omega (arith, above, within))
goes_on [] (byte ∷ bad) zero above within = absurd (omega (arith, above))
goes_on [] (byte ∷ bad) (suc j) above within = (byte ∷ take j bad, refl, λ more. refl)
goes_on (c ∷ good) bad zero above within = absurd (omega (arith, above))
goes_on (c ∷ good) bad (suc j) above within = grind (arith, goes_on good bad j (omega (arith, above)) (omega (arith, within)))

-- a text that is no word, and its longest prefix that begins one
pub record GoesWrong {V : Type 0} (Word : List ℕ → V → Type 0) (text : List ℕ) (left : ℕ) : Type 0 where
  pub within : left ≤ length text
  pub none : IsNoWord Word text
  pub longest : IsLongestPrefixOf Word text (length text - left)

goes_wrong_there : {V : Type 0} (Word : Language V) (text : List ℕ) (left : ℕ) → Stops Word text left → GoesWrong Word text left
goes_wrong_there {V} Word text left s =
    let c = s.cut in
    let count : length text ≡ length c.good + length c.bad = ap length c.whole ∙ length-append c.good c.bad in
    let k : length text - left ≡ length c.good = omega (arith, count, c.count) in
    let prefix : take (length text - left) text ≡ c.good = ap (λ n. take n text) k ∙ ap (take (length c.good)) c.whole ∙ take-append_seam c.good c.bad in record {
      within = omega (arith, count, c.count);
      none = λ v is. s.refused c.bad v refl (subst (λ (u : List ℕ). Word u v) c.whole is);
      longest = record {
        within = omega arith;
        begins = subst (Begins Word) (sym prefix) s.begins;
        longest = λ j above within b.
            let t = goes_on c.good c.bad j (omega (arith, above, k)) (omega (arith, within, ap length c.whole)) in
            let here : take j text ++ b.0 ≡ c.good ++ (t.0 ++ b.0) = ap (λ u. take j u ++ b.0) c.whole ∙ ap (λ u. u ++ b.0) t.1 ∙ append_assoc c.good t.0 b.0 in
            s.refused (t.0 ++ b.0) b.1 (t.2 b.0) (subst (λ (u : List ℕ). Word u b.1) here b.2);
      };
    }

pub goes_wrong : {V : Type 0} {Word : Language V} {Tail : List ℕ → Type 0} {read : Reader V} → Reads Word Tail read → Tail [] → (text : List ℕ) (left : ℕ) → whole_by read text ≡ Err left → GoesWrong Word text left
goes_wrong r end text left h = goes_wrong_there _ text left (whole_stops r end text left h)
