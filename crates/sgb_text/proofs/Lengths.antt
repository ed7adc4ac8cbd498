-- How much readers leave of a text.
use Rattle.std.proofs.Common.{◌≡◌, ◌≤◌, ◌+◌, ℕ, List, length, inl, inr, Result, Ok, sym, ◌∙◌, ap, arith, length-append}
use Rattle.sgb_text.proofs.Readings.{◌>>=◌, fixed_at}
use Rattle.sgb_text.proofs.Readers.{Reads, no_ok, ok_same}
use Rattle.sgb_text.proofs.Words.{fixed_cases}

-- texts as words of values, and readers of values
abbrev pub Language : Type 0 → Type 1
Language V = List ℕ → V → Type 0

abbrev pub Reader : Type 0 → Type 0
Reader V = List ℕ → Result (V × List ℕ) ℕ

-- every word of the first language is one of the second
abbrev pub Within : {V : Type 0} → Language V → Language V → Type 0
Within {V} Less More = (word : List ℕ) (value : V) → Less word value → More word value

-- the two readers agree on texts of at most n bytes
abbrev pub Agree : {V : Type 0} → ℕ → Reader V → Reader V → Type 0
Agree n first second = (text : List ℕ) → length text ≤ n → first text ≡ second text

-- what a reader leaves is no longer than the text
pub no_longer : {V : Type 0} {Word : Language V} {Tail : List ℕ → Type 0} {read : Reader V} → Reads Word Tail read → (text : List ℕ) (value : V) (rest : List ℕ) → read text ≡ Ok (value, rest) → length rest ≤ length text
no_longer r text value rest e =
    let f = r.found text value rest e in
    omega (arith, ap length f.whole, length-append f.word rest)

-- how much is left after fixed bytes
pub fixed_takes : (bytes text rest : List ℕ) → fixed_at bytes text ≡ Ok rest → length rest + length bytes ≡ length text
fixed_takes bytes text rest e = elim (fixed_cases bytes text) [
  | inl r ↦ grind (arith, ok_same, length-append)
  | inr p ↦ absurd (no_ok (sym p.1 ∙ e))
]

-- readings that go on alike
pub bind_agrees : {A B : Type 0} (r : Result A ℕ) (f g : A → Result B ℕ) → ((x : A) → r ≡ Ok x → f x ≡ g x) → (r >>= f) ≡ (r >>= g)
bind_agrees r f g h = grind (arith)
