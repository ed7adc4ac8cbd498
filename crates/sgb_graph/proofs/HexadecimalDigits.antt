-- The hexadecimal digits of a number, put one after another from the last on.
use Rattle.sgb_vec.proofs.Common.{◌≡◌, ℕ, zero, suc, ◌+◌, ◌/◌, ◌%◌, ◌^◌, ◌<◌, Bool, true, false, cond, eqb, List, [], ◌∷◌, length, set, drop, refl, ap, ◌∙◌, arith, digit_glyph, digits_onto, digits, pow-suc, eq-eqb, ne_eqb, drop_all, drop-set, length-set}
use Rattle.sgb_vec.specs.Names.{is_text_byte}
use Rattle.sgb_graph.specs.IdTexts.{is_id_text}
use Rattle.sgb_graph.proofs.TestLemmas.{at_each_below}

-- the digits of a number in front of others: the last one alone, or the others before it
onto-either : (k n : ℕ) (acc : List ℕ) (t : Bool) → eqb (n / 16) 0 ≡ t → digits_onto (suc k) 16 false n acc ≡ cond t (digit_glyph false (n % 16) ∷ acc) (digits_onto k 16 false (n / 16) (digit_glyph false (n % 16) ∷ acc))
onto-either k n acc t e = ap (λ (b : Bool). cond b (digit_glyph false (n % 16) ∷ acc) (digits_onto k 16 false (n / 16) (digit_glyph false (n % 16) ∷ acc))) e

onto-last : (k n : ℕ) (acc : List ℕ) → 0 < k → n / 16 ≡ 0 → digits_onto k 16 false n acc ≡ digit_glyph false (n % 16) ∷ acc
onto-last zero n acc h e = absurd (omega arith)
onto-last (suc k) n acc h e = onto-either k n acc true (eq-eqb (n / 16) 0 e)

onto-more : (k j n : ℕ) (acc : List ℕ) → k ≡ suc j → 0 < n / 16 → digits_onto k 16 false n acc ≡ digits_onto j 16 false (n / 16) (digit_glyph false (n % 16) ∷ acc)
onto-more k j n acc e h = ap (λ m. digits_onto m 16 false n acc) e ∙ onto-either j n acc false (ne_eqb (n / 16) 0 (λ none. omega arith))

-- the digits of the number stand in the text from this place on, but for those of the rest of it
pub record HasDigitsFrom (number rest start : ℕ) (text : List ℕ) : Type 0 where
  pub size : length text ≡ 32
  pub some : start < 32 → 0 < rest
  pub small : rest < 16 ^ start
  pub whole : digits_onto (32 + start) 16 false rest (drop start text) ≡ digits 16 false number

-- at first those of the whole number are left
pub digits-none : (number : ℕ) (text : List ℕ) → number < 2 ^ 128 → length text ≡ 32 → HasDigitsFrom number number 32 text
unfolding digits
digits-none number text h e = record {
  size = e;
  some = λ l. absurd (omega arith);
  small = h;
  whole = ap (λ acc. digits_onto 64 16 false number acc) (drop_all 32 text (omega arith));
}

-- one digit more is put
pub digits-more : (number rest start place : ℕ) (text : List ℕ) → HasDigitsFrom number rest start text → start ≡ place + 1 → place < 32 → 0 < rest / 16 → HasDigitsFrom number (rest / 16) place (set text place (digit_glyph false (rest % 16)))
digits-more number rest start place text h e l some = grind (arith, pow-suc, length-set, drop-set, onto-more)

-- the first digit is put
pub digits-first : (number rest start place : ℕ) (text : List ℕ) → HasDigitsFrom number rest start text → start ≡ place + 1 → place < 32 → rest / 16 ≡ 0 → drop place (set text place (digit_glyph false (rest % 16))) ≡ digits 16 false number
digits-first number rest start place text h e l none = grind (arith, drop-set, onto-last)

-- a digit may stand in an id
text_byte-glyph : (d : ℕ) → d < 16 → is_text_byte (digit_glyph false d) ≡ true
text_byte-glyph d h = at_each_below (λ k. is_text_byte (digit_glyph false k)) 16 refl d h

id_text-onto : (k n : ℕ) (acc : List ℕ) → is_id_text acc ≡ true → is_id_text (digits_onto k 16 false n acc) ≡ true
id_text-onto zero n acc h = h
id_text-onto (suc k) n acc h = grind (arith, text_byte-glyph, eqb, cond, id_text-onto k (n / 16) (digit_glyph false (n % 16) ∷ acc) (rw (text_byte-glyph (n % 16) (omega arith)) h))

-- so may all digits of a number
pub id_text-digits : (n : ℕ) → is_id_text (digits 16 false n) ≡ true
unfolding digits
id_text-digits n = id_text-onto 64 n [] refl
