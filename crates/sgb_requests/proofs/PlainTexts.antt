-- Texts that do not begin with a hyphen.
use Rattle.sgb_vec.proofs.Common.{◌≡◌, ◌≢◌, ◌∙◌, ◌<◌, ◌==◌, ℕ, false, true≢false, List, [], ◌∷◌, Ok, refl, sym, ap, subst, arith, digit_value}
use Rattle.sgb_expr.specs.Expression.{Expression, expression_of}
use Rattle.sgb_expr.specs.Expressions.{IsExpression}
use Rattle.sgb_expr.specs.declared.expressions.Expr.{Expr}
use Rattle.sgb_expr.specs.declared.flips.FlipParams.{FlipParams}
use Rattle.sgb_text.specs.Numbers.{IsNumber}
use Rattle.sgb_expr.specs.Numbers.{most_digits}
use Rattle.sgb_requests.specs.PlainWords.{IsPlain}
use Rattle.sgb_requests.specs.Reading.{IsFlipReadAs, IsReadAs}

-- a count begins with a digit
pub digits_plain : (count : List ℕ) (k : ℕ) → IsNumber 10 most_digits count k → IsPlain count
digits_plain [] k is = let bad : 0 < 0 = is.numeral.0 in absurd (omega (arith, bad))
digits_plain (c ∷ cs) k is = λ e. let bad : digit_value 45 < 10 = subst (λ (x : ℕ). digit_value x < 10) e is.numeral.1.0 in absurd (omega (arith, bad))

-- a known first byte is not the hyphen
pub letter : (n : ℕ) → (n == 45) ≡ false → n ≢ 45
letter n other e = true≢false (sym (ap (λ (x : ℕ). x == 45) e) ∙ other)

-- an expression begins with its name
named : (text : List ℕ) (e : Expression) → IsExpression text e → IsPlain text
named text e h = grind arith

pub expression_plain : (text : List ℕ) (e : Expr) → IsReadAs text (Ok e) → IsPlain text
expression_plain text e h = named text (expression_of e) h.1

-- and so does a flip
pub flip_plain : (text : List ℕ) (p : FlipParams) → IsFlipReadAs text (Ok p) → IsPlain text
flip_plain text p h = subst IsPlain (sym h.1.1) (letter 102 refl)
