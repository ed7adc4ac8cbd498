-- The numbers that a flip draws, one after another.
use Rattle.std.proofs.Common.{◌≡◌, ◌++◌, ◌+◌, ◌%◌, ◌≤◌, ◌∙◌, [], ◌∷◌, ℕ, zero, suc, ap, sym, arith}
use Rattle.sgb_graph.specs.Draws.{IsUniformDraw, draw, modulus, plain_draws, uniform_draws}
use Rattle.sgb_graph.proofs.UniformDraws.{uniform_draw_only}
use Rattle.sgb.specs.FlipAnswers.{drawn_from, number_lines}
use Rattle.sgb.specs.inner.Texts.{number_line}

-- where m is 0, the next draw comes first
pub plain_first : (seed m k number count : ℕ) → m ≡ 0 → number ≡ draw seed k → drawn_from seed m k (suc count) ≡ number ∷ drawn_from seed m (k + 1) count
unfolding plain_draws
plain_first seed m k number count none e = grind (arith)

-- where m is not 0, the uniform draw below it comes first
pub uniform_first : (seed m k number last count : ℕ) → 1 ≤ m → m ≤ modulus → IsUniformDraw seed m k number last
    → drawn_from seed m k (suc count) ≡ number ∷ drawn_from seed m (last + 1) count
unfolding uniform_draws
uniform_first seed zero k number last count some small is = absurd (omega (arith, some))
uniform_first seed (suc m) k number last count some small is =
    let only = uniform_draw_only seed (suc m) k number last some small is in
    ap (λ (t : ℕ). draw seed t % suc m ∷ uniform_draws seed (suc m) (t + 1) count) (sym only.0)
    ∙ ap (λ (n : ℕ). n ∷ uniform_draws seed (suc m) (last + 1) count) (sym only.1)

-- their lines, where these are what is left
pub lines_none : (seed m k left : ℕ) → left ≡ 0 → number_lines (drawn_from seed m k left) ≡ []
unfolding number_lines plain_draws uniform_draws
lines_none seed m k left none = grind (arith)

pub lines_first : (seed m k next number left rest : ℕ) → left ≡ suc rest
    → ((count : ℕ) → drawn_from seed m k (suc count) ≡ number ∷ drawn_from seed m next count)
    → number_lines (drawn_from seed m k left) ≡ number_line number ++ number_lines (drawn_from seed m next rest)
unfolding number_lines
lines_first seed m k next number left rest more first = grind (arith)
