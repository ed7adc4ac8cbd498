-- Draws, one after another.
use Rattle.std.proofs.Common.{◌≡◌, ℕ, zero, suc, ◌+◌, ◌-◌, ◌<◌, ◌≤◌, List, ◌∷◌, length, set, refl, sym, ap, ◌∙◌, arith, rules}
use Rattle.sgb_graph.specs.Draws.{IsUniformDraw, draw, modulus, plain_draws, uniform_draws, used_draw}
use Rattle.sgb_graph.proofs.UniformDraws.{uniform_draw_only}
use Rattle.sgb_arrays.specs.inner.Puts.{put_from}
use Rattle.sgb_arrays.proofs.PutValues.{put_from-all}

-- so many draws are so many numbers
pub length-plain_draws : (seed k count : ℕ) → length (plain_draws seed k count) ≡ count
unfolding plain_draws
length-plain_draws seed k zero = refl
length-plain_draws seed k (suc count) = ap suc (length-plain_draws seed (k + 1) count)

pub length-uniform_draws : (seed m k count : ℕ) → length (uniform_draws seed m k count) ≡ count
unfolding uniform_draws
length-uniform_draws seed m k zero = refl
length-uniform_draws seed m k (suc count) = ap suc (length-uniform_draws seed m (used_draw seed m k + 1) count)

-- the first of those that are left
plain_first : (seed k number left rest : ℕ) → left ≡ suc rest → number ≡ draw seed k → plain_draws seed k left ≡ number ∷ plain_draws seed (k + 1) rest
unfolding plain_draws
plain_first seed k number left rest more is = ap (plain_draws seed k) more ∙ ap (λ (n : ℕ). n ∷ plain_draws seed (k + 1) rest) (sym is)

uniform_first : (seed m k number last left rest : ℕ) → left ≡ suc rest → 1 ≤ m → m ≤ modulus → IsUniformDraw seed m k number last
    → uniform_draws seed m k left ≡ number ∷ uniform_draws seed m (last + 1) rest
unfolding uniform_draws
uniform_first seed m k number last left rest more some small is =
    let only = uniform_draw_only seed m k number last some small is in
    search (rules, uniform_draws, draw, only)

-- it is put
pub draw_put : (seed k next number place size : ℕ) (now all : List ℕ) → next ≡ k + 1 → place < size → number ≡ draw seed k
    → put_from place (plain_draws seed k (size - place)) now ≡ all
    → put_from (place + 1) (plain_draws seed next (size - (place + 1))) (set now place number) ≡ all
draw_put seed k next number place size now all step within is whole = grind (arith, set, plain_first)

pub uniform_put : (seed m k number last place size : ℕ) (now all : List ℕ) → place < size → 1 ≤ m → m ≤ modulus → IsUniformDraw seed m k number last
    → put_from place (uniform_draws seed m k (size - place)) now ≡ all
    → put_from (place + 1) (uniform_draws seed m (last + 1) (size - (place + 1))) (set now place number) ≡ all
uniform_put seed m k number last place size now all within some small is whole = grind (arith, uniform_first)

-- none is left, so all are put
pub draws_put : (seed k skip place size : ℕ) (now old : List ℕ) → size ≤ place → length old ≡ size
    → put_from place (plain_draws seed k (size - place)) now ≡ put_from 0 (plain_draws seed skip size) old → now ≡ plain_draws seed skip size
unfolding plain_draws
draws_put seed k skip place size now old past is whole = grind (arith, put_from-all, length-plain_draws)

pub uniform_draws_put : (seed m k skip place size : ℕ) (now old : List ℕ) → size ≤ place → length old ≡ size
    → put_from place (uniform_draws seed m k (size - place)) now ≡ put_from 0 (uniform_draws seed m skip size) old → now ≡ uniform_draws seed m skip size
unfolding uniform_draws
uniform_draws_put seed m k skip place size now old past is whole = grind (arith, put_from-all, length-uniform_draws)
