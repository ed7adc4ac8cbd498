use Rattle.std.proofs.Common.{◌≡◌, ◌-◌, ℕ, length}
use Rattle.sgb_graph.specs.Draws.{IsAtDraw, seed_of, uniform_draws}
use Rattle.sgb_arrays.specs.inner.Puts.{put_from}
use Rattle.sgb_arrays.proofs.draws.put_uniform_draws.Given as goal

-- the draws from where the generator stands are still to be put
abbrev pub invariant-loop-place : goal.invariant-loop-place
invariant-loop-place l = record {
  draws : (k : ℕ) × IsAtDraw l.start k l.flip.numbers l.flip.left
      × (put_from l.place (uniform_draws (seed_of l.start) l.m k (length l.fn.out - l.place)) l.out
      ≡ put_from 0 (uniform_draws (seed_of l.start) l.m l.skip (length l.fn.out)) l.fn.out);
  places : length l.out ≡ length l.fn.out;
}
