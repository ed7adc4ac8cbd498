use Rattle.std.proofs.Common.{◌≡◌, ◌+◌, ◌-◌, length}
use Rattle.sgb_graph.specs.Draws.{IsAtDraw, plain_draws, seed_of}
use Rattle.sgb_arrays.specs.inner.Puts.{put_from}
use Rattle.sgb_arrays.proofs.draws.fill_draws.Given as goal

-- the draws from where the generator stands are still to be put
abbrev pub invariant-loop-place : goal.invariant-loop-place
invariant-loop-place l = record {
  stands : IsAtDraw l.start (l.skip + l.place) l.flip.numbers l.flip.left;
  draws : put_from l.place (plain_draws (seed_of l.start) (l.skip + l.place) (length l.fn.out - l.place)) l.out
      ≡ put_from 0 (plain_draws (seed_of l.start) l.skip (length l.fn.out)) l.fn.out;
  places : length l.out ≡ length l.fn.out;
}
