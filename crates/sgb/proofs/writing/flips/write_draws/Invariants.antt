use Rattle.std.proofs.Common.{◌≡◌, ◌-◌, ℕ, [], false}
use Rattle.sgb_graph.specs.Draws.{IsAtDraw, seed_of}
use Rattle.sgb.proofs.Pages.{PagedSoFar}
use Rattle.sgb.specs.FlipAnswers.{drawn_from, number_lines}
use Rattle.sgb.specs.inner.FlipAnswers.{drawn}
use Rattle.sgb.proofs.writing.flips.write_draws.Given as goal

-- the numbers from where the generator stands are left
abbrev pub invariant-loop-number : goal.invariant-loop-number
invariant-loop-number g l =
    ((k : ℕ) × IsAtDraw l.draws.start k l.flip.numbers l.flip.left
    × PagedSoFar (number_lines (drawn l.draws)) (number_lines (drawn_from (seed_of l.draws.start) l.draws.m k (l.draws.count - l._number)))
    [] l.page (g.W.Sink.written l.initial.out) (g.W.Sink.written l.out))
    × (g.W.Sink.has_failed l.out ≡ false)
