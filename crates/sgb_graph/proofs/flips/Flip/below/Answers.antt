use Rattle.sgb_graph.specs.Draws.{bound_below}
use Rattle.sgb_graph.proofs.Standing.{thrown_more, uniform_taken}
use Rattle.sgb_graph.proofs.Waiting.{bound_above, waiting_falls}
use Rattle.sgb_graph.proofs.flips.Flip.below.Goals as goal

pub loop-self-preserved : goal.loop-self-preserved
loop-self-preserved c = record {
  flip = c.hand_out-number.ensures.flip;
  thrown = λ start k stands.
      thrown_more start c.args.m k _ _ c.hand_out-number.result _ _ (c.loop-self.invariant.thrown start k stands) c.hand_out-number.ensures c.if-number-bound.false;
}

pub loop-self-smaller : goal.loop-self-smaller
loop-self-smaller c =
    waiting_falls (bound_below c.args.m) _ _ c.hand_out-number.result _ _ (bound_above c.args.m c.requires.positive c.requires.small) c.hand_out-number.ensures c.if-number-bound.false

pub returns-then-number-bound-clause-stands : goal.returns-then-number-bound-clause-stands
returns-then-number-bound-clause-stands c start k stands =
    uniform_taken start c.args.m k _ _ c.hand_out-number.result _ _ (c.loop-self.invariant.thrown start k stands) c.hand_out-number.ensures c.if-number-bound.true
