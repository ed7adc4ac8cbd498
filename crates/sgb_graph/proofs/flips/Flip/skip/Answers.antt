use Rattle.std.proofs.Common.{sym, subst}
use Rattle.sgb_graph.specs.Draws.{IsAtDraw}
use Rattle.sgb_graph.specs.Flips.{FlipData}
use Rattle.sgb_graph.proofs.Standing.{skips_inside, skips_over}
use Rattle.sgb_graph.proofs.flips.Flip.skip.Goals as goal
use Rattle.sgb_graph.proofs.flips.Flip.skip.Goals.{then-self-rest, else-self-rest}

pub returns : goal.returns
returns c start k stands =
    let inside = subst (λ (d : FlipData). IsAtDraw start k d.numbers d.left) (sym c.self.view_is) stands in
    elim c.if-self-rest.branch [
      | then-self-rest w ↦
          rw w.self-inside-is
          (skips_over start k c.args.count _ _ _ _ c.self.invariant.cycle inside c.jump.ensures w.step_cycle.ensures w.if-self-rest.true)
      | else-self-rest w ↦
          rw w.self-inside-is
          (skips_inside start k c.args.count _ _ _ c.self.invariant.cycle inside c.jump.ensures w.if-self-rest.false)
    ]
