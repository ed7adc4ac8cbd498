use Rattle.std.proofs.Common.{sym, subst}
use Rattle.sgb_graph.specs.Draws.{IsAtDraw}
use Rattle.sgb_graph.specs.Flips.{FlipData}
use Rattle.sgb_graph.proofs.Standing.{hands_out_draw, result_below}
use Rattle.sgb_graph.proofs.flips.Flip.draw.Goals as goal

pub returns : goal.returns
returns c = record {
  stands = λ start k stands.
      let inside = subst (λ (d : FlipData). IsAtDraw start k d.numbers d.left) (sym c.self.view_is) stands in
      let out = hands_out_draw start k _ _ _ _ _ inside c.hand_out.ensures in
      (out.value, out.stands);
  below = result_below _ _ _ _ _ c.hand_out.ensures;
}
