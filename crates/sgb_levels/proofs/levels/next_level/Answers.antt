use Rattle.std.proofs.Common.{◌∙◌}
use Rattle.sgb_levels.specs.inner.Searches.{tips_from}
use Rattle.sgb_levels.proofs.Marking.{vertex_marked}
use Rattle.sgb_levels.proofs.levels.next_level.Goals as goal

pub loop-v-preserved : goal.loop-v-preserved
loop-v-preserved c = record {
  marks = vertex_marked c.args.distance (tips_from c.args.graph.now) c.args.level.now c.loop-v.v-index _ _ _ _ c.loop-v-test.true c.in_ok-mark_tips.ensures.marks c.loop-v.invariant.marks;
  size = c.mark_tips.ensures.size ∙ c.loop-v.invariant.size;
}
