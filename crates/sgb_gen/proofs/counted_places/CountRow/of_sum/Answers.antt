use Rattle.std.proofs.Common.{◌∙◌}
use Rattle.sgb_gen.proofs.KeptCounts.{near_of_sum, beyond_of_sum}
use Rattle.sgb_gen.proofs.counted_places.CountRow.of_sum.Goals as goal

pub returns-then-sum-bound : goal.returns-then-sum-bound
returns-then-sum-bound c total after has =
    near_of_sum c.args.self.now c.as_slice-counts.result.now after total c.args.sum c.args.bound has (c.as_slice-counts.ensures.value ∙ c.self.view_is) c.requires c.if-sum-bound.true

pub returns : goal.returns
returns c total after has =
    c.saturating_sub.ensures
    ∙ beyond_of_sum c.args.self.now c.as_slice-counts.result.now after total c.args.sum c.args.bound has (c.as_slice-counts.ensures.value ∙ c.self.view_is) c.requires c.if-sum-bound.false
