use Rattle.std.proofs.Common.{◌%◌, ◌^◌, true, false, sym, ap, ◌∙◌}
use Rattle.sgb_gen.proofs.SubsetsPairs.{pairs-ended}
use Rattle.sgb_gen.proofs.accepted.subsets.pairs.count_ended.Goals as goal

pub returns-then-is_wanted : goal.returns-then-is_wanted
returns-then-is_wanted c = ap (λ n. n % 2 ^ 64) (pairs-ended c.args.size_bits c.args.common true (sym c.is_wanted.ensures ∙ c.if-is_wanted.true))

pub returns : goal.returns
returns c = ap (λ n. n % 2 ^ 64) (pairs-ended c.args.size_bits c.args.common false (sym c.is_wanted.ensures ∙ c.if-is_wanted.false))
