use Rattle.std.proofs.Common.{rules, ◌-◌, sym, ◌∙◌, arith}
use Rattle.sgb_vec.proofs.SumTriples.{triples-near, triples-far}
use Rattle.sgb_vec.proofs.sums.triples.triples.Goals as goal

pub returns-then-sum-a : goal.returns-then-sum-a
returns-then-sum-a c = c.pairs_up_to-pairs.ensures ∙ sym (triples-near c.args.a c.args.b c.args.c c.args.sum (omega arith))

pub overflow_sub-result : goal.overflow_sub-result
overflow_sub-result c =
    omega (arith, c.pairs_up_to-pairs.ensures, c.pairs_up_to.ensures, triples-far c.args.a c.args.b c.args.c (c.args.sum - c.args.a - 1) c.args.sum (omega arith))

pub returns : goal.returns
returns c = search (rules, triples-far)
