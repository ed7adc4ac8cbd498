use Rattle.std.proofs.Common.{rules, sym, ◌∙◌, arith}
use Rattle.std.proofs.lemmas.Grind.{common_steps}
use Rattle.sgb_vec.proofs.SumRowLemmas.{take_written}
use Rattle.sgb_graph.proofs.MarkedWays.{not_all_end, all_end}
use Rattle.sgb_graph.proofs.parts.walks.chains_end.Goals as goal

pub returns-then-not-way_ends : goal.returns-then-not-way_ends
returns-then-not-way_ends c = sym (not_all_end c.args.records.now.items c.loop-k.k (omega (arith, c.loop-k-test.true, c.len-k-end.ensures.count)) (sym c.way_ends.ensures ∙ c.if-not-way_ends.true))

pub returns : goal.returns
returns c = sym (all_end c.args.records.now.items (λ j below. c.loop-k.invariant.before j (omega arith)))

pub loop-k-init : goal.loop-k-init
loop-k-init c = grind (arith, common_steps)

pub loop-k-preserved : goal.loop-k-preserved
loop-k-preserved c = search (rules, take_written)
