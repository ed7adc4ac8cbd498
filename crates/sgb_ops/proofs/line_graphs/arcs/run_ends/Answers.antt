use Rattle.std.proofs.Common.{rules, ◌-◌, arith}
use Rattle.sgb_ops.proofs.LineRuns.{ends_first, ends_more, ends_sum, few_from}
use Rattle.sgb_ops.proofs.line_graphs.arcs.run_ends.Goals as goal

pub loop-w-init : goal.loop-w-init
loop-w-init c = ends_first c.args.n c.args.lines.now c.in_ok-ends.ends.items c.requires.within c.in_ok-ends.ensures.size c.in_ok-ends.ensures.counts

pub overflow_add-index_mut : goal.overflow_add-index_mut
overflow_add-index_mut c =
    let lines = c.args.lines.now in
    let w = c.loop-w.w in
    let sum = ends_sum c.args.n w lines c.loop-w.ends.items c.index_mut.result.now c.index.result.now c.loop-w-test.true c.loop-w.auto.w c.loop-w.invariant c.index_mut.ensures.value c.index.ensures in
    omega (arith, sum, few_from (w - 1) lines, c.requires.few)

pub loop-w-preserved : goal.loop-w-preserved
loop-w-preserved c = search (rules, ends_sum, ends_more)
