use Rattle.sgb_vec.proofs.Common.{ap, arith, drop_all}
use Rattle.sgb_ops.specs.Entries.{merged_count}
use Rattle.sgb_ops.proofs.EntryTotals.{merged_left}
use Rattle.sgb_ops.proofs.induced_graphs.entries.merged_count.Goals as goal

pub loop-v-preserved : goal.loop-v-preserved
loop-v-preserved c =
    let left = merged_left c.args.entries.now c.loop-v.v c.at-entry.result (omega (arith, c.requires)) c.at-entry.ensures in
    omega (arith, left, c.loop-v.invariant, c.number.ensures, c.max-greatest.ensures)

pub returns : goal.returns
returns c = omega (arith, c.loop-v.invariant, ap merged_count (drop_all c.loop-v.v c.args.entries.now (omega (arith, c.requires))))
