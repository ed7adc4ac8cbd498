use Rattle.sgb_vec.proofs.Common.{rules, arith, list_any, drop_all}
use Rattle.sgb_ops.specs.Entries.{is_unnumbered}
use Rattle.sgb_ops.proofs.EntryTotals.{unnumbered_left}
use Rattle.sgb_ops.proofs.induced_graphs.entries.has_unnumbered.Goals as goal

pub returns-then-is_unnumbered : goal.returns-then-is_unnumbered
returns-then-is_unnumbered c =
    let left = unnumbered_left c.args.entries.now c.loop-v.v c.at-entry.result (omega (arith, c.requires)) c.at-entry.ensures in
    grind (arith, left)

pub loop-v-preserved : goal.loop-v-preserved
loop-v-preserved c =
    let left = unnumbered_left c.args.entries.now c.loop-v.v c.at-entry.result (omega (arith, c.requires)) c.at-entry.ensures in
    grind (arith, left)

pub returns : goal.returns
returns c = search (rules, list_any, is_unnumbered, drop_all)
