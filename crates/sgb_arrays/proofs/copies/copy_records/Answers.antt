use Rattle.std.proofs.Common.{◌∙◌, ap, sym, Some}
use Rattle.sgb_arrays.proofs.CopiedGraphs.{record_more}
use Rattle.sgb_arrays.proofs.copies.copy_records.Goals as goal

pub loop-k-preserved : goal.loop-k-preserved
loop-k-preserved c =
    record_more c.args.parts.now c.loop-k.parts c.add_arc.new.self c.args.graph.now.records c.loop-k.k c.in_ok-arc.arc c.loop-k.invariant
    (c.arc_rec.ensures ∙ ap Some (sym c.in_ok-arc.ensures.copy)) c.in_ok-add_arc.ensures.ok
