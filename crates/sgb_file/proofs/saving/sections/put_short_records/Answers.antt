use Rattle.std.proofs.Common.{arith}
use Rattle.sgb_file.proofs.LaidLines.{lines-further, lines-none}
use Rattle.sgb_file.proofs.saving.sections.put_short_records.Goals as goal

pub loop-k-init : goal.loop-k-init
loop-k-init g c = (omega arith, lines-none _ _, c.requires)

pub loop-k-preserved : goal.loop-k-preserved
loop-k-preserved g c = (
  omega (arith, c.loop-k.invariant.0),
  lines-further _ _ _ _ _ _ c.loop-k.invariant.1 c.if-not-put_short.ensures.laid,
  c.put_short.ensures.value,
)
