use Rattle.std.proofs.Common.{rules, arith}
use Rattle.sgb_file.proofs.ShortLines.{put-next, put-none}
use Rattle.sgb_file.proofs.saving.short_lines.ShortLines.push_bytes.Goals as goal

pub loop-byte-init : goal.loop-byte-init
loop-byte-init c = (put-none c.args.self.now c.args.bytes.now, omega arith)

pub loop-byte-preserved : goal.loop-byte-preserved
loop-byte-preserved c = search (rules, put-next)
