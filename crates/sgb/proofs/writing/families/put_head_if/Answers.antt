use Rattle.std.proofs.Common.{rules, refl}
use Rattle.sgb.proofs.writing.families.put_head_if.Goals as goal
