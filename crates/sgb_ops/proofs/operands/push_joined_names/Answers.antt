use Rattle.std.proofs.Common.{arith, length, take, ap, length-append, length-take}
use Rattle.sgb_ops.proofs.operands.push_joined_names.Goals as goal

pub push_begun_names-requires : goal.push_begun_names-requires
push_begun_names-requires c =
    omega (arith, ap length c.in_ok-start.ensures.ok, length-append (take 2_047 c.args.name.now) c.args.separator.now, length-take 2_047 c.args.name.now, c.requires.short)
