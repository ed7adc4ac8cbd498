use Rattle.std.proofs.Common.{eqb, take, arith, w8, length-take}
use Rattle.std.proofs.lemmas.Simd.{bitmask_splat, first_set_mask_l}
use Rattle.sgb_file.proofs.scans.lanes_before.Goals as goal

pub returns : goal.returns
returns c =
    let lanes = take 16 c.args.text.now in
    grind (arith, length-take, bitmask_splat w8 eqb lanes 16 c.args.byte, first_set_mask_l (λ b. eqb b c.args.byte) lanes 16)
