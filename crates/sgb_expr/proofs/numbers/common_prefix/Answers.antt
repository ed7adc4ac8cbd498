use Rattle.sgb_vec.proofs.Common.{◌≡◌, length, min, drop, nat_eq, arith, length-drop, common_prefix_len-le}
use Rattle.std.proofs.lemmas.Slice.Zip.{zip_end}
use Rattle.sgb_expr.proofs.numbers.common_prefix.Goals as goal

pub returns-clause-value : goal.returns-clause-value
returns-clause-value c =
    let left = c.args.left.now in
    let right = c.args.right.now in
    let at = c.loop-a.same in
    let ends : length c.loop-a.yielded ≡ min (length left) (length right) =
    zip_end left right _ _ _ c.next.new.self _ (cc) (cc) c.loop-a.yielded_by c.in-None.is c.next.ensures.steps in
    let least = common_prefix_len-le nat_eq (drop at left) (drop at right) in
    omega (arith, length-drop at left, length-drop at right)
