use Rattle.sgb_vec.proofs.Common.{◌<◌, ◌^◌, arith, All, All-from_get_or, common_steps}
use Rattle.sgb_vec.proofs.VectorNames.{IsText-name_of_vector, name_of_none, name_of_vector-first, name_of_vector-more}
use Rattle.sgb_vec.proofs.texts.put_name.Goals as goal

pub loop-place-init : goal.loop-place-init
loop-place-init c = grind (arith, common_steps, name_of_none)

pub loop-place-preserved : goal.loop-place-preserved
loop-place-preserved c = grind (arith, common_steps, name_of_vector-more, name_of_vector-first)

pub returns-clause-text : goal.returns-clause-text
returns-clause-text c =
    let v = c.args.vector.now in
    let fits : All (λ n. n < 2 ^ 32) v = All-from_get_or (λ n. n < 2 ^ 32) v 0 (λ i _. omega (arith, c.type_inv.vector i)) in
    let name = IsText-name_of_vector v c.requires fits in
    grind (arith, common_steps)
