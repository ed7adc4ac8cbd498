use Rattle.std.proofs.lemmas.Result.{on_ok_weaker}
use Rattle.sgb_graph.proofs.AddedEvents.{adds-then}
use Rattle.sgb_ops.specs.Product.{single_steps, both_steps}
use Rattle.sgb_ops.proofs.products.ProductType.add_steps.Goals as goal

pub returns-in_ok-add_single_steps-in-Strong-clause-ok : goal.returns-in_ok-add_single_steps-in-Strong-clause-ok
returns-in_ok-add_single_steps-in-Strong-clause-ok c =
    let g = c.args.first.now in
    let h = c.args.second.now in
    let d = c.args.directed in
    rw c.in-Strong.is
    (on_ok_weaker c.add_both_steps-in-Strong.result
    (adds-then d c.args.built.now c.add_single_steps-in-Strong.new.built c.add_both_steps-in-Strong.new.built (single_steps g h d) (both_steps g h d) c.in_ok-add_single_steps-in-Strong.ensures.ok)
    c.add_both_steps-in-Strong.ensures.ok)
