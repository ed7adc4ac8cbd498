use Rattle.std.proofs.Common.{◌∙◌, length, neg_ℤ, ap}
use Rattle.std.proofs.lemmas.Bool.{OnTrue_at, OnTrue_from}
use Rattle.std.proofs.lemmas.List.{length-map}
use Rattle.sgb_gen.specs.inner.StraightLists.{IsInOrder}
use Rattle.sgb_gen.proofs.GivenArcs.{kept_in_order}
use Rattle.sgb_gen.proofs.accepted.boards.Board.give_both.Goals as goal

pub lengths_back-behind-requires-clause-dimensions : goal.lengths_back-behind-requires-clause-dimensions
lengths_back-behind-requires-clause-dimensions g c = ap length c.requires.back ∙ length-map c.args.t.now neg_ℤ ∙ c.requires.dimensions

pub has_order-requires-clause-known : goal.has_order-requires-clause-known
has_order-requires-clause-known g c =
    let b = c.args.self.now in
    let t = c.args.t.now in
    (OnTrue_from c.args.in_order (IsInOrder b t c.lengths_back-behind.result)
    (λ yes. kept_in_order b c.args.x.now t c.lengths_back-behind.result c.requires.below (OnTrue_at yes c.requires.sorted) (rw c.requires.back at c.lengths_back-behind.ensures)))
