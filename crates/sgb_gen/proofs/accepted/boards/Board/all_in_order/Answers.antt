use Rattle.std.proofs.Common.{◌≡◌, ◌∙◌, All, length, ap, subst, arith}
use Rattle.std.proofs.lemmas.Bool.{OnTrue_at}
use Rattle.std.proofs.lemmas.List.{take_all}
use Rattle.std.proofs.lemmas.List.Elements.{All-nil}
use Rattle.sgb_gen.specs.inner.StraightLists.{NeedsNoSort}
use Rattle.sgb_gen.proofs.GivenArcs.{taken_more}
use Rattle.sgb_gen.proofs.RunsOfLists.{at_has}
use Rattle.sgb_gen.proofs.accepted.boards.Board.all_in_order.Goals as goal

pub loop-k-init : goal.loop-k-init
loop-k-init c = All-nil (NeedsNoSort c.args.self.now)

pub needs_no_sort-requires-clause-dimensions : goal.needs_no_sort-requires-clause-dimensions
needs_no_sort-requires-clause-dimensions c =
    ap length c.ahead.ensures ∙ at_has (λ t. length t ≡ length c.args.self.now.sizes) c.args.table.now c.loop-k.k c.at-pair.result.now c.requires c.at-pair.ensures

pub loop-k-preserved : goal.loop-k-preserved
loop-k-preserved c =
    let b = c.args.self.now in
    taken_more (NeedsNoSort b) c.args.table.now c.loop-k.k c.at-pair.result.now c.at-pair.ensures c.loop-k.invariant
    (subst (NeedsNoSort b) c.ahead.ensures (OnTrue_at c.if-not-needs_no_sort.false c.needs_no_sort.ensures))

pub returns : goal.returns
returns c = subst (All (NeedsNoSort c.args.self.now)) (take_all c.loop-k.k c.args.table.now (omega (arith, c.len-k-end.ensures))) c.loop-k.invariant
