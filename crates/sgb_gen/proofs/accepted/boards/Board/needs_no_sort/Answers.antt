use Rattle.std.proofs.Common.{◌≤◌, length, pos, get_or, subst}
use Rattle.std.proofs.lemmas.Bool.{OnTrue_at, OnTrue_from}
use Rattle.sgb_moves.specs.MovedCoordinates.{parts_of}
use Rattle.sgb_gen.specs.inner.StraightLists.{NeedsNoSort, arcs_from}
use Rattle.sgb_gen.proofs.GivenArcs.{around_fewer}
use Rattle.sgb_gen.proofs.accepted.boards.Board.needs_no_sort.Goals as goal

pub returns : goal.returns
returns c =
    let b = c.args.self.now in
    let t = c.args.t.now in
    let most = c.most_lengths.result in
    OnTrue_from c.is_in_order.result (NeedsNoSort b t)
    (λ yes edges around.
    let once = OnTrue_at yes c.is_in_order.ensures.order edges around in
    (once.0, λ x below. around_fewer b.sizes (get_or (parts_of t) 0 (0, pos 0)) most _ (subst (λ u. length (arcs_from b x u) ≤ most) c.requires.back (c.most_lengths.ensures x below)) once.1))
