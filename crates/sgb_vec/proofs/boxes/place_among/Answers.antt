use Rattle.std.proofs.Common.{arith, ◌+◌, subst}
use Rattle.sgb_vec.proofs.BoxPlaces.{IsBelow-length}
use Rattle.sgb_vec.proofs.BoxRanks.{IsRankSoFar, rank-more, rank-next_below, rank-all}
use Rattle.sgb_vec.proofs.boxes.place_among.Goals as goal

-- nothing wraps: each number stays below that of all vectors
pub loop-k-preserved : goal.loop-k-preserved
loop-k-preserved c below =
    let sizes = c.args.sizes.now in
    let v = c.args.vector.now in
    let k = c.loop-k.k in
    let so = c.loop-k.invariant below in
    let within = c.loop-k-test.true in
    subst (IsRankSoFar sizes v (k + 1)) (omega (arith, c.requires, rank-next_below sizes v k c.loop-k.place so below within))
    (rank-more sizes v k c.loop-k.place so (omega (arith, within, IsBelow-length sizes v below)) within)

pub returns : goal.returns
returns c below = rank-all c.args.sizes.now c.args.vector.now c.loop-k.k c.loop-k.place (c.loop-k.invariant below) below (omega arith)
