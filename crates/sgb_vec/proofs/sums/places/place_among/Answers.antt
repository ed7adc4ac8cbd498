use Rattle.sgb_vec.proofs.Common.{◌<◌, length, arith, take_rest}
use Rattle.sgb_vec.proofs.SumMembers.{Contains-bounded_sums, IsWithin-length}
use Rattle.sgb_vec.proofs.SumPlaces.{place-none, place-more, place-below, place-all}
use Rattle.sgb_vec.proofs.sums.places.place_among.Goals as goal

pub loop-k-init : goal.loop-k-init
loop-k-init c =
    place-none c.args.total c.args.bounds.now c.args.vector.now ((Contains-bounded_sums c.args.total c.args.bounds.now c.args.vector.now).0 c.requires.member).1

pub overflow_add-place : goal.overflow_add-place
overflow_add-place c =
    let means = (Contains-bounded_sums c.args.total c.args.bounds.now c.args.vector.now).0 c.requires.member in
    let here : c.loop-k.k < length c.args.vector.now = omega (arith, IsWithin-length c.args.bounds.now c.args.vector.now means.0) in
    let count = rw take_rest at c.in_ok-place.ensures in
    let next = place-more c.args.total c.args.bounds.now c.args.vector.now c.loop-k.k c.loop-k.left c.loop-k.place c.in_ok-place.field-0 here means.0 count c.loop-k.invariant in
    omega (arith, place-below _ _ _ _ _ _ means.0 next, c.requires.count)

pub loop-k-preserved : goal.loop-k-preserved
loop-k-preserved c =
    let means = (Contains-bounded_sums c.args.total c.args.bounds.now c.args.vector.now).0 c.requires.member in
    let here : c.loop-k.k < length c.args.vector.now = omega (arith, IsWithin-length c.args.bounds.now c.args.vector.now means.0) in
    let count = rw take_rest at c.in_ok-place.ensures in
    place-more c.args.total c.args.bounds.now c.args.vector.now c.loop-k.k c.loop-k.left c.loop-k.place c.in_ok-place.field-0 here means.0 count c.loop-k.invariant

pub returns : goal.returns
returns c =
    let means = (Contains-bounded_sums c.args.total c.args.bounds.now c.args.vector.now).0 c.requires.member in
    place-all c.args.total c.args.bounds.now c.args.vector.now c.loop-k.k c.loop-k.left c.loop-k.place (omega (arith, IsWithin-length c.args.bounds.now c.args.vector.now means.0)) means.0 c.loop-k.invariant

pub bounds-vector-k : goal.bounds-vector-k
bounds-vector-k c =
    let means = (Contains-bounded_sums c.args.total c.args.bounds.now c.args.vector.now).0 c.requires.member in
    omega (arith, IsWithin-length c.args.bounds.now c.args.vector.now means.0, c.loop-k-test.true)

pub bounds-vector-k-in-loop-k : goal.bounds-vector-k-in-loop-k
bounds-vector-k-in-loop-k c =
    let means = (Contains-bounded_sums c.args.total c.args.bounds.now c.args.vector.now).0 c.requires.member in
    omega (arith, IsWithin-length c.args.bounds.now c.args.vector.now means.0, c.loop-k-test.true)
