use Rattle.sgb_vec.proofs.Common.{rules, ◌<◌, ◌-◌, length, arith, cases_eq}
use Rattle.sgb_vec.proofs.BoxPlaces.{IsBelow-at, IsBelow-length}
use Rattle.sgb_vec.proofs.boxes.last_below_top.Goals as goal

pub overflow_add-entries : goal.overflow_add-entries
overflow_add-entries c =
    let place = c.loop-place.place - 1 in
    let same_length = IsBelow-length c.args.sizes.now c.args.entries.now c.requires.below in
    let within : place < length c.args.entries.now = omega arith in
    omega (arith, IsBelow-at c.args.sizes.now c.args.entries.now place c.requires.below within, c.type_inv.sizes place)

pub returns-then-entries-place-clause-below : goal.returns-then-entries-place-clause-below
returns-then-entries-place-clause-below c = search (rules, IsBelow-length)

pub loop-place-preserved : goal.loop-place-preserved
loop-place-preserved c = search (rules, IsBelow-length, IsBelow-at, cases_eq)
