use Rattle.sgb_vec.proofs.Common.{◌≡◌, length, sym, arith, map-range_with_len_more}
use Rattle.sgb_ops.specs.Entries.{first_copy}
use Rattle.sgb_ops.proofs.EntryTotals.{place_fits, total_more}
use Rattle.sgb_ops.proofs.induced_graphs.entries.first_copies.Goals as goal

pub loop-place-preserved : goal.loop-place-preserved
loop-place-preserved c =
    let more = map-range_with_len_more (first_copy c.args.places.now) 0 c.loop-place.place-index c.loop-place.place-index (omega arith) in
    let next = total_more c.args.places.now c.loop-place.place-index c.place-item.result (omega arith) c.place-item.is in
    let now = c.loop-place.invariant in (
      rw (c.in_ok-push.ensures.items, now.0, now.1) (sym more),
      omega (arith, next, now.1, c.size-total.ensures),
    )

pub returns-clause-ok : goal.returns-clause-ok
returns-clause-ok c =
    let entries = c.args.places.now in
    let i = c.loop-place.place-index in
    let all : length entries ≡ i = omega arith in
    rw (c.in_ok-push-2.ensures.items, all, c.loop-place.invariant.0, c.loop-place.invariant.1) (sym (map-range_with_len_more (first_copy entries) 0 i i (omega arith)))

pub overflow_add-total : goal.overflow_add-total
overflow_add-total c =
    let fits = place_fits c.args.places.now c.loop-place.place-index c.place-item.result (omega arith) c.place-item.is in
    omega (arith, fits, c.loop-place.invariant.1, c.size-total.ensures, c.requires.few)
