use Rattle.sgb_vec.proofs.Common.{◌≡◌, ◌+◌, Some, length, sym, ap, ◌∙◌, bytes_decides, slice_get}
use Rattle.sgb_vec.specs.Sums.{BoundedSum, bounded_sums}
use Rattle.sgb_vec.proofs.BoxPredecessors.{refill-long}
use Rattle.sgb_vec.proofs.SumPlaces.{walk-step, walk-other, walk-end}
use Rattle.sgb_vec.proofs.sums.SumFamily.place_by_walk.Goals as goal

pub loop-place-preserved : goal.loop-place-preserved
loop-place-preserved c =
    let members = bounded_sums c.args.self.now.total c.args.self.now.bounds in
    let all : c.self.inside.count ≡ length members = c.self.invariant.0 ∙ ap (λ (s : BoundedSum). length (bounded_sums s.total s.bounds)) c.self.view_is in
    let old = c.as_mut_slice.result.now in
    let new = c.advance-more.new.entries in
    let here : slice_get members c.loop-place.place ≡ Some old = c.loop-place.invariant.0 ∙ ap Some (sym c.as_mut_slice.ensures.value) in
    let next : slice_get members (c.loop-place.place + 1) ≡ Some new = walk-step members c.self.inside.count c.loop-place.place old new c.advance-more.result all c.loop-place-test.true here c.advance-more.ensures.found c.advance-more.ensures.last in (
      rw (refill-long c.loop-place.walked.items new (c.advance-more.auto.entries ∙ ap length c.as_mut_slice.ensures.value)) next,
      λ p there. walk-other members c.loop-place.place p c.loop-place.walked.items c.args.vector.now (c.loop-place.invariant.1 p there) c.loop-place.invariant.0
          (λ same. let differ = c.if-eq.ensures in let equal = (bytes_decides c.as_slice.result.now c.args.vector.now).1 (c.as_slice.ensures.value ∙ same) in absurd (cc (differ, equal))) there,
    )

pub returns : goal.returns
returns c =
    let members = bounded_sums c.args.self.now.total c.args.self.now.bounds in
    let all : c.self.inside.count ≡ length members = c.self.invariant.0 ∙ ap (λ (s : BoundedSum). length (bounded_sums s.total s.bounds)) c.self.view_is in
    walk-end members c.self.inside.count c.loop-place.place c.args.vector.now all c.requires c.loop-place-test.false c.loop-place.invariant.1
