use Rattle.std.proofs.Common.{◌≡◌, ◌-◌, ◌+◌, ◌<◌, ◌^◌, Contains, [], length, get_or, refl, sym, subst, arith}
use Rattle.std.proofs.lemmas.Option.{get_or_from_slice_get}
use Rattle.sgb_vec.specs.Sums.{bounded_sums}
use Rattle.sgb_vec.proofs.SumMembers.{IsWithin-length, bounded_sums-rise}
use Rattle.sgb_vec.proofs.SumPlaces.{IsPlaceSoFar, place-all, place-below, place-none}
use Rattle.sgb_gen.specs.VectorGraphs.{vertex_among}
use Rattle.sgb_gen.proofs.KeptCounts.{counts-rise, member_is_within, place-step, row_after, row-long}
use Rattle.sgb_gen.proofs.RisingVectors.{vertex_in_rising}
use Rattle.sgb_gen.proofs.counted_places.CountedPlaces.place_if_there.Goals as goal

pub loop-k-init : goal.loop-k-init
loop-k-init c =
    let sum = c.self.inside.family.now in
    record {
      small = omega (arith, c.total-left.ensures.total);
      place = λ member.
          let means = member_is_within sum.total sum.bounds c.args.x.now (bounded_sums sum.total sum.bounds) refl member in
          subst (λ left. IsPlaceSoFar sum.total sum.bounds c.args.x.now 0 left 0) (sym c.total-left.ensures.total) (place-none sum.total sum.bounds c.args.x.now means.1);
    }

pub leaving_more-before-requires-clause-sum : goal.leaving_more-before-requires-clause-sum
leaving_more-before-requires-clause-sum c =
    let sum = c.self.inside.family.now in
    let at = get_or_from_slice_get c.self.inside.rows.items (length c.args.x.now - 1 - c.loop-k.k) _ [] c.row_at.ensures in
    let long = row-long sum.total (length c.args.x.now - 1 - c.loop-k.k) c.self.inside.rows.items c.row_at.result.now sum.bounds c.self.invariant.1 (omega arith) at in
    omega (arith, long, c.loop-k.invariant.small)

pub loop-k-preserved : goal.loop-k-preserved
loop-k-preserved c =
    let sum = c.self.inside.family.now in
    let x = c.args.x.now in
    let k = c.loop-k.k in
    let entry = get_or x k 0 in
    let rest = c.saturating_sub-rest.result in
    record {
      small = omega (arith, c.loop-k.invariant.small, c.saturating_sub-rest.ensures);
      place = λ member.
          let means = member_is_within sum.total sum.bounds x (bounded_sums sum.total sum.bounds) refl member in
          let long = IsWithin-length sum.bounds x means.0 in
          let at = get_or_from_slice_get c.self.inside.rows.items (length x - 1 - k) _ [] c.row_at.ensures in
          let has = row_after sum.total k c.self.inside.rows.items c.row_at.result.now sum.bounds x c.self.invariant.1 c.self.invariant.0 long (omega arith) at in
          let next = place-step sum.total sum.bounds x c.row_at.result.now k c.loop-k.left rest c.loop-k.place c.leaving_more-before.result entry (omega arith) means.0 refl c.saturating_sub-rest.ensures has (c.leaving_more-before.ensures (counts-rise sum.total c.loop-k.left rest c.row_at.result.now _ has c.loop-k.invariant.small (omega (arith, c.saturating_sub-rest.ensures)))) (c.loop-k.invariant.place member) in
          let few : c.loop-k.place + c.leaving_more-before.result < 2 ^ 32 = omega (arith, place-below _ _ _ _ _ _ means.0 next, c.self.invariant.2) in
          subst (λ p. IsPlaceSoFar sum.total sum.bounds x (k + 1) rest p) (omega (arith, few)) next;
    }

pub returns : goal.returns
returns c member =
    let sum = c.self.inside.family.now in
    let x = c.args.x.now in
    let inside = subst (λ vectors. Contains vectors x) (sym c.self.view_is) member in
    let means = member_is_within sum.total sum.bounds x (bounded_sums sum.total sum.bounds) refl inside in
    let there = place-all sum.total sum.bounds x c.loop-k.k c.loop-k.left c.loop-k.place (omega arith) means.0 (c.loop-k.invariant.place inside) in
    sym (subst (λ vectors. vertex_among vectors x ≡ c.loop-k.place) c.self.view_is (vertex_in_rising _ c.loop-k.place x (bounded_sums-rise sum.total sum.bounds) there))

-- a member has an entry for each bound, and there are rows for all of them
pub returns-then-x-len : goal.returns-then-x-len
returns-then-x-len c member =
    let sum = c.self.inside.family.now in
    let inside = subst (λ vectors. Contains vectors c.args.x.now) (sym c.self.view_is) member in
    let means = member_is_within sum.total sum.bounds c.args.x.now (bounded_sums sum.total sum.bounds) refl inside in
    let long = IsWithin-length sum.bounds c.args.x.now means.0 in
    absurd (omega (arith, long, c.self.invariant.0, c.if-x-len.true, c.len.ensures))
