use Rattle.sgb_vec.proofs.Common.{◌≡◌, ◌+◌, ◌<◌, ◌≤◌, ◌==◌, ℕ, Bool, cond, length, slice_index, sym, ap, subst, refl, ◌∙◌, arith, flat_map, cases_Bool, nat_tests, get_or-replicate}
use Rattle.sgb_graph.proofs.AddedEvents.{up_to-none}
use Rattle.sgb_ops.specs.inner.Complement.{complement_events_from, has_arc}
use Rattle.sgb_ops.proofs.Marks.{mark_le, lent_back}
use Rattle.sgb_ops.proofs.Places.{place_added, places_added}
use Rattle.sgb_ops.proofs.complements.Wanted.add_arcs.Goals as goal

-- a mark tells whether there is an arc
mark_tells : (b : Bool) (u m x : ℕ) → x ≡ cond b (u + 1) m → m ≤ u → (x == u + 1) ≡ b
mark_tells b u m x is earlier = grind (arith, cases_Bool, nat_tests)

pub loop-u-init : goal.loop-u-init
loop-u-init c =
    let items = c.in_ok-marks.ensures.items_if_clones_equal (λ y e. e) in (
      up_to-none c.args.self.directed c.args.built.now _,
      sym c.in_ok-marks.marks.ok.0 ∙ c.in_ok-marks.ensures.len ∙ c.n.ensures.count,
      (λ w h. omega (arith, ap (λ ms. slice_index ms w) items ∙ get_or-replicate c.n.result w 0 0 (omega (arith, h, c.n.ensures.count)))),
    )

pub add_arcs_from-requires-clause-marked : goal.add_arcs_from-requires-clause-marked
add_arcs_from-requires-clause-marked c =
    let g = c.args.graph.now in
    let u = c.loop-u.u in
    let old = c.deref_mut.result.now in
    let same : old ≡ c.loop-u.marks.items = c.deref_mut.ensures.value in
    let size : length c.mark_arcs.new.marks ≡ c.loop-u.marks.len = omega (arith, c.loop-u.marks.ok.0) in
    let back = lent_back c.loop-u.marks.len c.mark_arcs.new.marks _ size in
    λ w h. mark_tells (has_arc g u w) u (slice_index old w) (slice_index c.deref.result.now w) (ap (λ ms. slice_index ms w) (c.deref.ensures.value ∙ back) ∙ c.in_ok-mark_arcs.ensures.ok w h)
    (subst (λ ms. slice_index ms w ≤ u) (sym same) (c.loop-u.invariant.2 w h))

pub loop-u-preserved : goal.loop-u-preserved
loop-u-preserved c =
    let wanted = c.args.self in
    let g = c.args.graph.now in
    let u = c.loop-u.u in
    let old = c.deref_mut.result.now in
    let same : old ≡ c.loop-u.marks.items = c.deref_mut.ensures.value in
    let new = c.mark_arcs.new.marks in
    let size : length new ≡ c.loop-u.marks.len = omega (arith, c.loop-u.marks.ok.0) in
    let back = lent_back c.loop-u.marks.len new _ size in
    let bound : (w : ℕ) → w < length g.vertices → slice_index new w ≤ u + 1 =
    λ w h. subst (λ m. m ≤ u + 1) (sym (c.in_ok-mark_arcs.ensures.ok w h)) (mark_le (has_arc g u w) u (slice_index old w) (subst (λ ms. slice_index ms w ≤ u) (sym same) (c.loop-u.invariant.2 w h))) in (
      place_added wanted.directed c.args.built.now c.loop-u.built (flat_map (complement_events_from g wanted.copy wanted.self_loops wanted.directed)) (length g.vertices) u c.add_arcs_from.new.built _ (omega arith) c.loop-u.invariant.0 c.in_ok-add_arcs_from.ensures.ok refl,
      ap length back ∙ size ∙ c.loop-u.marks.ok.0 ∙ c.loop-u.invariant.1,
      (λ w h. subst (λ ms. slice_index ms w ≤ u + 1) (sym back) (bound w h)),
    )

pub returns-clause-ok : goal.returns-clause-ok
returns-clause-ok c =
    let wanted = c.args.self in
    let g = c.args.graph.now in
    places_added wanted.directed c.args.built.now c.loop-u.built (flat_map (complement_events_from g wanted.copy wanted.self_loops wanted.directed)) (length g.vertices) c.loop-u.u (omega arith) c.loop-u.invariant.0 refl
