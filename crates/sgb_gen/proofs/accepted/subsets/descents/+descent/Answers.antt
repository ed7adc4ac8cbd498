use Rattle.std.proofs.Common.{◌≡◌, ◌+◌, ◌-◌, ◌≤◌, ℕ, List, [], ◌∷◌, ◌++◌, length, drop, take, get_or, min, reverse, set, refl, sym, ap, ap₂, ◌∙◌, arith}
use Rattle.std.proofs.lemmas.List.{drop_more, length-drop, length-set, take_rest}
use Rattle.std.proofs.lemmas.Result.{on_ok_weaker}
use Rattle.sgb_vec.specs.Sums.{bounded_sums}
use Rattle.sgb_vec.proofs.SumMembers.{IsWithin-length}
use Rattle.sgb_gen.specs.inner.Descents.{arcs_under, front_of, row, rows}
use Rattle.sgb_gen.proofs.ArcsInTurn.{exit_part, given_as, given_last, so_far_all, so_far_begun, so_far_more, took_none}
use Rattle.sgb_gen.proofs.DescentArcs.{rows-under}
use Rattle.sgb_gen.proofs.DescentSteps.{entry-unwanted, front-kept, front-shorter, least-placed, rows-placed}
use Rattle.sgb_gen.proofs.LastEntries.{none-left}
use Rattle.sgb_gen.proofs.SubsetsCounts.{begun-on}
use Rattle.sgb_gen.proofs.accepted.subsets.descents.+descent.Goals as goal

pub push_all-loop-state-init : goal.push_all-loop-state-init
push_all-loop-state-init g t c = (
  omega arith,
  omega (arith, IsWithin-length c.args.bounds.now c.args.x.now c.requires.begun.within),
  refl,
  c.requires.begun,
  refl,
  so_far_begun (g.met.K.ArcSink.laws c.args.sink.now) _ _ _ _ refl,
  c.requires.ready,
)

pub push_all-returns-then-i-x-clause-given : goal.push_all-returns-then-i-x-clause-given
push_all-returns-then-i-x-clause-given g t c =
    so_far_all (g.met.K.ArcSink.laws c.args.sink.now) _ _ _ _ _ _ (grind (arith, none-left)) c.loop-state.invariant.5

pub push_all-returns-then-entries-eq0-clause-given : goal.push_all-returns-then-entries-eq0-clause-given
push_all-returns-then-entries-eq0-clause-given g t c =
    let s = c.loop-state.state in
    let x = c.args.x.now in
    let bounds = c.args.bounds.now in
    let i = c.loop-state.i in
    let tip = c.loop-state.tip in
    let entries = c.wanted_entries-entries.result in
    let h = get_or x i 0 in
    let b = get_or bounds i 0 in
    let xs = drop (i + 1) x in
    let bs = drop (i + 1) bounds in
    let here : i + 1 ≤ length x = omega (arith, c.loop-state.invariant.0, c.if-i-x.false) in
    let x_is : drop i x ≡ h ∷ xs = drop_more x i 0 (omega (arith, here)) in
    let bounds_are : drop i bounds ≡ b ∷ bs = drop_more bounds i 0 (omega (arith, here, c.loop-state.invariant.1)) in
    let begun = c.loop-state.invariant.3 in
    so_far_all (g.met.K.ArcSink.laws c.args.sink.now) _ _ _ _ _ _
    (ap₂ (λ v cs. arcs_under s.size_bits (front_of tip v) s.common v (reverse (bounded_sums s.left cs))) x_is bounds_are
    ∙ c.wanted_entries-entries.ensures.same (front_of tip (h ∷ xs)) bs xs (rw (← bounds_are, ← x_is) begun)
    ∙ ap (λ n. arcs_under s.size_bits (front_of tip (h ∷ xs)) s.common (h ∷ xs) (rows s.left bs entries.least n)) {x = entries.count} {y = 0} (omega arith))
    c.loop-state.invariant.5

pub push_all-returns-in_err-push_greater-clause-given : goal.push_all-returns-in_err-push_greater-clause-given
push_all-returns-in_err-push_greater-clause-given g t c =
    let s = c.loop-state.state in
    let x = c.args.x.now in
    let bounds = c.args.bounds.now in
    let i = c.loop-state.i in
    let tip = c.loop-state.tip in
    let entries = c.wanted_entries-entries.result in
    let h = get_or x i 0 in
    let b = get_or bounds i 0 in
    let xs = drop (i + 1) x in
    let bs = drop (i + 1) bounds in
    let here : i + 1 ≤ length x = omega (arith, c.loop-state.invariant.0, c.if-i-x.false) in
    let x_is : drop i x ≡ h ∷ xs = drop_more x i 0 (omega (arith, here)) in
    let bounds_are : drop i bounds ≡ b ∷ bs = drop_more bounds i 0 (omega (arith, here, c.loop-state.invariant.1)) in
    let begun = c.loop-state.invariant.3 in
    let within : entries.least ≤ s.left = omega (arith, c.wanted_entries-entries.ensures.few, c.if-entries-eq0.false) in
    let part : arcs_under s.size_bits (front_of tip (h ∷ xs)) s.common (h ∷ xs) (rows s.left bs (entries.least + 1) (entries.count - 1))
    ≡ arcs_under s.size_bits (front_of tip (h ∷ take (length x - (i + 1)) xs)) s.common (h ∷ take (length x - (i + 1)) xs) (rows s.left (take (length bounds - (i + 1)) bs) (entries.least + 1) (entries.count - 1)) =
    ap₂ (λ v cs. arcs_under s.size_bits (front_of tip (h ∷ v)) s.common (h ∷ v) (rows s.left cs (entries.least + 1) (entries.count - 1))) (sym (take_rest x (i + 1))) (sym (take_rest bounds (i + 1))) in
    let first = λ (new : List ℕ) (long : length new ≡ length tip) (kept : front_of new (h ∷ xs) ≡ front_of tip (h ∷ xs)).
    least-placed s.size_bits s.common s.left b h entries.least entries.count (entries.least + 1) (entries.count - 1)
    (length c.args.tip.now - length x + i) tip new bs xs (drop i bounds) (drop i x)
    bounds_are x_is (omega (arith, length-drop i x)) long (omega (arith, length-drop i x)) refl (omega (arith, c.if-entries-eq0.false)) within
    (λ front. c.wanted_entries-entries.ensures.same front bs xs (rw (← bounds_are, ← x_is) begun))
    kept
    ∙ ap (λ l. l ++ arcs_under s.size_bits (front_of (set new (length c.args.tip.now - length x + i) entries.least) xs) (s.common + min h entries.least) xs (reverse (bounded_sums (s.left - entries.least) bs))) part in
    exit_part (g.met.K.ArcSink.laws c.args.sink.now) _ _ _ _ _ _ _ _ _ _ _ _ c.from_residual.ensures.1 (first tip refl refl) c.loop-state.invariant.5 c.in_err-push_greater.ensures.given

pub push_all-loop-state-preserved : goal.push_all-loop-state-preserved
push_all-loop-state-preserved g t c =
    let s = c.loop-state.state in
    let x = c.args.x.now in
    let bounds = c.args.bounds.now in
    let i = c.loop-state.i in
    let tip = c.loop-state.tip in
    let entries = c.wanted_entries-entries.result in
    let h = get_or x i 0 in
    let b = get_or bounds i 0 in
    let xs = drop (i + 1) x in
    let bs = drop (i + 1) bounds in
    let here : i + 1 ≤ length x = omega (arith, c.loop-state.invariant.0, c.if-i-x.false) in
    let x_is : drop i x ≡ h ∷ xs = drop_more x i 0 (omega (arith, here)) in
    let bounds_are : drop i bounds ≡ b ∷ bs = drop_more bounds i 0 (omega (arith, here, c.loop-state.invariant.1)) in
    let begun = c.loop-state.invariant.3 in
    let within : entries.least ≤ s.left = omega (arith, c.wanted_entries-entries.ensures.few, c.if-entries-eq0.false) in
    let part : arcs_under s.size_bits (front_of tip (h ∷ xs)) s.common (h ∷ xs) (rows s.left bs (entries.least + 1) (entries.count - 1))
    ≡ arcs_under s.size_bits (front_of tip (h ∷ take (length x - (i + 1)) xs)) s.common (h ∷ take (length x - (i + 1)) xs) (rows s.left (take (length bounds - (i + 1)) bs) (entries.least + 1) (entries.count - 1)) =
    ap₂ (λ v cs. arcs_under s.size_bits (front_of tip (h ∷ v)) s.common (h ∷ v) (rows s.left cs (entries.least + 1) (entries.count - 1))) (sym (take_rest x (i + 1))) (sym (take_rest bounds (i + 1))) in
    let first = λ (new : List ℕ) (long : length new ≡ length tip) (kept : front_of new (h ∷ xs) ≡ front_of tip (h ∷ xs)).
    least-placed s.size_bits s.common s.left b h entries.least entries.count (entries.least + 1) (entries.count - 1)
    (length c.args.tip.now - length x + i) tip new bs xs (drop i bounds) (drop i x)
    bounds_are x_is (omega (arith, length-drop i x)) long (omega (arith, length-drop i x)) refl (omega (arith, c.if-entries-eq0.false)) within
    (λ front. c.wanted_entries-entries.ensures.same front bs xs (rw (← bounds_are, ← x_is) begun))
    kept
    ∙ ap (λ l. l ++ arcs_under s.size_bits (front_of (set new (length c.args.tip.now - length x + i) entries.least) xs) (s.common + min h entries.least) xs (reverse (bounded_sums (s.left - entries.least) bs))) part in
    let new = c.push_greater.new.tip in
    let kept : front_of new (h ∷ xs) ≡ front_of tip (h ∷ xs) =
    sym (ap (λ v. front_of new (h ∷ v)) (take_rest x (i + 1))) ∙ c.in_ok-push_greater.ensures.same ∙ ap (λ v. front_of tip (h ∷ v)) (take_rest x (i + 1)) in (
      here,
      c.loop-state.invariant.1,
      ap (λ q. q.size_bits) c.placed-state.ensures ∙ c.loop-state.invariant.2,
      rw c.placed-state.ensures (begun-on s.room s.shared s.left s.common b h entries.least bs xs (drop i bounds) (drop i x) bounds_are x_is within begun),
      front-kept new x (length c.args.tip.now - length x + i) entries.least (omega arith)
          ∙ front-shorter new tip x (h ∷ xs) (omega arith) (omega (arith, length-drop (i + 1) x)) kept
          ∙ c.loop-state.invariant.4,
      rw c.placed-state.ensures (so_far_more (g.met.K.ArcSink.laws c.args.sink.now) _ _ _ _ _ _ _ _ _ _ (first new (omega arith) kept) c.loop-state.invariant.5 c.in_ok-push_greater.ensures.given),
      c.in_ok-push_greater.ensures.ready,
    )

pub push_all-returns-clause-same : goal.push_all-returns-clause-same
push_all-returns-clause-same g t c = grind (arith, take_rest, on_ok_weaker, front-shorter, length-drop)

pub push_all-returns-clause-given : goal.push_all-returns-clause-given
push_all-returns-clause-given g t c =
    let s = c.loop-state.state in
    let i = c.loop-state.i in
    let tip = c.loop-state.tip in
    given_last (g.met.K.ArcSink.laws c.args.sink.now) _ _ _ _ _ _ _ _ _ c.loop-state.invariant.5
    (given_as (g.met.K.ArcSink.laws c.args.sink.now) _ _ _ _ _ _ _ (ap₂ (λ v cs. arcs_under s.size_bits (front_of tip v) s.common v (reverse (bounded_sums s.left cs))) (take_rest c.args.x.now i) (take_rest c.args.bounds.now i)) c.push_last.ensures.given)

pub push_rows-loop-k-init : goal.push_rows-loop-k-init
push_rows-loop-k-init g t c = (refl, so_far_begun (g.met.K.ArcSink.laws c.args.sink.now) _ _ _ _ refl, c.requires.ready)

-- an entry with which no vector is joined is passed over
pub push_rows-loop-k-preserved-then-not-may_be_among : goal.push_rows-loop-k-preserved-then-not-may_be_among
push_rows-loop-k-preserved-then-not-may_be_among g t c =
    let b = c.args.begun in
    let x = c.args.x.now in
    let own = c.args.own ∷ x in
    let bounds = c.args.bounds.now in
    let low = c.args.entries.least in
    let front = front_of c.args.tip.now own in
    let none : arcs_under b.size_bits front b.common own (row b.left bounds (low + (c.loop-k.k - 1))) ≡ [] = grind (arith, entry-unwanted) in (
      c.loop-k.invariant.0,
      so_far_more (g.met.K.ArcSink.laws c.args.sink.now) _ _ _ _ _ _ _ _ _ _
          (rows-under b.size_bits front b.common own b.left bounds low c.loop-k.k (omega arith)) c.loop-k.invariant.1 (took_none (g.met.K.ArcSink.laws c.args.sink.now) _ _ _ none),
      c.loop-k.invariant.2,
    )

pub push_rows-returns-in_err-push_all-clause-given : goal.push_rows-returns-in_err-push_all-clause-given
push_rows-returns-in_err-push_all-clause-given g t c =
    let b = c.args.begun in
    let x = c.args.x.now in
    let whole = rows-placed b.size_bits b.common b.left c.args.own c.args.entries.least c.loop-k.k (length c.args.tip.now - length x - 1) c.args.tip.now c.loop-k.tip c.args.bounds.now x (omega arith) (omega arith) c.requires.place (omega arith) refl c.loop-k.invariant.0 in
    exit_part (g.met.K.ArcSink.laws c.args.sink.now) _ _ _ _ _ _ _ _ _ _ _ _ c.from_residual.ensures.1 whole c.loop-k.invariant.1 (rw c.placed-further.ensures at c.in_err-push_all.ensures.given)

pub push_rows-loop-k-preserved : goal.push_rows-loop-k-preserved
push_rows-loop-k-preserved g t c =
    let b = c.args.begun in
    let x = c.args.x.now in
    let own = c.args.own ∷ x in
    let tip = c.loop-k.tip in
    let place = length c.args.tip.now - length x - 1 in
    let entry = c.args.entries.least + (c.loop-k.k - 1) in
    let long = length-set tip place entry in
    let whole = rows-placed b.size_bits b.common b.left c.args.own c.args.entries.least c.loop-k.k place c.args.tip.now tip c.args.bounds.now x (omega arith) (omega arith) c.requires.place (omega arith) refl c.loop-k.invariant.0 in (
      front-shorter c.push_all.new.tip (set tip place entry) own x (omega arith) (omega arith) c.in_ok-push_all.ensures.same
          ∙ front-kept tip own place entry (omega arith) ∙ c.loop-k.invariant.0,
      so_far_more (g.met.K.ArcSink.laws c.args.sink.now) _ _ _ _ _ _ _ _ _ _ whole c.loop-k.invariant.1 (rw c.placed-further.ensures at c.in_ok-push_all.ensures.given),
      c.in_ok-push_all.ensures.ready,
    )

pub push_rows-returns-clause-given : goal.push_rows-returns-clause-given
push_rows-returns-clause-given g t c =
    let b = c.args.begun in
    let own = c.args.own ∷ c.args.x.now in
    so_far_all (g.met.K.ArcSink.laws c.args.sink.now) _ _ _ _ _ _ (ap (λ n. arcs_under b.size_bits (front_of c.args.tip.now own) b.common own (rows b.left c.args.bounds.now c.args.entries.least n)) {x = c.loop-k.k} {y = 0} (omega arith)) c.loop-k.invariant.1
