use Rattle.std.proofs.Common.{◌≡◌, ◌∙◌, ℤ, pos, w64, to_z, of_z, get_or, ap, subst, rules}
use Rattle.std.proofs.lemmas.Int.{to_z-of_z}
use Rattle.sgb_graph.specs.Growth.{with_event}
use Rattle.sgb_graph.specs.Sound.{arc_kinds}
use Rattle.sgb_arrays.proofs.GivenLists.{event_more}
use Rattle.sgb_arrays.proofs.given.add_events_given.Goals as goal

pub loop-k-preserved : goal.loop-k-preserved
loop-k-preserved c =
    let so_far = c.loop-k.invariant in
    let kept = c.in_ok-add_event.ensures.ok.rest in
    let k = c.loop-k.k in
    let far : ℤ = get_or c.args.lengths.now k (pos 0) in
    let same : to_z w64 (of_z w64 far) ≡ far = to_z-of_z w64 far (search rules) in
    let one = subst (λ (x : ℤ). c.add_event.new.self ≡ with_event c.args.directed c.loop-k.graph (record { from = get_or c.args.from.now k 0; to = get_or c.args.to.now k 0; len = x })) same c.in_ok-add_event.ensures.one in
    record {
      added = event_more c.args.directed c.args.graph.now c.loop-k.graph c.add_event.new.self c.args.from.now c.args.to.now c.args.lengths.now c.loop-k.k so_far.added one;
      size = kept.size ∙ so_far.size;
      plain = ap arc_kinds kept.kinds ∙ so_far.plain;
    }
