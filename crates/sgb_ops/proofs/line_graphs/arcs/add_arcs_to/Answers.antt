use Rattle.sgb_vec.proofs.Common.{◌≡◌, ◌+◌, ◌-◌, ℕ, suc, true, ap, arith, range_with_len}
use Rattle.sgb_graph.proofs.AddedEvents.{up_to-more}
use Rattle.sgb_ops.specs.inner.Lines.{events_to_numbers}
use Rattle.sgb_ops.proofs.line_graphs.arcs.add_arcs_to.Goals as goal

pub loop-j-preserved : goal.loop-j-preserved
loop-j-preserved c =
    let i = c.args.i in
    let j = c.loop-j.j in
    let left = c.args.end - (j + 1) in
    let count : c.args.end - j ≡ suc left = omega arith in
    up_to-more true c.args.built.now c.loop-j.built c.add_event.new.self _ (events_to_numbers i (range_with_len (j + 1) left)) _ _ c.loop-j.invariant
    (ap (λ (n : ℕ). events_to_numbers i (range_with_len j n)) count) c.in_ok-add_event.ensures.ok
