use Rattle.sgb_vec.proofs.Common.{◌≡◌, ◌∙◌, ◌∷◌, ◌+◌, drop, slice_index, ap, arith, drop_more}
use Rattle.sgb_graph.proofs.AddedEvents.{up_to-more}
use Rattle.sgb_ops.specs.inner.Complement.{events_to}
use Rattle.sgb_ops.proofs.CopiedArcs.{first_to}
use Rattle.sgb_ops.proofs.complements.Wanted.add_arcs_to.Goals as goal

pub loop-tip-preserved : goal.loop-tip-preserved
loop-tip-preserved c =
    let s = c.args.self in
    let to = events_to s.copy s.self_loops s.directed c.args.u in
    let tips = c.args.tips.now in
    let i = c.loop-tip.tip-index in
    let t = slice_index tips i in
    let next : drop i tips ≡ t ∷ drop (i + 1) tips = drop_more tips i 0 (omega arith) in
    up_to-more s.directed c.args.built.now c.loop-tip.built c.add_arc.new.built _ (to (drop (i + 1) tips)) (to tips) _ c.loop-tip.invariant (ap to next ∙ first_to s.copy s.self_loops s.directed c.args.u t (drop (i + 1) tips)) c.in_ok-add_arc.ensures.ok
