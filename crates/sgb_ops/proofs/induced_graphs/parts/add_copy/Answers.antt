use Rattle.std.proofs.Common.{◌<◌, ◌∙◌, length, sym, subst, flat_map}
use Rattle.sgb_ops.specs.inner.Ends.{AllWithin}
use Rattle.sgb_ops.specs.inner.Induced.{events_of_arc, wanted}
use Rattle.sgb_ops.proofs.InducedParts.{arcs_within}
use Rattle.sgb_ops.proofs.induced_graphs.parts.add_copy.Goals as goal

pub add_part-requires-clause-within : goal.add_part-requires-clause-within
add_part-requires-clause-within c =
    let flags = c.args.flags in
    let copies = c.args.copies.now in
    subst (λ n. AllWithin n c.deref.result.now) (sym c.requires.size)
    (subst (AllWithin _) (sym (c.deref.ensures.value ∙ c.in_ok-put_events_from_copy.ensures.ok))
    (arcs_within copies flags.directed c.requires.numbered flags.self_loops c.args.v c.args.u c.args.arcs.now (subst (λ n. c.args.u < n) c.requires.size c.requires.copy)))
