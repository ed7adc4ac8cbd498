use Rattle.std.proofs.Common.{◌∙◌, sym, ap, subst, OnOk}
use Rattle.std.specs.Option.{option_map}
use Rattle.sgb_graph.specs.Growth.{AddsEvents}
use Rattle.sgb_ops.specs.Entries.{inner_events}
use Rattle.sgb_ops.specs.Merged.{merged_unless}
use Rattle.sgb_ops.specs.inner.Induced.{wanted}
use Rattle.sgb_ops.specs.inner.Slots.{inner_held}
use Rattle.sgb_ops.proofs.InducedParts.{graph_there, none_inside}
use Rattle.sgb_ops.proofs.induced_graphs.parts.add_inner_events.Goals as goal

pub returns-in-Some-clause-ok : goal.returns-in-Some-clause-ok
returns-in-Some-clause-ok c =
    let flags = c.args.flags in
    let there = graph_there c.args.entry.now (inner_held c.in-Some.inner.now) (sym c.graph.ensures ∙ ap (option_map (λ g. inner_held g.now)) c.in-Some.is) in
    subst
    (λ e. OnOk c.add_inner.result (AddsEvents flags.directed c.args.built.now c.add_inner.new.built (merged_unless flags.multi flags.directed (wanted flags.self_loops (inner_events flags.directed c.args.start e)))))
    (sym there) c.add_inner.ensures.ok

pub returns-in-None-clause-ok : goal.returns-in-None-clause-ok
returns-in-None-clause-ok c =
    let flags = c.args.flags in
    none_inside flags.self_loops flags.multi flags.directed c.args.start c.args.entry.now c.args.built.now (sym c.graph.ensures ∙ ap (option_map (λ g. inner_held g.now)) c.in-None.is)
