use Rattle.sgb_vec.proofs.Common.{rules, ◌≡◌, ◌<◌, ◌+◌, ◌∷◌, drop, get_or, arith, true, ap, drop_all, drop_more}
use Rattle.sgb_graph.specs.Growth.{AddsEvents}
use Rattle.sgb_graph.specs.Graphs.{GraphData}
use Rattle.sgb_graph.proofs.AddedEvents.{AddsUpTo, up_to-all, up_to-more, up_to-none}
use Rattle.sgb_ops.specs.Lines.{line_events}
use Rattle.sgb_ops.specs.inner.Lines.{no_line}
use Rattle.sgb_ops.proofs.LineEvents.{events_from}
use Rattle.sgb_ops.proofs.LineRuns.{ends_read, few_from, run_events}
use Rattle.sgb_ops.proofs.line_graphs.arcs.add_arcs.Goals as goal

pub add_arcs_to-requires-clause-others : goal.add_arcs_to-requires-clause-others
add_arcs_to-requires-clause-others c =
    let lines = c.args.lines.now in
    let line = get_or lines c.loop-i.i no_line in
    let below : line.to < c.args.n = (c.requires.within c.loop-i.i no_line c.loop-i-test.true).1 in
    let end = ends_read c.args.n line.to lines c.in_ok-ends.ends.items c.index-in-loop-i.result.now (omega (arith, below)) c.in_ok-ends.ensures.size c.in_ok-ends.ensures.ends c.index-in-loop-i.ensures in
    omega (arith, end, few_from line.to lines, c.loop-i.invariant.added.rest.size, c.requires.size)

pub loop-i-init : goal.loop-i-init
loop-i-init c = search (rules, line_events, GraphData, AddsUpTo, up_to-none)

pub loop-i-preserved : goal.loop-i-preserved
loop-i-preserved c =
    let lines = c.args.lines.now in
    let i = c.loop-i.i in
    let line = get_or lines i no_line in
    let below : line.to < c.args.n = (c.requires.within i no_line c.loop-i-test.true).1 in
    let next : drop i lines ≡ line ∷ drop (i + 1) lines = drop_more lines i no_line (omega arith) in
    let first = ends_read c.args.n (line.to + 1) lines c.in_ok-ends.ends.items c.index.result.now (omega (arith, below)) c.in_ok-ends.ensures.size c.in_ok-ends.ensures.ends c.index.ensures in
    let end = ends_read c.args.n line.to lines c.in_ok-ends.ends.items c.index-in-loop-i.result.now (omega (arith, below)) c.in_ok-ends.ensures.size c.in_ok-ends.ensures.ends c.index-in-loop-i.ensures in
    search (rules, next, first, end, AddsEvents, run_events, up_to-more, events_from, line_events)

pub returns-clause-ok : goal.returns-clause-ok
returns-clause-ok c =
    let lines = c.args.lines.now in
    let i = c.loop-i.i in
    up_to-all true c.args.built.now c.loop-i.built (events_from true lines i (drop i lines)) (line_events true lines) c.loop-i.invariant (ap (events_from true lines i) (drop_all i lines (omega arith)))
