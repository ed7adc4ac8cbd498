use Rattle.std.proofs.Common.{rules, ◌≡◌, ◌∙◌, ◌+◌, ◌-◌, ◌++◌, ap, arith, map}
use Rattle.sgb_ops.specs.inner.Lines.{DescendFrom, LeadsUp, LineWithin, line_of}
use Rattle.sgb_graph.specs.Vertices.{order_of}
use Rattle.sgb_taken.specs.Taken.{taken}
use Rattle.sgb_ops.proofs.LineEvents.{lines_at, lines_below, lines_below-more, lines_within, same_lines}
use Rattle.sgb_ops.proofs.LineLists.{lines_descend, lines_lead_up}
use Rattle.sgb_ops.proofs.PlainLists.{part_more, parts_all}
use Rattle.sgb_ops.proofs.line_graphs.line.lines_of_graph.Goals as goal

pub loop-v-preserved : goal.loop-v-preserved
loop-v-preserved c =
    let g = c.args.graph.now in
    let d = c.args.directed in
    let v = c.loop-v.v - 1 in
    let lines = c.loop-v.lines.items in
    let more : c.loop-v.v ≡ v + 1 = omega arith in
    let left = ap (lines_below g d) more ∙ lines_below-more g d v in
    let read = ap (map (line_of v)) c.deref.ensures.value ∙ same_lines v c.take_arcs.new.arcs.items (taken d g v) c.in_ok-take_arcs.ensures.ok in
    part_more lines c.push_lines.new.lines.items (lines_at g d v) (lines_below g d v) _ _ left c.loop-v.invariant (c.in_ok-push_lines.ensures.ok ∙ ap (λ ls. lines ++ ls) read)

pub returns : goal.returns
returns c = search (rules, parts_all, lines_below, LineWithin, order_of, lines_within, DescendFrom, lines_descend, LeadsUp, lines_lead_up)
