use Rattle.sgb_vec.proofs.Common.{◌∙◌, ap, length, length-map}
use Rattle.sgb_graph.specs.Growth.{new_vertex}
use Rattle.sgb_graph.specs.Vertices.{names_of}
use Rattle.sgb_ops.specs.Lines.{line_events}
use Rattle.sgb_ops.specs.inner.Compounds.{lines_id}
use Rattle.sgb_ops.specs.inner.Lines.{names_of_lines}
use Rattle.sgb_ops.proofs.Results.{made}
use Rattle.sgb_ops.proofs.line_graphs.graph_of_lines.Goals as goal

pub returns : goal.returns
returns c =
    let g = c.args.graph.now in
    let d = c.args.directed in
    let lines = c.args.lines.now in
    made d (line_events d lines) (names_of_lines (names_of g) d lines) c.in_ok-names.names (lines_id g.id d) _ c.in_ok-built.built c.add_line_events.new.built c.set_id.new.self
    c.in_ok-names.ensures.ok c.in_ok-built.ensures.ok c.in_ok-add_line_events.ensures.ok
    (c.lines_id.ensures ∙ ap (λ id. lines_id id d) c.id.ensures) c.set_id.ensures

pub add_line_events-requires-clause-size : goal.add_line_events-requires-clause-size
add_line_events-requires-clause-size c = ap (λ b. length b.vertices) c.in_ok-built.ensures.ok ∙ (length-map c.in_ok-names.names new_vertex ∙ (ap length c.in_ok-names.ensures.ok ∙ length-map c.args.lines.now _))
