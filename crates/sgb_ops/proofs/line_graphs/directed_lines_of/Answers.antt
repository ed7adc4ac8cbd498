use Rattle.std.proofs.Common.{◌∙◌, Ok, ap, sym}
use Rattle.sgb_ops.proofs.line_graphs.directed_lines_of.Goals as goal

pub returns : goal.returns
returns c = rw (c.in_ok-lines.ensures.ok ∙ ap Ok (sym c.deref.ensures.value)) c.graph_of_lines.ensures
