use Rattle.std.proofs.Common.{inl, refl, sym, ◌∙◌}
use Rattle.sgb_values.proofs.FirstRefusals.{long_refused, text_refused}
use Rattle.sgb_values.proofs.StdinValues.{stdin_long, stdin_read}
use Rattle.sgb_values.proofs.stdin.stdin_graph.Goals as goal

pub returns-then-not-is_read-clause-value : goal.returns-then-not-is_read-clause-value
returns-then-not-is_read-clause-value c = λ value is. inl (stdin_long c.args.input.now value (sym c.is_read.ensures ∙ c.if-not-is_read.true) is)

pub returns-clause-value : goal.returns-clause-value
returns-clause-value c = λ value is. stdin_read c.args.input.now value c.read_gb.result (sym c.is_read.ensures ∙ c.if-not-is_read.false) c.read_gb.ensures.read is

pub returns-then-not-is_read-clause-refused : goal.returns-then-not-is_read-clause-refused
returns-then-not-is_read-clause-refused c = long_refused c.args.input.now _ (sym c.is_read.ensures ∙ c.if-not-is_read.true) refl

pub returns-clause-refused : goal.returns-clause-refused
returns-clause-refused c = text_refused c.args.input.now c.read_gb.result (sym c.is_read.ensures ∙ c.if-not-is_read.false) c.read_gb.ensures.early
