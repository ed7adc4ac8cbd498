use Rattle.std.proofs.Common.{◌∙◌, sym}
use Rattle.sgb_c.specs.inner.Operations.{of_graphs}
use Rattle.sgb_c.proofs.MadeGraphs.{put_built, put_left, two_made, two_refused}
use Rattle.sgb_c.proofs.handles.GraphHandle.make_of_itself.Goals as goal

pub returns-in-Some-clause-made : goal.returns-in-Some-clause-made
returns-in-Some-clause-made c =
    let held = sym (rw c.in-Some.is at c.lend.ensures.value) in
    let h = c.in-Some.held.now in
    two_made (of_graphs c.args.operation) c.args.graph.now.held.value c.args.graph.now.held.value c.args.self.now.held.value c.put_made.result (sym c.is_open.ensures ∙ c.if-is_open.false) h h held held c.graph_of_two-made.result c.put_made.new.self.held.value c.graph_of_two-made.ensures.answer c.put_made.ensures

pub returns-in-Some-clause-refused : goal.returns-in-Some-clause-refused
returns-in-Some-clause-refused c = λ p empty value.
    let held = sym (rw c.in-Some.is at c.lend.ensures.value) in
    let h = c.in-Some.held.now in
    let operand = c.args.graph.now.held.value in
    two_refused (of_graphs c.args.operation) operand operand h h held held c.graph_of_two-made.result c.graph_of_two-made.ensures.refused c.args.self.now.held.value c.put_made.new.self.held.value c.put_made.result c.put_made.ensures p value

pub returns-in-Some-clause-left : goal.returns-in-Some-clause-left
returns-in-Some-clause-left c = put_left c.graph_of_two-made.result c.args.self.now.held.value c.put_made.new.self.held.value c.put_made.result c.put_made.ensures

pub returns-in-Some-clause-built : goal.returns-in-Some-clause-built
returns-in-Some-clause-built c = put_built c.graph_of_two-made.result c.args.self.now.held.value c.put_made.new.self.held.value c.put_made.result c.put_made.ensures
