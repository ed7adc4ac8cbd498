use Rattle.std.proofs.Common.{◌∙◌, sym}
use Rattle.sgb_c.specs.inner.Operations.{of_graphs}
use Rattle.sgb_c.proofs.MadeGraphs.{two_made}
use Rattle.sgb_c.proofs.handles.GraphHandle.make_of_two.Goals as goal

pub returns-in-Some-lend-clause-made : goal.returns-in-Some-lend-clause-made
returns-in-Some-lend-clause-made c =
    let one = sym (rw c.in-Some.is at c.lend.ensures.value) in
    let other = sym (rw c.in-Some-lend.is at c.lend-2.ensures.value) in
    two_made (of_graphs c.args.operation) c.args.first.now.held.value c.args.second.now.held.value c.args.self.now.held.value c.put_made.result (sym c.is_open.ensures ∙ c.if-is_open.false) c.in-Some.one.now c.in-Some-lend.other.now one other c.graph_of_two-made.result c.put_made.new.self.held.value c.graph_of_two-made.ensures.answer c.put_made.ensures
