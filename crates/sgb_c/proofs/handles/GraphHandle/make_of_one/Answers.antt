use Rattle.std.proofs.Common.{◌∙◌, sym}
use Rattle.sgb_c.specs.inner.Operations.{of_graph}
use Rattle.sgb_c.proofs.MadeGraphs.{one_made, put_built, put_left}
use Rattle.sgb_c.proofs.handles.GraphHandle.make_of_one.Goals as goal

pub returns-in-Some-clause-made : goal.returns-in-Some-clause-made
returns-in-Some-clause-made c =
    let held = sym (rw c.in-Some.is at c.lend.ensures.value) in
    one_made (of_graph c.args.operation) c.args.graph.now.held.value c.args.self.now.held.value c.put_made.result (sym c.is_open.ensures ∙ c.if-is_open.false) c.in-Some.held.now held c.graph_of_one-made.result c.put_made.new.self.held.value c.graph_of_one-made.ensures c.put_made.ensures

pub returns-in-Some-clause-left : goal.returns-in-Some-clause-left
returns-in-Some-clause-left c = put_left c.graph_of_one-made.result c.args.self.now.held.value c.put_made.new.self.held.value c.put_made.result c.put_made.ensures

pub returns-in-Some-clause-built : goal.returns-in-Some-clause-built
returns-in-Some-clause-built c = put_built c.graph_of_one-made.result c.args.self.now.held.value c.put_made.new.self.held.value c.put_made.result c.put_made.ensures
