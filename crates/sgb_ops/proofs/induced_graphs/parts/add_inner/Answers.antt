use Rattle.sgb_ops.proofs.induced_graphs.parts.add_inner.Goals as goal

pub returns-in-Built-clause-ok : goal.returns-in-Built-clause-ok
returns-in-Built-clause-ok c = rw c.in-Built.is c.add_graph.ensures.ok

pub returns-in-Circle-clause-ok : goal.returns-in-Circle-clause-ok
returns-in-Circle-clause-ok c = rw c.in-Circle.is c.add_circle.ensures.ok
