use Rattle.sgb_values.proofs.stdin.read_kept.Goals as goal

pub returns-then-more-clause-refused : goal.returns-then-more-clause-refused
returns-then-more-clause-refused c = rw c.bytes.ensures at c.stdin_graph-graph.ensures.refused

pub returns-clause-refused : goal.returns-clause-refused
returns-clause-refused c = rw c.bytes.ensures at c.stdin_graph-graph.ensures.refused
