use Rattle.std.proofs.Common.{false, sym, subst, OnOk}
use Rattle.sgb_graph.specs.Growth.{AddsEvents}
use Rattle.sgb_ops.proofs.induced_graphs.parts.add_circle.Goals as goal

pub returns-clause-ok : goal.returns-clause-ok
returns-clause-ok c =
    let flags = c.args.flags in
    let left = c.add_edges.ensures.left flags.self_loops flags.multi in
    rw c.if-flags.false
    (subst (λ es. OnOk c.add_edges.result (AddsEvents false c.args.built.now c.add_edges.new.built es)) (sym left) c.add_edges.ensures.ok)

pub returns-then-flags-clause-ok : goal.returns-then-flags-clause-ok
returns-then-flags-clause-ok c = rw c.in_ok-graph.ensures.ok at c.add_graph.ensures.ok

pub add_graph-requires-clause-few : goal.add_graph-requires-clause-few
add_graph-requires-clause-few c = rw c.in_ok-graph.ensures.ok c.requires.few

pub add_graph-requires-clause-kept : goal.add_graph-requires-clause-kept
add_graph-requires-clause-kept c = rw c.in_ok-graph.ensures.ok c.requires.kept
