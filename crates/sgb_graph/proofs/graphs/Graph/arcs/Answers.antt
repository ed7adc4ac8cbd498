use Rattle.std.proofs.Common.{rules, sym}
use Rattle.sgb_graph.specs.inner.Kept.{kept_graph}
use Rattle.sgb_graph.proofs.Chains.{length-links}
use Rattle.sgb_graph.proofs.Tips.{tips_below}
use Rattle.sgb_graph.proofs.Growing.{lists_end, parts_of}
use Rattle.sgb_graph.proofs.AddingArcs.{chain_of_vertex}
use Rattle.sgb_graph.proofs.graphs.Graph.arcs.Goals as goal

pub invariant_of-result : goal.invariant_of-result
invariant_of-result c =
    let kept = kept_graph c.self.inside.id c.self.inside.m c.self.inside.util c.self.inside.vertices c.self.inside.records in
    rw c.first.ensures.value
    (chain_of_vertex kept c.args.v (lists_end kept (parts_of kept c.self.invariant.graph)) (rw (← c.self.view_is) at c.requires)).ends

pub returns-clause-chain : goal.returns-clause-chain
returns-clause-chain c =
    let kept = kept_graph c.self.inside.id c.self.inside.m c.self.inside.util c.self.inside.vertices c.self.inside.records in
    rw (c.first.ensures.value, ← c.self.view_is)
    (sym (chain_of_vertex kept c.args.v (lists_end kept (parts_of kept c.self.invariant.graph)) (rw (← c.self.view_is) at c.requires)).chain)

pub returns-clause-short : goal.returns-clause-short
returns-clause-short c = search (rules, length-links)

pub returns-clause-tips : goal.returns-clause-tips
returns-clause-tips c = search (rules, kept_graph, tips_below, parts_of)
