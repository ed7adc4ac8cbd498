use Rattle.std.proofs.Common.{◌≡◌, true, sym, ◌∙◌, ap, arith}
use Rattle.sgb_graph.specs.Graphs.{GraphData}
use Rattle.sgb_graph.specs.inner.Walks.{chains_end}
use Rattle.sgb_graph.proofs.BackwardWays.{back_is_sound}
use Rattle.sgb_graph.proofs.CheckedParts.{lists_end}
use Rattle.sgb_graph.proofs.parts.kept.KeptParts.are_sound.Goals as goal

pub returns-then-lead_back : goal.returns-then-lead_back
returns-then-lead_back c = grind (arith, back_is_sound)

pub lists_lead_to_vertices-requires-clause-ends : goal.lists_lead_to_vertices-requires-clause-ends
lists_lead_to_vertices-requires-clause-ends c =
    let nodes = ap (λ (g : GraphData). g.vertices) c.self.view_is in
    let arcs = ap (λ (g : GraphData). g.records) c.self.view_is in
    let ends : chains_end c.args.self.now.records ≡ true = rw arcs at (sym c.in_ok-chains_end.ensures ∙ c.if-not-branch.false) in
    rw (nodes, arcs) (lists_end c.args.self.now c.requires.fit ends)
