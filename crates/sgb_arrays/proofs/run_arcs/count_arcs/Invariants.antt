use Rattle.std.proofs.Common.{◌≡◌, ◌+◌, drop, length}
use Rattle.sgb_graph.specs.Graphs.{chain_of}
use Rattle.sgb_graph.specs.Made.{graph_described}
use Rattle.sgb_gen.specs.VectorGraphs.{described_by}
use Rattle.sgb_arrays.specs.Runs.{parts_of}
use Rattle.sgb_arrays.proofs.run_arcs.count_arcs.Given as goal

-- the arcs of the first vertices are counted, and the vectors of the others are left
abbrev pub invariant-loop-k : goal.invariant-loop-k
invariant-loop-k g l =
    let listed = g.L.Listed.graph l.initial.listed in
    record {
      counted : l.arcs ≡ length (parts_of (chain_of (graph_described (described_by listed))) l.first l._k);
      left : l.left ≡ drop (l.first + l._k) listed.vectors;
      same : g.L.Listed.graph l.listed ≡ listed;
    }
