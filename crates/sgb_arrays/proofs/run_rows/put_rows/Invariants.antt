use Rattle.std.proofs.Common.{◌≡◌, ◌+◌, map, drop}
use Rattle.sgb_graph.specs.Graphs.{chain_of}
use Rattle.sgb_graph.specs.Made.{graph_described}
use Rattle.sgb_gen.specs.VectorGraphs.{described_by}
use Rattle.sgb_arrays.specs.Runs.{parts_of, part_starts}
use Rattle.sgb_arrays.proofs.run_rows.put_rows.Given as goal

-- the lists of the first vertices are put, and the vectors of the others are left
abbrev pub invariant-loop-k : goal.invariant-loop-k
invariant-loop-k g l =
    let listed = g.L.Listed.graph l.initial.listed in
    let graph = graph_described (described_by listed) in
    record {
      starts : l.rows.starts.items ≡ part_starts (chain_of graph) l.first l.k;
      tips : l.rows.tips.items ≡ map (λ r. r.tip) (parts_of (chain_of graph) l.first l.k);
      lengths : l.rows.lengths.items ≡ map (λ r. r.len) (parts_of (chain_of graph) l.first l.k);
      left : l.left ≡ drop (l.first + l.k) listed.vectors;
      same : g.L.Listed.graph l.listed ≡ listed;
    }
