use Rattle.std.proofs.Common.{◌≡◌, ◌++◌, map, drop}
use Rattle.sgb_gen.specs.VectorGraphs.{vertex_among}
use Rattle.sgb_arrays.proofs.rows.Rows.push_arcs.Given as goal

-- the arcs from this one on are still to be put
abbrev pub invariant-loop-i : goal.invariant-loop-i
invariant-loop-i g l =
    let vectors = (g.L.Listed.graph l.fn.listed).vectors in
    record {
      tips : l.self.tips.items ++ map (λ a. vertex_among vectors a.tip) (drop l.i l.links.arcs) ≡ l.fn.self.tips.items ++ map (λ a. vertex_among vectors a.tip) l.links.arcs;
      lengths : l.self.lengths.items ++ map (λ a. a.len) (drop l.i l.links.arcs) ≡ l.fn.self.lengths.items ++ map (λ a. a.len) l.links.arcs;
      starts : l.self.starts.items ≡ l.fn.self.starts.items;
    }
