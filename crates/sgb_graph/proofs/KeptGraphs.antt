-- Graphs made of vertices and records that are kept: how one with more arcs or with more numbers is made.
use Rattle.sgb_vec.proofs.Common.{◌≡◌, ◌+◌, ◌++◌, ℕ, ℤ, true, List, [], ◌∷◌, length, min, max, slice_get, Some, refl, arith, to_z-of_z, w64, SFits, of_z, to_z}
use Rattle.sgb_graph.specs.Graphs.{GraphData, ends_of, vertex_of, arc_record}
use Rattle.sgb_graph.specs.inner.Chains.{links_of}
use Rattle.sgb_graph.specs.Growth.{first_arc, link, with_arc, with_edge, with_first}
use Rattle.sgb_graph.specs.inner.Growth.{after_lower}
use Rattle.sgb_graph.specs.inner.Kept.{kept_graph}
use Rattle.sgb_graph.specs.inner.KeptRecords.{KeptRecords}
use Rattle.sgb_graph.specs.inner.KeptVertices.{KeptVertices}
use Rattle.sgb_graph.specs.declared.fields.ArcRec.{ArcRec}
use Rattle.sgb_graph.specs.declared.fields.Util.{Util}
use Rattle.sgb_graph.proofs.Chains.{step_of}

-- one arc more, where vertices and records are known to be those, and its length passes through words of 64 bits
pub arc_made : (g : GraphData) (text : List ℕ) (count : ℕ) (own : List Util) (vertices nodes : KeptVertices) (records arcs : KeptRecords) (u v : ℕ) (far : ℤ) → SFits w64 far
    → kept_graph text count own vertices records ≡ g
    → nodes ≡ record vertices { items = with_first (length records.items) u vertices.items }
    → arcs ≡ record records { items = records.items ++ arc_record v (first_arc vertices.items u) (to_z w64 (of_z w64 far)) ∷ [] }
    → kept_graph text (count + 1) own nodes arcs ≡ with_arc g u v far
arc_made g text count own vertices nodes records arcs u v far fits view are_nodes are_arcs = rw (are_nodes, are_arcs, to_z-of_z w64 far fits, ← view) refl

-- one edge more
pub edge_made : (g : GraphData) (text : List ℕ) (count : ℕ) (own : List Util) (vertices nodes : KeptVertices) (records arcs : KeptRecords) (u v : ℕ) (far : ℤ) → SFits w64 far
    → kept_graph text count own vertices records ≡ g
    → nodes ≡ record vertices { items = with_first (length records.items) (min u v) (with_first (length records.items + 1) (max u v) vertices.items) }
    → arcs ≡ record records { items = records.items ++ arc_record (max u v) (after_lower (length records.items) vertices.items u v) (to_z w64 (of_z w64 far)) ∷ arc_record (min u v) (first_arc vertices.items (max u v)) (to_z w64 (of_z w64 far)) ∷ [] }
    → kept_graph text (count + 2) own nodes arcs ≡ with_edge g u v far
edge_made g text count own vertices nodes records arcs u v far fits view are_nodes are_arcs = rw (are_nodes, are_arcs, to_z-of_z w64 far fits, ← view) refl

-- a chain that ends, from the record that is read there
pub record IsStepTo (records : List ArcRec) (k : ℕ) (r : ArcRec) : Type 0 where
  pub links : links_of records (Some k) ≡ link k (vertex_of r.tip) r.len ∷ links_of records r.next
  pub ends : ends_of records r.next ≡ true

pub step_to : (records : List ArcRec) (k : ℕ) (r : ArcRec) → ends_of records (Some k) ≡ true → slice_get records k ≡ Some r → IsStepTo records k r
step_to records k r ends is =
    let step = step_of records k ends in
    grind (arith, IsStepTo, step)
