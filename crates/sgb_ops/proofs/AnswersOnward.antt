-- Answers one after another: what comes of a graph that was made, and what of a refusal.
use Rattle.std.proofs.Common.{◌≡◌, ℤ, Result, Ok, Err, Bool, List, arith}
use Rattle.sgb_vec.specs.Results.{and_then}
use Rattle.sgb_vec.specs.declared.panics.Panic.{Panic}
use Rattle.sgb_graph.specs.Descriptions.{Description, IsAnswerOf, IsGraphOf}
use Rattle.sgb_graph.specs.Graphs.{GraphData}
use Rattle.sgb_graph.specs.Made.{graph_described, no_fields, no_kinds}
use Rattle.sgb_graph.proofs.Described.{described_only}
use Rattle.sgb_ops.specs.declared.induced_graphs.entries.Entry.{Entry}
use Rattle.sgb_ops.specs.Induced.{induced_of}
use Rattle.sgb_graph.specs.Growth.{with_id, with_uu}
use Rattle.sgb_ops.specs.inner.Compounds.{bi_complete_id, wheel_id}
use Rattle.sgb_ops.specs.inner.Boards.{with_parts, with_wheel_id}

-- what is made of a graph that was made
pub onward : (r : Result Description Panic) (g : GraphData) (make : GraphData → Result Description Panic) (result : Result GraphData Panic)
    → IsAnswerOf r (Ok g) → IsAnswerOf (make g) result → IsAnswerOf (and_then r (λ d. make (graph_described d))) result
onward r g make result made answer = grind (arith, described_only)

-- a refusal stays
pub refused_onward : (r : Result Description Panic) (e : Panic) (make : Description → Result Description Panic) → IsAnswerOf r (Err e) → IsAnswerOf (and_then r make) (Err e)
refused_onward r e make is = grind (arith)

-- the graph that was made, changed as its description is
pub changed : (r : Result Description Panic) (g new : GraphData) (change : Description → Description)
    → IsAnswerOf r (Ok g) → ((d : Description) → r ≡ Ok d → IsGraphOf d g → IsGraphOf (change d) new) → IsAnswerOf (and_then r (λ d. Ok (change d))) (Ok new)
changed r g new change made each = grind (arith)

-- an induced graph uses no utility fields
pub record UsesNoFields (d : Description) : Type 0 where
  pub kinds : d.kinds ≡ no_kinds
  pub util : d.util ≡ no_fields

pub induced_uses_none : (g : GraphData) (entries : List Entry) (self multi directed : Bool) (d : Description) → induced_of g entries self multi directed ≡ Ok d → UsesNoFields d
induced_uses_none g entries self multi directed d is = grind (arith)

-- the graph with the id of a complete bipartite graph, and with n1 in its field uu
pub parts_made : (n1 n2 : ℤ) (directed : Bool) (d : Description) (g new : GraphData) → UsesNoFields d → IsGraphOf d g → new ≡ with_id (bi_complete_id n1 n2 directed) (with_uu n1 g) → IsGraphOf (with_parts n1 n2 directed d) new
parts_made n1 n2 directed d g new none h is = grind (arith)

-- the graph with the id of a wheel
pub wheel_made : (n n1 : ℤ) (directed : Bool) (d : Description) (g new : GraphData) → IsGraphOf d g → new ≡ with_id (wheel_id n n1 directed) g → IsGraphOf (with_wheel_id n n1 directed d) new
wheel_made n n1 directed d g new h is = grind (arith)
