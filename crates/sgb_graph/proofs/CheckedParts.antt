-- Parts that were checked: what fits, and the graph that they make up.
use Rattle.sgb_vec.proofs.Common.{◌≡◌, ◌&&◌, ℕ, true, List, [], ◌∷◌, length, refl, ap, arith, Ok, Err, nat_le, list_all, zip, and_parts, cases_Bool}
use Rattle.sgb_vec.specs.Limits.{most_vertices}
use Rattle.sgb_vec.specs.declared.panics.Panic.TheVariants.{Syntax}
use Rattle.sgb_graph.specs.Graphs.{GraphData, ends_of}
use Rattle.sgb_graph.specs.Sound.{IsGraph, util_fits, utils_fit, fields_fit, is_sound}
use Rattle.sgb_graph.specs.inner.Walks.{chains_end}
use Rattle.sgb_graph.specs.Parts.{checked}
use Rattle.sgb_graph.specs.declared.fields.Kind.{Kind}
use Rattle.sgb_graph.specs.declared.fields.Util.{Util}
use Rattle.sgb_graph.proofs.Lists.{list_all-weaker}
use Rattle.sgb_graph.proofs.Growing.{first_ends}

-- values fit their kinds where each fits its own
pub utils_fit_each : (n m : ℕ) (kinds : List Kind) (utils : List Util) → length kinds ≡ length utils → utils_fit n m kinds utils ≡ list_all (λ p. util_fits n m p.0 p.1) (zip kinds utils)
utils_fit_each n m [] [] long = refl
utils_fit_each n m (kind ∷ kinds) (util ∷ utils) long =
    ap (λ b. util_fits n m kind util && b) (utils_fit_each n m kinds utils (omega arith))
utils_fit_each n m _ _ long = absurd (omega arith)

-- the list of each vertex ends where the numbers fit and all chains end
pub lists_end : (g : GraphData) → fields_fit g ≡ true → chains_end g.records ≡ true → list_all (λ x. ends_of g.records x.arcs) g.vertices ≡ true
lists_end g fits ends = grind (arith, and_parts, list_all-weaker, first_ends)

-- parts that make up a graph are that graph
pub graph_is_checked : (g : GraphData) → IsGraph g → checked g ≡ Ok g
graph_is_checked g is = rw (is.vertices_fit, is.fields, is.lists) refl

-- parts that pass the check are one
passes_graph : (g : GraphData) → (nat_le (length g.vertices) most_vertices && fields_fit g && is_sound g) ≡ true → IsGraph g
passes_graph g e = grind (arith, and_parts)

-- so others are refused
pub other_is_refused : (g : GraphData) → (IsGraph g → ⊥) → checked g ≡ Err Syntax
other_is_refused g other = grind (arith, cases_Bool, passes_graph)
