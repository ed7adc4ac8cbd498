-- Refusals that come before memory is taken.
use Rattle.std.proofs.Common.{◌≡◌, ℤ, Bool, true, false, Result, Ok, Err, if◌then◌else◌, refl, ap}
use Rattle.sgb_vec.specs.declared.panics.Panic.{Panic}
use Rattle.sgb_vec.specs.declared.panics.Panic.TheVariants.{VeryBad}
use Rattle.sgb_graph.specs.Descriptions.{Description}
use Rattle.sgb_graph.specs.Graphs.{GraphData}
use Rattle.sgb_graph.specs.Vertices.{order_of}
use Rattle.sgb_ops.specs.Product.{product_graph_of, product_type}
use Rattle.sgb_ops.specs.inner.Pairs.{has_too_many_pairs, product_graph}

-- what is accepted is not refused
pub not_refused : {T : Type 0} (r : Result T Panic) (x : T) (e : Panic) → r ≡ Ok x → r ≡ Err e → ⊥
not_refused r x e ok err = cc

-- one refusal
pub same_refusal : {T S : Type 0} (r : Result T Panic) (f e : Panic) (result : Result S Panic) → r ≡ Err f → result ≡ Err f → r ≡ Err e → result ≡ Err e
same_refusal r f e result is given also = cc

-- a product of few pairs
abbrev of_pairs : (g h : GraphData) (kind : ℤ) (d many : Bool) → Result Description Panic
of_pairs g h kind d many = if many then Err VeryBad else Ok (product_graph (product_type kind) g h d)

pub few_not_refused : (g h : GraphData) (kind : ℤ) (d : Bool) (e : Panic) → has_too_many_pairs (order_of g) (order_of h) ≡ false → product_graph_of g h kind d ≡ Err e → ⊥
few_not_refused g h kind d e few is =
    not_refused (product_graph_of g h kind d) (product_graph (product_type kind) g h d) e (ap (of_pairs g h kind d) few) is

-- and of too many
pub many_refused : (g h : GraphData) (kind : ℤ) (d : Bool) (e : Panic) → has_too_many_pairs (order_of g) (order_of h) ≡ true → product_graph_of g h kind d ≡ Err e
    → ◌≡◌ {A = Result GraphData Panic} (Err VeryBad) (Err e)
many_refused g h kind d e many is = same_refusal (product_graph_of g h kind d) VeryBad e (Err VeryBad) (ap (of_pairs g h kind d) many) refl is
