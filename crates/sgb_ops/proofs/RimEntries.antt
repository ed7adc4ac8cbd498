-- The entry of a wheel's rim: of the graph that a description makes, be it built or not.
use Rattle.std.proofs.Common.{◌≡◌, Result, Ok, Err, refl, arith}
use Rattle.sgb_vec.specs.Results.{and_then}
use Rattle.sgb_vec.specs.declared.panics.Panic.{Panic}
use Rattle.sgb_graph.specs.Descriptions.{Description, IsAnswerOf}
use Rattle.sgb_graph.specs.Graphs.{GraphData}
use Rattle.sgb_graph.specs.Made.{graph_described}
use Rattle.sgb_graph.proofs.Described.{described_only}
use Rattle.sgb_gen.specs.Generators.{made}
use Rattle.sgb_ops.specs.declared.induced_graphs.entries.Entry.{Entry}
use Rattle.sgb_ops.specs.declared.induced_graphs.entries.Entry.TheVariants as entry

-- the entry of the graph that is described, or why there is none
abbrev entry_made : Result Description Panic → Result Entry Panic
entry_made r = and_then r (λ d. Ok (entry.Graph (graph_described d)))

-- the entry is that of a graph that was made
pub record IsRim (r : Result Description Panic) (e : Entry) : Type 0 where
  pub description : Description
  pub made : r ≡ Ok description
  pub entry : e ≡ entry.Graph (graph_described description)

pub rim_known : (r : Result Description Panic) (e : Entry) → entry_made r ≡ Ok e → IsRim r e
rim_known (Ok x) e is = record { description = x; made = refl; entry = cc }
rim_known (Err f) e is = absurd cc

-- a graph that is known without being built
pub known_entry : (r : Result Description Panic) (g : GraphData) → made r ≡ Ok g → entry_made r ≡ Ok (entry.Graph g)
known_entry (Ok x) g is = cc
known_entry (Err f) g is = absurd cc

pub known_stands : {T : Type 0} (r : Result Description Panic) (g : GraphData) (result : Result T Panic) → made r ≡ Ok g → (e : Panic) → r ≡ Err e → result ≡ Err e
known_stands (Ok x) g result is e refused = absurd cc
known_stands (Err f) g result is e refused = absurd cc

-- and one that was built
pub built_entry : (r : Result Description Panic) (g : GraphData) → IsAnswerOf r (Ok g) → entry_made r ≡ Ok (entry.Graph g)
built_entry (Ok x) g is = grind (arith, described_only)
built_entry (Err f) g is = absurd is

-- the code of a refusal is one only
pub same_code : (x e : Panic) (r : Result Entry Panic) → r ≡ Err x → r ≡ Err e → x ≡ e
same_code x e r own other = cc
