-- Where the arcs lead that are taken of a list.
use Rattle.std.proofs.Common.{◌<◌, ℕ, Bool, true, false, List}
use Rattle.std.specs.List.{All}
use Rattle.sgb_graph.specs.declared.fields.Link.{Link}
use Rattle.sgb_taken.specs.inner.TakenArcs.{taken_of}
use Rattle.sgb_taken.proofs.Taking.{all_once}

-- the arc leads to a vertex below n
abbrev pub TipBelow : ℕ → Link → Type 0
TipBelow n l = l.tip < n

-- what is true of all arcs is true of those that are taken
pub all_taken : (P : Link → Type 0) (directed : Bool) (v : ℕ) (links : List Link) → All P links → All P (taken_of directed v links)
all_taken P true v links all = all
all_taken P false v links all = all_once P v links (λ k d h up. all k d h)
