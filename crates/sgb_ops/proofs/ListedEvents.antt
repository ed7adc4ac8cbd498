-- The arcs taken of the list of a vertex, and where they lead.
use Rattle.sgb_vec.proofs.Common.{◌≡◌, ◌<◌, ℕ, Bool, true, false, length, refl, All}
use Rattle.sgb_graph.specs.Graphs.{GraphData, chain_of}
use Rattle.sgb_graph.specs.Growth.{IsKept}
use Rattle.sgb_taken.specs.Taken.{taken}
use Rattle.sgb_ops.specs.inner.Sources.{HasTips}
use Rattle.sgb_taken.specs.inner.TakenArcs.{taken_of}
use Rattle.sgb_taken.proofs.TakenTips.{TipBelow}
use Rattle.sgb_ops.proofs.EventsWithin.{chain_tips}
use Rattle.sgb_taken.proofs.Taking.{all_once}

-- a graph that is built has its tips among its vertices
pub kept_tips : (g : GraphData) → IsKept g → HasTips g
kept_tips g kept v below = chain_tips g v kept below

-- so have the arcs that are taken
pub listed_tips : (directed : Bool) (g : GraphData) (v : ℕ) → HasTips g → v < length g.vertices → All (TipBelow (length g.vertices)) (taken directed g v)
listed_tips true g v tips below = tips v below
listed_tips false g v tips below = all_once (TipBelow (length g.vertices)) v (chain_of g v) (λ k d h up. tips v below k d h)

-- the arcs taken, by those of the list
pub taken_is : (directed : Bool) (g : GraphData) (v : ℕ) → taken directed g v ≡ taken_of directed v (chain_of g v)
taken_is true g v = refl
taken_is false g v = refl
