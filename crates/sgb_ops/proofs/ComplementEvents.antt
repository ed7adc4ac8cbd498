-- The wanted arcs of a complement, as they are met one by one.
use Rattle.std.proofs.Common.{◌≡◌, ℕ, pos, Bool, cond, List, [], ◌∷◌, ◌++◌, map, filter, arith}
use Rattle.sgb_graph.specs.Graphs.{GraphData}
use Rattle.sgb_graph.specs.Events.{Event}
use Rattle.sgb_ops.specs.inner.Complement.{is_wanted_arc}

-- the wanted arcs from u to these vertices
abbrev pub wanted_to : GraphData → Bool → Bool → Bool → ℕ → List ℕ → List Event
wanted_to g copy self directed u ws = map (λ w. record { from = u; to = w; len = pos 1 }) (filter (is_wanted_arc g copy self directed u) ws)

-- that to w, if it is wanted
abbrev pub event_to : Bool → ℕ → ℕ → List Event
event_to wanted u w = cond wanted (record { from = u; to = w; len = pos 1 } ∷ []) []

-- it comes first
pub first_wanted : (g : GraphData) (copy self directed : Bool) (u w : ℕ) (ws : List ℕ)
    → wanted_to g copy self directed u (w ∷ ws) ≡ event_to (is_wanted_arc g copy self directed u w) u w ++ wanted_to g copy self directed u ws
first_wanted g copy self directed u w ws = grind (arith, filter, cond, event_to)
