use Rattle.sgb_vec.proofs.Common.{rules, ◌≡◌, ◌<◌, ℕ, ℤ, Bool, [], ◌∷◌, length, to_z-of_z, on_ok_weaker, w64, SFits}
use Rattle.sgb_graph.specs.Graphs.{GraphData}
use Rattle.sgb_graph.specs.Events.{Event}
use Rattle.sgb_graph.specs.Growth.{AddsEvents, with_event}
use Rattle.sgb_graph.proofs.AddedEvents.{adds-event}
use Rattle.sgb_graph.proofs.graphs.Graph.add_event.Goals as goal

-- the graph with one event more adds that event, whether it is known to be directed or told so
added : (directed told : Bool) (old new : GraphData) (u v : ℕ) (len : ℤ) → directed ≡ told → u < length old.vertices → v < length old.vertices → new ≡ with_event told old (record { from = u; to = v; len = len })
    → AddsEvents directed old new (record { from = u; to = v; len = len } ∷ [])
added directed told old new u v len same u_in v_in is = search (rules, Event, adds-event)

pub returns-then-directed-clause-ok : goal.returns-then-directed-clause-ok
returns-then-directed-clause-ok c =
    let fits : SFits w64 c.args.len = c.ranges.len in
    let ok = simp to_z-of_z at c.new_arc.ensures.ok in
    on_ok_weaker c.new_arc.result (added _ _ _ _ _ _ _ c.if-directed.true c.requires.from c.requires.to) ok

pub returns-else-directed-clause-ok : goal.returns-else-directed-clause-ok
returns-else-directed-clause-ok c =
    let fits : SFits w64 c.args.len = c.ranges.len in
    let ok = simp to_z-of_z at c.new_edge.ensures.ok in
    on_ok_weaker c.new_edge.result (added _ _ _ _ _ _ _ c.if-directed.false c.requires.from c.requires.to) ok
