-- The end of an operation: the graph that its steps made is the one that is described.
use Rattle.std.proofs.Common.{◌≡◌, ℕ, Bool, List, sym, ap, subst, ◌∙◌}
use Rattle.sgb_graph.specs.Graphs.{GraphData}
use Rattle.sgb_graph.specs.Events.{Event}
use Rattle.sgb_graph.specs.Descriptions.{IsGraphOf}
use Rattle.sgb_graph.specs.Growth.{AddsEvents, new_graph, with_id}
use Rattle.sgb_graph.specs.Made.{plain}
use Rattle.sgb_graph.proofs.AddedEvents.{adds-graph}

-- a graph of these names, then the events, then the id
pub made : (directed : Bool) (events : List Event) (names written : List (List ℕ)) (text id : List ℕ) (fresh grown done : GraphData) → written ≡ names → fresh ≡ new_graph written → AddsEvents directed fresh grown events → id ≡ text → done ≡ with_id id grown → IsGraphOf (plain directed events names text) done
made directed events names written text id fresh grown done same_names new added same_id ended =
    let added_new = subst (λ g. AddsEvents directed g grown events) (new ∙ ap new_graph same_names) added in
    subst (IsGraphOf (plain directed events names text)) (sym (ended ∙ ap (λ t. with_id t grown) same_id)) (adds-graph directed names events grown text added_new)
