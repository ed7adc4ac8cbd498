use Rattle.sgb_graph.proofs.AddedEvents.{adds-none, adds-then, adds-new, adds-graph}
use Rattle.sgb_graph.proofs.laws.events_law.Goals as goal

pub returns : goal.returns
returns c = record { none = adds-none; more = adds-then; arcs = adds-new; graph = adds-graph }
