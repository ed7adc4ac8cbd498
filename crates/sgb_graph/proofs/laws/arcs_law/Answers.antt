use Rattle.std.proofs.Common.{true}
use Rattle.sgb_graph.proofs.EventLemmas.{new_has_none, event_more, events_made}
use Rattle.sgb_graph.proofs.laws.arcs_law.Goals as goal

pub returns : goal.returns
returns c = record { none = new_has_none true; more = event_more true; all = events_made true }
