use Rattle.std.proofs.Common.{false}
use Rattle.sgb_graph.proofs.EventLemmas.{new_has_none, event_more, events_made}
use Rattle.sgb_graph.proofs.laws.edges_law.Goals as goal

pub returns : goal.returns
returns c = record { none = new_has_none false; more = event_more false; all = events_made false }
