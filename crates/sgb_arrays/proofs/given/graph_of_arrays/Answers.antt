use Rattle.std.proofs.Common.{◌∙◌, ap}
use Rattle.sgb_graph.specs.Growth.{new_graph}
use Rattle.sgb_arrays.proofs.GivenLists.{as_many, ends_there}
use Rattle.sgb_arrays.proofs.given.graph_of_arrays.Goals as goal

pub add_events_given-requires-clause-from : goal.add_events_given-requires-clause-from
add_events_given-requires-clause-from c =
    (ends_there c.args.starts.now c.args.names.now c.args.from.now c.args.to.now c.args.lengths.now c.args.id.now c.in_ok-graph.graph c.requires (c.in_ok-graph.ensures.ok ∙ ap new_graph c.in_ok-texts.ensures)).0

pub add_events_given-requires-clause-to : goal.add_events_given-requires-clause-to
add_events_given-requires-clause-to c =
    (ends_there c.args.starts.now c.args.names.now c.args.from.now c.args.to.now c.args.lengths.now c.args.id.now c.in_ok-graph.graph c.requires (c.in_ok-graph.ensures.ok ∙ ap new_graph c.in_ok-texts.ensures)).1

pub add_events_given-requires-clause-starts : goal.add_events_given-requires-clause-starts
add_events_given-requires-clause-starts c =
    (as_many c.args.starts.now c.args.names.now c.args.from.now c.args.to.now c.args.lengths.now c.args.id.now c.requires).0

pub add_events_given-requires-clause-ends : goal.add_events_given-requires-clause-ends
add_events_given-requires-clause-ends c =
    (as_many c.args.starts.now c.args.names.now c.args.from.now c.args.to.now c.args.lengths.now c.args.id.now c.requires).1
