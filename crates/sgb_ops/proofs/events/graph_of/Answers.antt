use Rattle.sgb_vec.proofs.Common.{rules, refl, length-map}
use Rattle.sgb_graph.specs.Graphs.{GraphData}
use Rattle.sgb_graph.specs.Growth.{new_vertex}
use Rattle.sgb_ops.specs.inner.Ends.{AllWithin}
use Rattle.sgb_ops.proofs.Results.{made}
use Rattle.sgb_ops.proofs.events.graph_of.Goals as goal

pub returns-clause-ok : goal.returns-clause-ok
returns-clause-ok c =
    made c.args.directed c.args.events.now c.args.names c.args.names c.args.id c.args.id c.in_ok-built.built c.add_events.new.built c.set_id.new.self
    refl c.in_ok-built.ensures.ok c.in_ok-add_events.ensures.ok refl c.set_id.ensures

pub add_events-requires-clause-within : goal.add_events-requires-clause-within
add_events-requires-clause-within c = search (rules, GraphData, length-map, new_vertex, AllWithin)
