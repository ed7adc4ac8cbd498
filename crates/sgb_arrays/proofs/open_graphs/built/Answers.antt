use Rattle.sgb_gen.specs.Generators.{described}
use Rattle.sgb_arrays.proofs.BuiltGraphs.{built_is}
use Rattle.sgb_arrays.proofs.open_graphs.built.Goals as goal

pub returns-clause-graph : goal.returns-clause-graph
returns-clause-graph c = built_is (described c.args.local.now) c.graph.result c.graph.ensures
