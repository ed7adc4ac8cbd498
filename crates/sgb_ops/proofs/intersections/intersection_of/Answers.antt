use Rattle.sgb_vec.proofs.Common.{rules, length-map}
use Rattle.sgb_ops.specs.inner.Ends.{AllWithin}
use Rattle.sgb_ops.proofs.intersections.intersection_of.Goals as goal

pub graph_of-requires-clause-within : goal.graph_of-requires-clause-within
graph_of-requires-clause-within c = search (rules, length-map, AllWithin)
