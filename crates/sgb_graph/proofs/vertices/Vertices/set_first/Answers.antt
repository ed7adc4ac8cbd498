use Rattle.std.proofs.Common.{rules}
use Rattle.sgb_graph.specs.Growth.{with_first}
use Rattle.sgb_graph.specs.inner.KeptVertices.{KeptVertices}
use Rattle.sgb_graph.proofs.KeptVertices.{first_kept, first_put, length-firsts}
use Rattle.sgb_graph.proofs.vertices.Vertices.set_first.Goals as goal

pub index_mut-requires : goal.index_mut-requires
index_mut-requires c = search (rules, length-firsts)

pub invariant_of-self : goal.invariant_of-self
invariant_of-self c = search (rules, first_kept)

pub returns : goal.returns
returns c = search (rules, length-firsts, first_put, KeptVertices, with_first)
