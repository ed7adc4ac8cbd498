use Rattle.std.proofs.Common.{rules}
use Rattle.std.proofs.lemmas.Option.{slice_get_read}
use Rattle.sgb_graph.specs.Growth.{first_arc}
use Rattle.sgb_graph.specs.inner.KeptVertices.{KeptVertices}
use Rattle.sgb_graph.proofs.KeptVertices.{kept_first, length-firsts}
use Rattle.sgb_graph.proofs.vertices.Vertices.first.Goals as goal

pub index-requires : goal.index-requires
index-requires c = search (rules, length-firsts)

pub returns-clause-value : goal.returns-clause-value
returns-clause-value c = search (rules, length-firsts, slice_get_read, kept_first, KeptVertices, first_arc)
