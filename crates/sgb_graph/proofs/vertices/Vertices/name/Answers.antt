use Rattle.std.proofs.Common.{rules}
use Rattle.std.proofs.lemmas.Option.{slice_get_read}
use Rattle.sgb_graph.specs.inner.KeptVertices.{KeptVertices}
use Rattle.sgb_graph.proofs.KeptVertices.{kept_name, length-kept}
use Rattle.sgb_graph.proofs.vertices.Vertices.name.Goals as goal

pub index-requires : goal.index-requires
index-requires c = search (rules, length-kept)

pub returns : goal.returns
returns c = search (rules, length-kept, slice_get_read, KeptVertices, kept_name)
