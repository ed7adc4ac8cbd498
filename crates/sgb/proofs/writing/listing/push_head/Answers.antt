use Rattle.std.proofs.Common.{rules}
use Rattle.std.proofs.lemmas.List.{length-map}
use Rattle.sgb_graph.specs.Vertices.{names_of}
use Rattle.sgb.proofs.writing.listing.push_head.Goals as goal

pub returns : goal.returns
returns c = search (rules, names_of, length-map)
