use Rattle.sgb_vec.proofs.Common.{rules, length-map, take_all}
use Rattle.sgb_graph.proofs.ColumnValues.{HasPlace-below}
use Rattle.sgb_graph.proofs.KeptVertices.{taken_more}
use Rattle.sgb_graph.proofs.columns.Column.numbers.Goals as goal

pub get-requires : goal.get-requires
get-requires c = search (rules, HasPlace-below)

pub loop-k-preserved : goal.loop-k-preserved
loop-k-preserved c = search (rules, taken_more)

pub returns : goal.returns
returns c = search (rules, take_all, length-map)
