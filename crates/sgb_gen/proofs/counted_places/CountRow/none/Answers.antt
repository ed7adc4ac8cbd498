use Rattle.std.proofs.Common.{rules}
use Rattle.sgb_gen.proofs.KeptCounts.{HasCounts-none}
use Rattle.sgb_gen.proofs.counted_places.CountRow.none.Goals as goal

pub returns : goal.returns
returns c = search (rules, HasCounts-none)
