use Rattle.std.proofs.Common.{rules}
use Rattle.sgb_vec.proofs.SumPlaces.{count_below-all}
use Rattle.sgb_vec.proofs.sums.places.entry_at.Goals as goal

pub loop-entry-init : goal.loop-entry-init
loop-entry-init c = search (rules, count_below-all)
