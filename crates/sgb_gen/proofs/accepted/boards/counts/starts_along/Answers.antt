use Rattle.std.proofs.Common.{rules}
use Rattle.sgb_gen.proofs.BoardCountsTotals.{along-halved}
use Rattle.sgb_gen.proofs.accepted.boards.counts.starts_along.Goals as goal

pub returns : goal.returns
returns c = search (rules, along-halved)
