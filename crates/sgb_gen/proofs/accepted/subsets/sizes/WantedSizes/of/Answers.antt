use Rattle.std.proofs.Common.{rules}
use Rattle.sgb_gen.proofs.WantedSizes.{wanted-from, wanted-to}
use Rattle.sgb_gen.proofs.accepted.subsets.sizes.WantedSizes.of.Goals as goal

pub returns : goal.returns
returns c k wanted = search (rules, wanted-from, wanted-to)
