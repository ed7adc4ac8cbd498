use Rattle.std.proofs.Common.{rules, append_assoc}
use Rattle.sgb.proofs.Listings.{head-parts}
use Rattle.sgb.proofs.writing.listing.push_head_of.Goals as goal

pub returns : goal.returns
returns c = search (rules, append_assoc, head-parts)
