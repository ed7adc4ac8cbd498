use Rattle.std.proofs.Common.{rules}
use Rattle.sgb_gen.proofs.LinkRows.{length-arcs_in}
use Rattle.sgb_gen.proofs.links.Links.len.Goals as goal

pub returns : goal.returns
returns c = search (rules, length-arcs_in)
