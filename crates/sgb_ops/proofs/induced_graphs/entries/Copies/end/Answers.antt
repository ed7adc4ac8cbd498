use Rattle.std.proofs.Common.{rules, length, ap, arith}
use Rattle.sgb_ops.proofs.EntryTotals.{length-firsts, merged_read, own_read}
use Rattle.sgb_ops.proofs.induced_graphs.entries.Copies.end.Goals as goal

pub index-requires-in-None : goal.index-requires-in-None
index-requires-in-None c = omega (arith, length-firsts c.self.inside.places.items c.self.inside.own_starts.items c.self.invariant.0, c.requires, ap length c.self.view_is)

pub returns-in-Some : goal.returns-in-Some
returns-in-Some c = search (rules, merged_read)

pub returns-in-None : goal.returns-in-None
returns-in-None c = search (rules, own_read)
