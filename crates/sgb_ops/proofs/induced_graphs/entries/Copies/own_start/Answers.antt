use Rattle.std.proofs.Common.{rules, length, ap, arith}
use Rattle.sgb_ops.specs.Entries.{first_copy}
use Rattle.sgb_ops.proofs.EntryTotals.{first_at, length-firsts}
use Rattle.sgb_ops.proofs.induced_graphs.entries.Copies.own_start.Goals as goal

pub index-requires : goal.index-requires
index-requires c = omega (arith, length-firsts c.self.inside.places.items c.self.inside.own_starts.items c.self.invariant.0, c.requires, ap length c.self.view_is)

pub returns : goal.returns
returns c = search (rules, first_at, first_copy)
