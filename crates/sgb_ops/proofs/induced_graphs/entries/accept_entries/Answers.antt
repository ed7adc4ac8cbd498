use Rattle.std.proofs.Common.{rules}
use Rattle.sgb_ops.specs.inner.Entries.{total_of}
use Rattle.sgb_ops.proofs.EntryTotals.{few_accepted}
use Rattle.sgb_ops.proofs.induced_graphs.entries.accept_entries.Goals as goal

pub returns-clause-ok : goal.returns-clause-ok
returns-clause-ok c = search (rules, few_accepted, total_of)
