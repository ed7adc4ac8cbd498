use Rattle.std.proofs.Common.{rules}
use Rattle.sgb_ops.specs.Entries.{merged_count}
use Rattle.sgb_ops.specs.inner.Copies.{first_copies}
use Rattle.sgb_ops.specs.inner.Entries.{total_of}
use Rattle.sgb_ops.proofs.SizedEntries.{merged_sized, total_sized}
use Rattle.sgb_ops.proofs.induced_graphs.entries.Copies.new.Goals as goal

pub first_copies-requires-clause-merged : goal.first_copies-requires-clause-merged
first_copies-requires-clause-merged c = search (rules, merged_count, merged_sized)

pub first_copies-requires-clause-few : goal.first_copies-requires-clause-few
first_copies-requires-clause-few c = search (rules, total_of, total_sized)

pub invariant_of-result : goal.invariant_of-result
invariant_of-result c = search (rules, first_copies, total_of, total_sized)
