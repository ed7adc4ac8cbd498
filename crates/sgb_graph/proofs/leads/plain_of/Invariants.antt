use Rattle.std.proofs.Common.{◌≡◌, ◌++◌, drop, map}
use Rattle.sgb_graph.specs.inner.KeptRecords.{plain_of}
use Rattle.sgb_graph.proofs.leads.plain_of.Given as goal

-- with those that are left, they are all
abbrev pub invariant-loop-record : goal.invariant-loop-record
invariant-loop-record l = l.records.items ++ map plain_of (drop l.record-index l.short.items) ≡ map plain_of l.short.items
