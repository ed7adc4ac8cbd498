use Rattle.std.proofs.Common.{◌≡◌, take}
use Rattle.sgb_arrays.specs.inner.CopiedParts.{with_records}
use Rattle.sgb_arrays.proofs.copies.copy_records.Given as goal

-- those before this one are there
abbrev pub invariant-loop-k : goal.invariant-loop-k
invariant-loop-k l = l.parts ≡ with_records (take l.k l.graph.records) l.fn.parts
