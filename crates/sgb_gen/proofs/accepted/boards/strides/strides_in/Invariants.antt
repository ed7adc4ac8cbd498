use Rattle.std.proofs.Common.{◌≡◌, pos, map, take}
use Rattle.sgb_gen.specs.inner.Strides.{stride_of}
use Rattle.sgb_gen.proofs.accepted.boards.strides.strides_in.Given as goal

-- the strides of the displacements before this one are found
abbrev pub invariant-loop-k : goal.invariant-loop-k
invariant-loop-k l = map pos l.strides.items ≡ map (stride_of l.sizes) (take l.k l.table)
