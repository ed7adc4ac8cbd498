use Rattle.std.proofs.Common.{◌≡◌, pos, ◌+ℤ◌, ◌*ℤ◌, drop}
use Rattle.sgb_vec.specs.Boxes.{product_of}
use Rattle.sgb_gen.specs.inner.Strides.{stride_of}
use Rattle.sgb_gen.proofs.accepted.boards.strides.stride_by.Given as goal

-- the first entries make so many places of the stride
abbrev pub invariant-loop-k : goal.invariant-loop-k
invariant-loop-k l =
    l.places *ℤ pos (product_of (drop l.k l.sizes)) +ℤ stride_of (drop l.k l.sizes) (drop l.k l.t) ≡ stride_of l.sizes l.t
