use Rattle.std.proofs.Common.{◌≡◌, map, decimal}
use Rattle.sgb_vec.specs.NamedVectors.{IsVector}
use Rattle.sgb_vec.proofs.named.vector_of.Given as goal

-- the entries so far are those of the parts so far, and a vector
abbrev pub invariant-loop-part : goal.invariant-loop-part
invariant-loop-part l = (map decimal l.vector.items ≡ map (λ x. x.now) l.yielded) × IsVector l.vector.items
