use Rattle.std.proofs.Common.{◌≡◌, ◌++◌, length, map}
use Rattle.sgb_vec.specs.Names.{name_of_vector}
use Rattle.sgb_gen.proofs.vector_graphs.vector_names.Given as goal

-- behind the names that are there come those of the vectors that are left
abbrev pub invariant-loop-vector : goal.invariant-loop-vector
invariant-loop-vector g l = l.names ++ map name_of_vector l.left ≡ map name_of_vector (g.F.Family.members l.family)

abbrev pub decreases-loop-vector : goal.decreases-loop-vector
decreases-loop-vector g l = length l.left
