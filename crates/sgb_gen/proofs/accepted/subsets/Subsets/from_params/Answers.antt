use Rattle.std.proofs.Common.{to_z, of_z, w64, ℤ, sym, rules}
use Rattle.sgb_vec.proofs.SimplexBounds.{small_parameters}
use Rattle.sgb_gen.proofs.accepted.subsets.Subsets.from_params.Goals as goal

pub invariant_of-result : goal.invariant_of-result
invariant_of-result c =
    let read : ℤ → ℤ = λ n. to_z w64 (of_z w64 n) in
    let p = c.args.params.now in (
      search rules,
      search rules,
      small_parameters (read p.n) (read p.n0) (read p.n1) (read p.n2) (read p.n3) (read p.n4) c.in_ok-shape.shape (sym c.in_ok-shape.ensures),
    )
