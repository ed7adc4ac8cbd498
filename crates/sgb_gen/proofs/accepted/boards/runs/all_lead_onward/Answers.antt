use Rattle.std.proofs.Common.{◌≡◌, slice_index_or, subst, true, w64, arith, rules}
use Rattle.std.proofs.lemmas.Int.{to_z-of_z}
use Rattle.std.proofs.lemmas.Option.{slice_get-get_or}
use Rattle.sgb_moves.specs.inner.Moves.{leads_onward}
use Rattle.sgb_gen.proofs.accepted.boards.runs.all_lead_onward.Goals as goal

pub returns : goal.returns
returns c =
    let table = c.args.table.now in
    λ k d below. subst (λ w. leads_onward w 0 (slice_index_or table k d) ≡ true) (to_z-of_z w64 c.args.wrap (search rules))
    (c.loop-k.invariant k (slice_index_or table k d) (omega (arith, below, c.len-k-end.ensures)) (slice_get-get_or table k d below))
