use Rattle.std.proofs.Common.{◌≡◌, ◌-◌, pos, to_z, of_z, w64, sym, ap, ◌∙◌, arith, rules, false}
use Rattle.std.proofs.lemmas.Int.{to_z-of_z}
use Rattle.std.proofs.lemmas.Result.{err_from_is_err_and}
use Rattle.sgb_vec.specs.Sums.{has_great_count}
use Rattle.sgb_gen.specs.Simplexes.{Places}
use Rattle.sgb_gen.specs.inner.SimplexCounts.{lowered}
use Rattle.sgb_gen.proofs.SimplexCounts.{shifts-none, family_lowered, room_alone, size_lowered}
use Rattle.sgb_gen.proofs.accepted.simplexes.Simplex.shifts_count.Goals as goal
use Rattle.sgb_gen.proofs.accepted.simplexes.Simplex.shifts_count.Goals.{then-total-eq0-via-then-total-eq0, then-total-eq0-via-else-total-eq0+then-bounds-lower-eq0, then-total-eq0-via-else-total-eq0+else-bounds-lower-eq0+then-bounds-higher-eq0}

pub returns-then-total-eq0-clause-ok : goal.returns-then-total-eq0-clause-ok
returns-then-total-eq0-clause-ok c = search (rules, shifts-none)

pub returns-in_err-family-clause-memory : goal.returns-in_err-family-clause-memory
returns-in_err-family-clause-memory c =
    let s = c.args.self.now.sum in
    let at : Places = record { lower = c.args.lower; higher = c.args.higher } in
    let total : c.total-total.result ≡ s.total = c.total-total.ensures.total ∙ ap (λ d. d.sum.total) c.self.view_is in
    let none : has_great_count s.total s.bounds ≡ false = ap (λ d. has_great_count d.sum.total d.sum.bounds) (sym c.self.view_is) ∙ c.self.invariant.2 in
    let lower = c.as_slice.ensures.value ∙ c.lowered-bounds.ensures ∙ ap (λ b. lowered b at) c.sizes-bounds.ensures.same in
    let p = err_from_is_err_and c.from_residual.result c.from_residual.ensures.1 in
    let number = to_z-of_z w64 c.from.result (search rules) ∙ c.from.ensures ∙ ap (λ t. pos (t - 1)) total in
    let made = family_lowered s at (to_z w64 (of_z w64 c.from.result)) c.as_slice.result.now c.new.result (omega (arith, total, c.total-total.ensures.small)) none number lower c.new.ensures.value in
    rw (p.1, p.2) (room_alone c.new.result _ c.in_err-family.field-0.0 c.in_err-family.was made)

pub returns-clause-ok : goal.returns-clause-ok
returns-clause-ok c = search (rules, to_z-of_z, family_lowered, size_lowered)
