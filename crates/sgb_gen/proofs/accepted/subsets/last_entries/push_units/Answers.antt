use Rattle.std.proofs.Common.{◌≡◌, ◌<◌, ◌+◌, ℕ, List, Some, drop, replicate, slice_get, sym, ◌-◌, length, refl, ap, ◌∙◌, arith, get_or}
use Rattle.std.proofs.lemmas.List.{get_or-drop, get_or-replicate}
use Rattle.std.proofs.lemmas.Option.{slice_get-get_or}
use Rattle.sgb_vec.proofs.SumMembers.{IsWithin-length}
use Rattle.sgb_gen.proofs.ArcsInTurn.{exit_part, so_far_all, so_far_more}
use Rattle.sgb_gen.proofs.LastEntries.{none-left, units-more}
use Rattle.sgb_gen.proofs.accepted.subsets.last_entries.push_units.Goals as goal

-- each of the last entries is 0
zero_there : (tip : List ℕ) (start n i : ℕ) → drop start tip ≡ replicate n 0 → i < n → start + n ≡ length tip → slice_get tip (start + i) ≡ Some 0
zero_there tip start n i zeros less all =
    slice_get-get_or tip (start + i) 0 (omega (arith, less, all)) ∙ ap Some (sym (get_or-drop start tip i 0) ∙ ap (λ xs. get_or xs i 0) zeros ∙ get_or-replicate n i 0 0 less)

pub returns-in_err-push_unit-clause-given : goal.returns-in_err-push_unit-clause-given
returns-in_err-push_unit-clause-given g c =
    let x = c.args.x.now in
    let bounds = c.args.bounds.now in
    let tip = c.args.tip.now in
    let i = c.loop-i.i in
    let same = IsWithin-length bounds x c.requires.begun.within in
    let first = units-more c.args.begun.size_bits tip c.args.begun.common (length tip - length x) i (length x) (get_or bounds i 0) (get_or x i 0) c.is_unit_wanted-wanted.result bounds x (omega (arith, c.requires.place)) c.requires.zeros refl (omega (arith, same)) (omega arith) refl refl c.is_unit_wanted-wanted.ensures in
    exit_part (g.met.K.ArcSink.laws c.args.sink.now) _ _ _ _ _ _ _ _ _ _ _ _ c.from_residual.ensures.1 first c.loop-i.invariant.1 (rw c.loop-i.invariant.0 at c.in_err-push_unit.ensures.given)

pub loop-i-preserved : goal.loop-i-preserved
loop-i-preserved g c =
    let x = c.args.x.now in
    let bounds = c.args.bounds.now in
    let tip = c.args.tip.now in
    let i = c.loop-i.i in
    let same = IsWithin-length bounds x c.requires.begun.within in
    let first = units-more c.args.begun.size_bits tip c.args.begun.common (length tip - length x) i (length x) (get_or bounds i 0) (get_or x i 0) c.is_unit_wanted-wanted.result bounds x (omega (arith, c.requires.place)) c.requires.zeros refl (omega (arith, same)) (omega arith) refl refl c.is_unit_wanted-wanted.ensures in (
      rw c.loop-i.invariant.0 at c.in_ok-push_unit.ensures.same,
      so_far_more (g.met.K.ArcSink.laws c.args.sink.now) _ _ _ _ _ _ _ _ _ _ first c.loop-i.invariant.1 (rw c.loop-i.invariant.0 at c.in_ok-push_unit.ensures.given),
      c.in_ok-push_unit.ensures.ready,
    )

pub returns-clause-given : goal.returns-clause-given
returns-clause-given g c =
    let x = c.args.x.now in
    let bounds = c.args.bounds.now in
    let same = IsWithin-length bounds x c.requires.begun.within in
    so_far_all (g.met.K.ArcSink.laws c.args.sink.now) _ _ _ _ _ _
    (none-left c.args.begun.size_bits _ c.args.begun.common 1 c.loop-i.i bounds x (omega arith) (omega arith) (omega (arith, same))) c.loop-i.invariant.1

pub overflow_sub-start : goal.overflow_sub-start
overflow_sub-start g c = c.requires.place

pub bounds-bounds-i : goal.bounds-bounds-i
bounds-bounds-i g c = omega (arith, IsWithin-length c.args.bounds.now c.args.x.now c.requires.begun.within, c.loop-i-test.true)

pub bounds-x-i : goal.bounds-x-i
bounds-x-i g c = c.loop-i-test.true

pub push_unit-requires-clause-width : goal.push_unit-requires-clause-width
push_unit-requires-clause-width g c = ap length c.loop-i.invariant.0 ∙ c.requires.width

pub push_unit-requires-clause-ready : goal.push_unit-requires-clause-ready
push_unit-requires-clause-ready g c = c.loop-i.invariant.2

pub push_unit-requires-clause-zero : goal.push_unit-requires-clause-zero
push_unit-requires-clause-zero g c =
    let tip = c.args.tip.now in
    let x = c.args.x.now in
    rw c.loop-i.invariant.0 (zero_there tip (length tip - length x) (length x) c.loop-i.i c.requires.zeros c.loop-i-test.true (omega (arith, c.requires.place)))
