use Rattle.sgb_vec.proofs.Common.{rules, ◌≡◌, ◌-◌, ◌<◌, ◌≤◌, ◌⊎◌, true, false, get_or, sym, ◌∙◌, inl, inr, arith, nat_tests}
use Rattle.sgb_vec.proofs.SumMembers.{IsWithin-length}
use Rattle.sgb_vec.proofs.SumTails.{least-none, least-more, least-all, after-more_le}
use Rattle.sgb_vec.proofs.SumWalks.{IsFirst-least}
use Rattle.sgb_vec.proofs.sums.last_falling.Goals as goal
use Rattle.sgb_vec.proofs.sums.last_falling.Goals.{else-has_room-via-then-has_room+else-entries-place-gt0, else-has_room-via-else-has_room, then-has_room-2, else-has_room-2}

pub loop-place-init : goal.loop-place-init
loop-place-init c = (least-none c.args.bounds.now c.args.entries.now c.requires.within, omega arith)

pub returns-then-entries-place-gt0-clause-first_after : goal.returns-then-entries-place-gt0-clause-first_after
returns-then-entries-place-gt0-clause-first_after c = search (rules, IsFirst-least)

pub bounds-bounds-place : goal.bounds-bounds-place
bounds-bounds-place c = omega (arith, IsWithin-length c.args.bounds.now c.args.entries.now c.requires.within)

pub overflow_add-after : goal.overflow_add-after
overflow_add-after c = search (rules, after-more_le)

pub loop-place-preserved : goal.loop-place-preserved
loop-place-preserved c =
    let place = c.loop-place.place - 1 in
    let x = get_or c.args.entries.now place 0 in
    let b = get_or c.args.bounds.now place 0 in
    let had = c.loop-place.has_room in
    let has = c.if-has_room-2.has_room in
    let zero_entry : had ≡ true → x ≡ 0 =
    elim c.else-has_room.branch [
      | else-has_room-via-then-has_room+else-entries-place-gt0 w ↦ λ _. omega (arith, w.if-entries-place-gt0.false)
      | else-has_room-via-else-has_room w ↦ λ some. absurd (cc (some, w.if-has_room.false))
    ] in
    let some_room : has ≡ true → (had ≡ true) ⊎ (x < b) =
    elim c.if-has_room-2.branch [
      | then-has_room-2 w ↦ λ _. inl w.if-has_room-2.true
      | else-has_room-2 w ↦ λ some. inr (grind (arith, nat_tests, sym w.has_room-is ∙ some))
    ] in
    let no_room : has ≡ false → (had ≡ false) × (b ≤ x) =
    elim c.if-has_room-2.branch [
      | then-has_room-2 w ↦ λ none. absurd (cc (none, w.has_room-is))
      | else-has_room-2 w ↦ λ none. (w.if-has_room-2.false, grind (arith, nat_tests, sym w.has_room-is ∙ none))
    ] in (
      least-more c.args.bounds.now c.args.entries.now place c.loop-place.place c.loop-place.after had has (omega arith) c.requires.within (omega arith) zero_entry some_room no_room c.loop-place.invariant.0,
      omega (arith, c.visit.ensures, c.loop-place.invariant.1),
    )

pub returns-clause-first : goal.returns-clause-first
returns-clause-first c =
    let none : c.loop-place.place ≡ 0 = omega arith in
    least-all c.args.bounds.now c.args.entries.now c.loop-place.after c.loop-place.has_room (rw none at c.loop-place.invariant.0)
