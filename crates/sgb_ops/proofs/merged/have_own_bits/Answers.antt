use Rattle.sgb_vec.proofs.Common.{◌≡◌, ◌≢◌, ◌∙◌, ◌+◌, ◌/◌, ◌%◌, ◌++◌, ◌∷◌, [], get_or, take, sym, ap, arith, bit_at, take_more}
use Rattle.std.proofs.lemmas.Nat.Bits.{shr_and_one}
use Rattle.sgb_taken.specs.inner.Ends.{bit_place}
use Rattle.sgb_ops.proofs.Apart.{so_far_more}
use Rattle.sgb_ops.proofs.merged.have_own_bits.Goals as goal

pub loop-event-preserved : goal.loop-event-preserved
loop-event-preserved c =
    let events = c.args.events.now in
    let e = c.event-item.result in
    let i = c.loop-event.event-index in
    let next : take (i + 1) events ≡ take i events ++ e ∷ [] = take_more events i e (omega arith) ∙ ap (λ x. take i events ++ x ∷ []) (sym c.event-item.is) in
    let p = bit_place e in
    let unset : bit_at (get_or c.loop-event.seen (p / 64) 0) (p % 64) ≢ 1 =
    λ bit. c.if-known-eq1.false (rw c.bit_place-place.ensures (shr_and_one (get_or c.loop-event.seen (p / 64) 0) (p % 64) ∙ bit)) in
    rw (next, c.bit_place-place.ensures) (so_far_more c.loop-event.seen (take i events) e c.loop-event.invariant unset)
