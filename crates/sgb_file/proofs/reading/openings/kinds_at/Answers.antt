use Rattle.std.proofs.Common.{refl, ◌≡◌, ◌-◌, drop, length, rules, arith, length-set, length-drop, take_all}
use Rattle.sgb_file.proofs.Endings.{short_kinds, kinds_missed, kinds_more, kinds_read}
use Rattle.sgb_file.proofs.reading.openings.kinds_at.Goals as goal

pub returns-then-text-lt14 : goal.returns-then-text-lt14
returns-then-text-lt14 c = short_kinds c.args.text.now c.if-text-lt14.true

pub returns-in_err-kinds : goal.returns-in_err-kinds
returns-in_err-kinds c = search (rules, kinds_missed)

pub loop-place-preserved : goal.loop-place-preserved
loop-place-preserved c = search (rules, kinds_more, length-set)

pub returns : goal.returns
returns c =
    let text = c.args.text.now in
    let all : c.loop-place.place ≡ 14 = omega (arith, c.loop-place.invariant.2, c.loop-place-test.false) in
    rw (take_all (length text - 14) (drop 14 text) (omega (arith, length-drop 14 text)), kinds_read text c.loop-place.kinds (rw all at c.loop-place.invariant.0) c.loop-place.invariant.1) refl
