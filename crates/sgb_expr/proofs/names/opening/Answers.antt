use Rattle.std.proofs.Common.{◌≡◌, ℕ, arith, min, ap, ◌∙◌, ◌+◌, Err}
use Rattle.sgb_text.proofs.Readings.{word_at, either}
use Rattle.sgb_expr.proofs.NameOpenings.{openings_all, openings_from, name_passed, name_found, names_end}
use Rattle.sgb_expr.proofs.names.opening.Goals as goal

pub loop-name-init : goal.loop-name-init
loop-name-init c = (omega arith, openings_all c.args.text.now)

pub loop-name-preserved : goal.loop-name-preserved
loop-name-preserved c =
    let text = c.args.text.now in
    let least : c.min-left.result ≡ min c.loop-name.left c.in-Err.field-0.left = c.min-left.ensures in
    let passed = name_passed c.loop-name.name-index c.loop-name.left c.in-Err.field-0.left c.text_of.result.now text c.loop-name-test.true c.text_of.ensures c.in-Err.ensures c.loop-name.invariant.1 in (
      omega (arith, least, c.loop-name.invariant.0),
      ap (λ (n : ℕ). either (Err n) (word_at (openings_from (c.loop-name.name-index + 1)) text)) least ∙ passed,
    )

pub returns : goal.returns
returns c =
    names_end c.loop-name.name-index c.loop-name.left c.args.text.now (omega (arith, c.loop-name.auto.name-index-end, c.loop-name-test.false)) c.loop-name.invariant.0 c.loop-name.invariant.1

pub returns-in-Ok : goal.returns-in-Ok
returns-in-Ok c =
    name_found c.loop-name.name-index c.loop-name.left c.text_of.result.now c.args.text.now c.in-Ok.rest.now c.loop-name-test.true c.text_of.ensures c.in-Ok.ensures c.loop-name.invariant.1
