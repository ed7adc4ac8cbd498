use Rattle.std.proofs.Common.{rules, ◌+◌, ap, arith, refl}
use Rattle.sgb_file.proofs.PlacedPieces.{filling-none, filling-more, filling-cut, filling-last}
use Rattle.sgb_file.proofs.LaidLines.{stopped-on}
use Rattle.sgb_file.proofs.saving.layouts.Layout.fill.Goals as goal

pub loop-rest-init : goal.loop-rest-init
loop-rest-init g c = search (rules, filling-none)

pub returns-in_err-fill_up : goal.returns-in_err-fill_up
returns-in_err-fill_up g c =
    stopped-on _ _ c.from_residual.result c.from_residual.ensures.1 (filling-cut c.args.bytes.now c.loop-rest.rest.now c.split_at.result.0.now (c.room-in-loop-rest.result + 1) _ _ _ c.split_at.ensures.front c.loop-rest.invariant c.in_err-fill_up.ensures)

pub loop-rest-preserved : goal.loop-rest-preserved
loop-rest-preserved g c =
    filling-more c.args.bytes.now c.loop-rest.rest.now _ _ (c.room-in-loop-rest.result + 1) _ _ _ c.split_at.ensures.front c.split_at.ensures.back c.loop-rest.invariant c.in_ok-fill_up.ensures

pub returns : goal.returns
returns g c =
    filling-last c.args.bytes.now c.loop-rest.rest.now _ _ _ c.loop-rest.invariant (omega (arith, c.room.ensures, c.loop-rest-test.false))
    (record { written = refl; failed = refl; checksum = ap (λ l. l.checksum) c.self-2.view_is }) (grind (arith, c.push_text.ensures.put, c.self-2.view_is))
