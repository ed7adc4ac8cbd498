use Rattle.std.proofs.Common.{◌≡◌, ◌∙◌, [], ◌∷◌, ap, arith, length, refl, take, length-append, length-take-le}
use Rattle.sgb_file.proofs.PlacedPieces.{filled-short, filled-once, stopped-once}
use Rattle.sgb_file.proofs.LaidLines.{stopped-on}
use Rattle.sgb_file.proofs.saving.layouts.Layout.fill_byte.Goals as goal

pub returns-then-len-lt-MOST_LINE_BYTES : goal.returns-then-len-lt-MOST_LINE_BYTES
returns-then-len-lt-MOST_LINE_BYTES g c =
    let line = ap (λ l. l.line) c.self.view_is in
    filled-short (c.args.byte ∷ []) _ _ (rw length-append (omega (arith, c.len.ensures.value, ap length line, c.if-len-lt-MOST_LINE_BYTES.true)))
    (record { written = refl; failed = refl; checksum = ap (λ l. l.checksum) c.self.view_is }) (grind (arith, c.push_byte.ensures, line))

pub invariant_of-self-2 : goal.invariant_of-self-2
invariant_of-self-2 g c =
    let full : length c.self.inside.line ≡ 79 = omega (arith, c.len.ensures.value, c.self.invariant, c.if-len-lt-MOST_LINE_BYTES.false) in
    omega (arith, ap length c.replace_last-last.ensures.line, length-append (take 78 c.self.inside.line) (92 ∷ []), length-take-le 78 c.self.inside.line (omega (arith, full)))

pub returns-in_err-end_line : goal.returns-in_err-end_line
returns-in_err-end_line g c =
    let line = ap (λ l. l.line) c.self.view_is in
    let full : length c.args.self.now.line ≡ 79 = omega (arith, c.len.ensures, ap length line, c.if-len-lt-MOST_LINE_BYTES.false) in
    stopped-on _ _ c.from_residual.result c.from_residual.ensures.1 (stopped-once c.args.byte _ _ _ full (grind (arith, c.replace_last-last.ensures.line, line)) (record { written = refl; failed = refl; checksum = ap (λ l. l.checksum) c.self.view_is }) c.in_err-end_line.ensures)

pub returns : goal.returns
returns g c =
    let line = ap (λ l. l.line) c.self.view_is in
    let full : length c.args.self.now.line ≡ 79 = omega (arith, c.len.ensures, ap length line, c.if-len-lt-MOST_LINE_BYTES.false) in
    let empty : c.self-2.inside.line ≡ [] = ap (λ l. l.line) c.self-2.view_is ∙ c.in_ok-end_line.ensures.1 in
    filled-once c.args.byte _ _ _ _ full (grind (arith, c.replace_last-last.ensures.line, line)) (record { written = refl; failed = refl; checksum = ap (λ l. l.checksum) c.self.view_is }) c.in_ok-end_line.ensures.0
    (record { written = refl; failed = refl; checksum = ap (λ l. l.checksum) c.self-2.view_is }) (grind (arith, c.push_text.ensures.put, empty, c.replace_last-last.ensures.last, line))
