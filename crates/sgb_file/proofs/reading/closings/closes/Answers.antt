use Rattle.std.proofs.Common.{rules, sym, ap, ◌∙◌, option_map}
use Rattle.sgb_file.specs.inner.LinesLeft.{lines_passed}
use Rattle.sgb_file.proofs.Endings.{closes_none, closes_by}
use Rattle.sgb_file.proofs.reading.closings.closes.Goals as goal

pub returns-in_default : goal.returns-in_default
returns-in_default c = closes_none c.args.lines.now c.line.ensures.lines (sym c.line.ensures.left ∙ ap (λ line. option_map (λ l. l.now) line) c.in_default.is)

pub returns : goal.returns
returns c = search (rules, closes_by, lines_passed, option_map)
