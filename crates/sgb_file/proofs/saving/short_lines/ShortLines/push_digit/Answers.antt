use Rattle.sgb_vec.proofs.Common.{ap, sym, ◌∙◌, decimal_digit}
use Rattle.sgb_file.specs.inner.ShortLines.{put_after}
use Rattle.sgb_file.proofs.ChecksumLemmas.{digit_place}
use Rattle.sgb_file.proofs.saving.short_lines.ShortLines.push_digit.Goals as goal

pub push_placed-requires-clause-place : goal.push_placed-requires-clause-place
push_placed-requires-clause-place c = sym (digit_place c.args.digit c.requires.digit)

pub returns-clause-text : goal.returns-clause-text
returns-clause-text c = c.push_placed.ensures.put ∙ ap (put_after c.args.self.now) (sym (decimal_digit c.args.digit c.requires.digit))
