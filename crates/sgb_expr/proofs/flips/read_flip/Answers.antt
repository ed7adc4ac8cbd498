use Rattle.std.proofs.Common.{sym, ◌∙◌}
use Rattle.sgb_text.proofs.Readers.{ok_same}
use Rattle.sgb_expr.proofs.FlipReading.{reads_flip}
use Rattle.sgb_text.proofs.WholeWords.{goes_wrong, whole_word, word_whole}
use Rattle.sgb_expr.proofs.flips.read_flip.Goals as goal

pub overflow_sub-result : goal.overflow_sub-result
overflow_sub-result c =
    (goes_wrong reads_flip tt c.args.text.now c.in-Err.field-0.left c.in-Err.ensures).within

pub returns-in-Ok-clause-read : goal.returns-in-Ok-clause-read
returns-in-Ok-clause-read c =
    ((λ h. let t = c.is_too_large.ensures.1 h in cc (t, c.if-is_too_large.false)), word_whole reads_flip c.args.text.now c.in-Ok.params c.in-Ok.ensures)

pub returns-in-Ok-clause-only : goal.returns-in-Ok-clause-only
returns-in-Ok-clause-only c = λ params is. ok_same c.in-Ok.params params (sym c.in-Ok.ensures ∙ whole_word reads_flip tt c.args.text.now params is)

pub returns-in-Err-clause-read : goal.returns-in-Err-clause-read
returns-in-Err-clause-read c =
    let wrong = goes_wrong reads_flip tt c.args.text.now c.in-Err.field-0.left c.in-Err.ensures in
    ((λ h. let t = c.is_too_large.ensures.1 h in cc (t, c.if-is_too_large.false)), wrong.none, wrong.longest)
