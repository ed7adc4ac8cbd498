use Rattle.std.proofs.Common.{◌<◌, ◌++◌, false, length, ap, ◌∙◌, arith}
use Rattle.std.proofs.lemmas.Result.{err_from_is_err_and}
use Rattle.sgb_vec.specs.Limits.{most_bytes}
use Rattle.sgb_file.specs.inner.Found.{goes_on}
use Rattle.sgb_file.specs.inner.LinesLeft.{text_left}
use Rattle.sgb_file.proofs.StringReading.{too_long}
use Rattle.sgb_file.proofs.reading.strings.gather.Goals as goal

pub returns-in_err-push_part-clause-none : goal.returns-in_err-push_part-clause-none
returns-in_err-push_part-clause-none c =
    let p = err_from_is_err_and c.from_residual.result c.from_residual.ensures.1 in
    let first = c.args.first.now in
    let long = c.in_err-push_part.ensures.long in
    let many : most_bytes < length first = rw c.requires at long.1 in
    rw (p.1, p.2) (long.0, λ most few. too_long false most first (text_left c.args.lines.now) (omega (arith, many, few)))

pub returns-in_err-push_part-2-clause-none : goal.returns-in_err-push_part-2-clause-none
returns-in_err-push_part-2-clause-none c =
    let p = err_from_is_err_and c.from_residual-in_err-push_part-2.result c.from_residual-in_err-push_part-2.ensures.1 in
    let bytes = c.loop-closed.bytes.items in
    let part = c.in_ok-part.part in
    let long = c.in_err-push_part-2.ensures.long in
    rw (p.1, p.2) (
      long.0,
      λ most few. c.loop-closed.invariant.so_far most
          ∙ (ap (λ closed. goes_on closed most bytes (text_left c.loop-closed.lines)) c.loop-closed-test.true
          ∙ (c.in_ok-part.ensures.part most bytes ∙ too_long part.closed most (bytes ++ part.bytes.now) (text_left c.take_part.new.lines) (omega (arith, long.1, few)))),
    )

pub returns-in_err-push_part-clause-whole : goal.returns-in_err-push_part-clause-whole
returns-in_err-push_part-clause-whole c = let p = err_from_is_err_and c.from_residual.result c.from_residual.ensures.1 in rw p.1 tt

pub returns-in_err-part-clause-whole : goal.returns-in_err-part-clause-whole
returns-in_err-part-clause-whole c = let p = err_from_is_err_and c.from_residual-in_err-part.result c.from_residual-in_err-part.ensures.1 in rw p.1 tt

pub returns-in_err-push_part-2-clause-whole : goal.returns-in_err-push_part-2-clause-whole
returns-in_err-push_part-2-clause-whole c = let p = err_from_is_err_and c.from_residual-in_err-push_part-2.result c.from_residual-in_err-push_part-2.ensures.1 in rw p.1 tt
