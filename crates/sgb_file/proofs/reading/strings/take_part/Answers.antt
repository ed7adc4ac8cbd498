use Rattle.std.proofs.Common.{rules, sym, ◌∙◌, ◌+◌, arith}
use Rattle.sgb_file.specs.FileLines.{text_of_lines}
use Rattle.sgb_file.proofs.LeftTexts.{begun_shorter, under_way, skipped_left, begun_text}
use Rattle.sgb_file.proofs.StringReading.{has_quote, no_quote, last_part, broken_part, broken_some, ended_line}
use Rattle.sgb_file.proofs.reading.strings.take_part.Goals as goal

pub returns-in-Some-place_of_quote-clause-part : goal.returns-in-Some-place_of_quote-clause-part
returns-in-Some-place_of_quote-clause-part c =
    let s = c.args.lines.now in
    let line = c.in-Some.line.now in
    let quote = has_quote line c.in-Some-place_of_quote.end c.in-Some-place_of_quote.ensures in
    let left = skipped_left s line (c.in-Some-place_of_quote.end + 1) c.in-Some.ensures.left (omega (arith, quote.within)) in
    rw (c.skip.ensures, left, under_way s line c.in-Some.ensures.left) (last_part line _ c.in-Some-place_of_quote.end c.in-Some.ensures.one quote)

pub returns-then-not-is_broken-clause-none : goal.returns-then-not-is_broken-clause-none
returns-then-not-is_broken-clause-none c = search (rules, ended_line, no_quote, text_of_lines, under_way)

pub returns-clause-part : goal.returns-clause-part
returns-clause-part c =
    let s = c.args.lines.now in
    let line = c.in-Some.line.now in
    rw (c.next_line.ensures, c.skip-2.ensures, begun_text s.others, under_way s line c.in-Some.ensures.left)
    (broken_part line (text_of_lines s.others) c.in-Some.ensures.one (no_quote line (sym c.in_default-place_of_quote.is ∙ c.place_of_quote.ensures)) (sym c.is_broken.ensures ∙ c.if-not-is_broken.false))

pub slice_bounds-result-count : goal.slice_bounds-result-count
slice_bounds-result-count c = broken_some c.in-Some.line.now c.if-not-is_broken.ensures

pub returns-clause-shorter : goal.returns-clause-shorter
returns-clause-shorter c =
    let s = c.args.lines.now in
    rw (c.next_line.ensures, c.skip-2.ensures, begun_text s.others, under_way s c.in-Some.line.now c.in-Some.ensures.left) (begun_shorter c.in-Some.line.now (text_of_lines s.others))
