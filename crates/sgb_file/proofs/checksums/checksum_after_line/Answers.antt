use Rattle.std.proofs.Common.{rules, ◌∙◌, sym}
use Rattle.sgb_file.proofs.LaidLines.{checksum-starred, checksum-counted, checksum_from-append}
use Rattle.sgb_file.proofs.checksums.checksum_after_line.Goals as goal

pub returns-then-has_star : goal.returns-then-has_star
returns-then-has_star c = sym (checksum-starred c.args.sum c.args.line.now (sym c.has_star.ensures ∙ c.if-has_star.true))

pub returns : goal.returns
returns c = search (rules, checksum-counted, checksum_from-append)
