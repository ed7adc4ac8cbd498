use Rattle.sgb_vec.proofs.Common.{rules, w64, to_z-of_z}
use Rattle.sgb_file.specs.inner.Layouts.{checksum_from, counted_bytes}
use Rattle.sgb_file.proofs.LineRecords.{plain_arc_read}
use Rattle.sgb_file.proofs.reading.records.read_plain_arc.Goals as goal

pub next_line_with-requires : goal.next_line_with-requires
next_line_with-requires c = search (rules, checksum_from, counted_bytes)

pub returns-clause-found : goal.returns-clause-found
returns-clause-found c =
    rw (to_z-of_z w64 c.in_ok-tip.len (search rules), c.next_line_with.ensures)
    (plain_arc_read c.args.head.now c.args.lines.now c.in_ok-line.line.now c.in_ok-tip.tip c.in_ok-tip.next c.in_ok-tip.len (search
    rules) (search rules) (search rules))

pub returns-in_err-line-clause-found : goal.returns-in_err-line-clause-found
returns-in_err-line-clause-found c = rw c.from_residual.ensures tt

pub returns-in_err-tip-clause-found : goal.returns-in_err-tip-clause-found
returns-in_err-tip-clause-found c = rw c.from_residual-in_err-tip.ensures tt
