use Rattle.sgb_vec.proofs.Common.{rules, arith, w64, to_z-of_z}
use Rattle.sgb_file.proofs.CountedFields.{line_counted}
use Rattle.sgb_file.proofs.LineRecords.{integer_field, last_read, no_fields, record_field, then_read, unused_read}
use Rattle.sgb_file.proofs.reading.line_records.fields_of_line.Goals as goal

pub returns : goal.returns
returns c =
    let counts = c.args.counts.now in
    let integer = integer_field counts in
    let read = then_read (record_field counts) c.in_ok-first.ensures c.in_ok-second.ensures c.value_after_byte-after_first.ensures
    (λ second. unused_read (unused_read (unused_read (then_read integer c.in_ok-x.ensures c.in_ok-third.ensures c.value_after_byte-after_x.ensures
    (then_read integer c.in_ok-y.ensures c.in_ok-fourth.ensures c.value_after_byte-after_y.ensures
    (last_read _ _ integer (no_fields counts) c.in_ok-z.ensures (search (rules, arith)))) second)))) c.requires in record {
      fields = rw (to_z-of_z w64 c.in_ok-x.x (search rules), to_z-of_z w64 c.in_ok-y.y (search rules), to_z-of_z w64 c.in_ok-z.z (search rules)) read.fields;
      sum = line_counted c.args.sum c.from.result _ c.checksum_of_value.result c.args.line.now c.from.ensures c.ranges.sum.fits (search (rules, arith)) read.counted c.checksum_of_value.ensures;
    }

pub returns-in_err-first-clause-fields : goal.returns-in_err-first-clause-fields
returns-in_err-first-clause-fields c = rw c.from_residual.ensures tt

pub returns-in_err-first-clause-sum : goal.returns-in_err-first-clause-sum
returns-in_err-first-clause-sum c = rw c.from_residual.ensures tt

pub returns-in_err-second-clause-fields : goal.returns-in_err-second-clause-fields
returns-in_err-second-clause-fields c = rw c.from_residual-in_err-second.ensures tt

pub returns-in_err-second-clause-sum : goal.returns-in_err-second-clause-sum
returns-in_err-second-clause-sum c = rw c.from_residual-in_err-second.ensures tt

pub returns-in_err-x-clause-fields : goal.returns-in_err-x-clause-fields
returns-in_err-x-clause-fields c = rw c.from_residual-in_err-x.ensures tt

pub returns-in_err-x-clause-sum : goal.returns-in_err-x-clause-sum
returns-in_err-x-clause-sum c = rw c.from_residual-in_err-x.ensures tt

pub returns-in_err-third-clause-fields : goal.returns-in_err-third-clause-fields
returns-in_err-third-clause-fields c = rw c.from_residual-in_err-third.ensures tt

pub returns-in_err-third-clause-sum : goal.returns-in_err-third-clause-sum
returns-in_err-third-clause-sum c = rw c.from_residual-in_err-third.ensures tt

pub returns-in_err-y-clause-fields : goal.returns-in_err-y-clause-fields
returns-in_err-y-clause-fields c = rw c.from_residual-in_err-y.ensures tt

pub returns-in_err-y-clause-sum : goal.returns-in_err-y-clause-sum
returns-in_err-y-clause-sum c = rw c.from_residual-in_err-y.ensures tt

pub returns-in_err-fourth-clause-fields : goal.returns-in_err-fourth-clause-fields
returns-in_err-fourth-clause-fields c = rw c.from_residual-in_err-fourth.ensures tt

pub returns-in_err-fourth-clause-sum : goal.returns-in_err-fourth-clause-sum
returns-in_err-fourth-clause-sum c = rw c.from_residual-in_err-fourth.ensures tt

pub returns-in_err-z-clause-fields : goal.returns-in_err-z-clause-fields
returns-in_err-z-clause-fields c = rw c.from_residual-in_err-z.ensures tt

pub returns-in_err-z-clause-sum : goal.returns-in_err-z-clause-sum
returns-in_err-z-clause-sum c = rw c.from_residual-in_err-z.ensures tt
