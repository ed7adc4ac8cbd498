use Rattle.sgb_vec.proofs.Common.{rules, arith, w64, to_z-of_z}
use Rattle.sgb_file.proofs.LineRecords.{arc_counted, arc_line, integer_field, last_read, no_fields_used, record_field, rest_of_line, then_read}
use Rattle.sgb_file.proofs.reading.line_records.arc_of_line.Goals as goal

pub returns : goal.returns
returns c =
    let counts = c.args.counts.now in
    let tip = c.in_ok-tip in
    let second = c.in_ok-second in
    let read = then_read (record_field counts) c.in_ok-next.ensures c.in_ok-third.ensures c.value_after_byte-after_next.ensures
    (last_read _ _ (integer_field counts) (no_fields_used counts) c.in_ok-len.ensures (search (rules, arith)))
    (rest_of_line c.args.line.now second.second.now tip.tip_end c.requires second.ensures) in record {
      arc = rw (to_z-of_z w64 c.in_ok-len.len (search rules)) (arc_line counts c.args.line.now second.second.now tip.tip c.in_ok-next.next c.in_ok-len.len _ _ _ _ _ c.requires tip.ensures second.ensures read);
      sum = arc_counted counts c.args.line.now second.second.now tip.tip c.in_ok-next.next c.in_ok-len.len c.args.sum _ _ _ _ _ c.checksum_of_value.result tip.ensures second.ensures
          c.value_after_byte-after_tip.ensures read c.checksum_of_value.ensures c.from.ensures c.ranges.sum.fits (search (rules, arith));
    }

pub returns-in_err-tip-clause-arc : goal.returns-in_err-tip-clause-arc
returns-in_err-tip-clause-arc c = rw c.from_residual.ensures tt

pub returns-in_err-tip-clause-sum : goal.returns-in_err-tip-clause-sum
returns-in_err-tip-clause-sum c = rw c.from_residual.ensures tt

pub returns-in_err-second-clause-arc : goal.returns-in_err-second-clause-arc
returns-in_err-second-clause-arc c = rw c.from_residual-in_err-second.ensures tt

pub returns-in_err-second-clause-sum : goal.returns-in_err-second-clause-sum
returns-in_err-second-clause-sum c = rw c.from_residual-in_err-second.ensures tt

pub returns-in_err-next-clause-arc : goal.returns-in_err-next-clause-arc
returns-in_err-next-clause-arc c = rw c.from_residual-in_err-next.ensures tt

pub returns-in_err-next-clause-sum : goal.returns-in_err-next-clause-sum
returns-in_err-next-clause-sum c = rw c.from_residual-in_err-next.ensures tt

pub returns-in_err-third-clause-arc : goal.returns-in_err-third-clause-arc
returns-in_err-third-clause-arc c = rw c.from_residual-in_err-third.ensures tt

pub returns-in_err-third-clause-sum : goal.returns-in_err-third-clause-sum
returns-in_err-third-clause-sum c = rw c.from_residual-in_err-third.ensures tt

pub returns-in_err-len-clause-arc : goal.returns-in_err-len-clause-arc
returns-in_err-len-clause-arc c = rw c.from_residual-in_err-len.ensures tt

pub returns-in_err-len-clause-sum : goal.returns-in_err-len-clause-sum
returns-in_err-len-clause-sum c = rw c.from_residual-in_err-len.ensures tt
