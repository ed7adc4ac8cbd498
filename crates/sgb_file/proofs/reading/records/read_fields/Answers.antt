use Rattle.sgb_vec.proofs.Common.{refl, ◌∙◌, length-set, rules, w64, to_z-of_z, err_from_is_err_and}
use Rattle.sgb_file.specs.inner.LinesLeft.{text_left}
use Rattle.sgb_file.proofs.FoundSteps.{end_read, end_stops, int_read, int_stops, none_read, one_read, one_stops, one_unused, used_at}
use Rattle.sgb_file.proofs.reading.records.read_fields.Goals as goal

pub loop-place-init : goal.loop-place-init
loop-place-init c = record { count = refl; read = none_read _ _ _; all = refl }

pub loop-place-preserved-then-not-is_used : goal.loop-place-preserved-then-not-is_used
loop-place-preserved-then-not-is_used c = search (rules, one_unused)

pub returns-in_err-read_integer_after_comma-clause-found : goal.returns-in_err-read_integer_after_comma-clause-found
returns-in_err-read_integer_after_comma-clause-found c =
    let p = err_from_is_err_and c.from_residual.result c.from_residual.ensures.1 in
    let stopped = c.in_err-read_integer_after_comma in
    let after = text_left c.read_integer_after_comma.new.lines in
    rw (p.1, p.2) (one_stops _ _ _ _ _ _ after after _ _ stopped.field-0.0 c.loop-place.invariant.read c.requires c.loop-place-test.true refl
    (int_stops c.args.counts.now _ (text_left c.loop-place.lines) after stopped.field-0.0 c.in-I.is stopped.ensures.found))

pub loop-place-preserved-in-I : goal.loop-place-preserved-in-I
loop-place-preserved-in-I c =
    let so_far = c.loop-place.invariant in
    let n = c.in_ok-read_integer_after_comma.field-0 in
    let found = int_read c.args.counts.now _ (text_left c.loop-place.lines) (text_left c.read_integer_after_comma.new.lines) _ n (to_z-of_z w64 n (search rules)) c.in-I.is c.in_ok-read_integer_after_comma.ensures.found in record {
      count = length-set _ _ _ ∙ so_far.count;
      read = one_read _ _ _ _ _ _ _ _ _ _ so_far.read c.requires so_far.count c.loop-place-test.true refl found;
      all = c.in_ok-read_integer_after_comma.ensures.all ∙ so_far.all;
    }

pub returns-in_err-fields-clause-found : goal.returns-in_err-fields-clause-found
returns-in_err-fields-clause-found c = search (rules, err_from_is_err_and, one_stops, text_left, used_at)

pub loop-place-preserved : goal.loop-place-preserved
loop-place-preserved c = search (rules, length-set, one_read, text_left, used_at)

pub returns-in_err-end_record-clause-found : goal.returns-in_err-end_record-clause-found
returns-in_err-end_record-clause-found c = search (rules, end_stops, err_from_is_err_and, text_left)

pub returns-clause-found : goal.returns-clause-found
returns-clause-found c = search (rules, end_read)
