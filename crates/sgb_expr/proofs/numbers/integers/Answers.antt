use Rattle.sgb_vec.proofs.Common.{◌≡◌, arith, rules, length-set, to_z, of_z, w64, ◌∙◌, ◌^◌, err_from_is_err_and}
use Rattle.sgb_expr.specs.inner.Readings.{integer_at}
use Rattle.sgb_text.proofs.Readers.{bind_of, bind_stops}
use Rattle.sgb_expr.proofs.IntegerLists.{place_wrong, place_read, place_small, all_read, all_wrong}
use Rattle.sgb_expr.proofs.numbers.integers.Goals as goal

pub returns-in_err-begun-clause-read : goal.returns-in_err-begun-clause-read
returns-in_err-begun-clause-read g c =
    let p = err_from_is_err_and c.from_residual.result c.from_residual.ensures.1 in
    rw (p.1, p.2) (place_wrong c.loop-place.numbers c.loop-place.place g.row.N _ c.args.separator.now c.separator_before.result.now c.args.end.now c.loop-place.rest.now _
    c.loop-place-test.true c.separator_before.ensures (bind_stops _ integer_at _ c.in_err-begun.ensures) c.loop-place.invariant.read)

pub returns-in_err-value-clause-read : goal.returns-in_err-value-clause-read
returns-in_err-value-clause-read g c =
    let p = err_from_is_err_and c.from_residual-in_err-value.result c.from_residual-in_err-value.ensures.1 in
    rw (p.1, p.2) (place_wrong c.loop-place.numbers c.loop-place.place g.row.N _ c.args.separator.now c.separator_before.result.now c.args.end.now c.loop-place.rest.now _
    c.loop-place-test.true c.separator_before.ensures (bind_of _ integer_at _ c.in_ok-begun.ensures ∙ c.in_err-value.ensures.read) c.loop-place.invariant.read)

pub loop-place-preserved : goal.loop-place-preserved
loop-place-preserved g c =
    let kept : to_z w64 (of_z w64 c.in_ok-value.value) ≡ c.in_ok-value.value = search rules in
    let within = c.loop-place.invariant.count in record {
      count = length-set _ _ _ ∙ c.loop-place.invariant.count;
      read = place_read c.loop-place.numbers c.loop-place.place g.row.N c.in_ok-value.value _ c.args.separator.now c.separator_before.result.now c.args.end.now c.loop-place.rest.now c.in_ok-begun.begun.now
          c.in_ok-value.after.now _ c.loop-place-test.true c.loop-place.invariant.count kept c.separator_before.ensures c.in_ok-begun.ensures c.in_ok-value.ensures.read c.loop-place.invariant.read;
      bound = place_small c.loop-place.numbers c.loop-place.place (10 ^ 18) c.in_ok-value.value _ (omega (arith, within, c.loop-place-test.true)) kept c.in_ok-value.ensures.bound c.loop-place.invariant.bound;
    }

pub returns-in_err-fixed-clause-read : goal.returns-in_err-fixed-clause-read
returns-in_err-fixed-clause-read g c =
    let p = err_from_is_err_and c.from_residual-in_err-fixed.result c.from_residual-in_err-fixed.ensures.1 in
    rw (p.1, p.2) (all_wrong c.loop-place.numbers c.loop-place.place g.row.N _ c.args.separator.now c.args.end.now c.loop-place.rest.now _ c.loop-place-test.false c.loop-place.invariant.count
    c.in_err-fixed.ensures c.loop-place.invariant.read)

pub returns-clause-read : goal.returns-clause-read
returns-clause-read g c =
    all_read c.loop-place.numbers c.loop-place.place g.row.N c.args.separator.now c.args.end.now c.loop-place.rest.now _ _ c.loop-place-test.false c.loop-place.invariant.count c.in_ok-fixed.ensures
    c.loop-place.invariant.read
