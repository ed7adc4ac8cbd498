use Rattle.sgb_vec.proofs.Common.{rules, ◌≡◌, ◌+◌, true, length, take, refl, sym, ap, ◌∙◌, inl, arith, list_any, nat_lt, All-nil, All-cons}
use Rattle.sgb_vec.specs.Limits.{most_vertices}
use Rattle.sgb_vec.specs.inner.SumRows.{CountsSums}
use Rattle.sgb_vec.proofs.GreatCounts.{All-from_none, HasGreatSum-from_row}
use Rattle.sgb_vec.proofs.SumRowLemmas.{CountsSums-nil, CountsSums-step, take_written}
use Rattle.sgb_vec.proofs.sums.counts.row_of.Goals as goal

pub loop-place-init : goal.loop-place-init
loop-place-init c = search (rules, CountsSums-nil, All-cons, most_vertices, All-nil)

pub returns-then-has_great-clause-err : goal.returns-then-has_great-clause-err
returns-then-has_great-clause-err c =
    let bounds = c.args.bounds.now in
    let i = c.loop-place.place in
    let row = c.add_bound.new.row in
    let inv = c.loop-place.invariant in
    let whole : length c.as_mut_slice.result.now ≡ c.row_length.result = omega (arith, c.in_ok-resize.ensures.len) in
    let long : length row ≡ c.row_length.result = omega arith in
    let counts : CountsSums c.args.total row (take (i + 1) bounds) =
    CountsSums-step c.args.total i c.row_length.result _ bounds c.loop-place.row.items c.as_mut_slice.result.now row c.loop-place-test.true inv.0 inv.2 c.row_length.ensures (c.as_mut_slice.ensures.value ∙ c.in_ok-resize.ensures.items) whole c.add_bound.ensures in
    let written : c.as_slice.result.now ≡ row = c.as_slice.ensures.value ∙ take_written c.resize.new.self.len row _ (omega (arith, c.in_ok-resize.ensures.len)) in
    let great : list_any (λ count. nat_lt most_vertices count) row ≡ true = sym (ap (list_any (λ count. nat_lt most_vertices count)) written) ∙ sym c.has_great.ensures ∙ c.if-has_great.true in
    inl (refl, HasGreatSum-from_row c.args.total row bounds (i + 1) counts (omega arith) great)

pub loop-place-preserved : goal.loop-place-preserved
loop-place-preserved c = search (rules, CountsSums, CountsSums-step, take_written, list_any, most_vertices, All-from_none)
