use Rattle.sgb_vec.proofs.Common.{◌≡◌, ◌≢◌, length, decimal, sym, ap, ◌∙◌, eqb-true, arith, rules, tests, eqb-false, length-map, nil_from_length}
use Rattle.std.proofs.lemmas.Iterator.Consumers.{YieldsList-at, YieldsList-turn, YieldsList-end}
use Rattle.std.proofs.lemmas.Iterator.Splits.{YieldsList-from_slice_split}
use Rattle.sgb_vec.proofs.NameReading.{is_dot, name_of_parts, part_is_decimal, few_parts}
use Rattle.sgb_vec.proofs.VectorNames.{name_of_none}
use Rattle.sgb_vec.proofs.named.vector_of.Goals as goal

pub returns-then-is_empty-clause-named : goal.returns-then-is_empty-clause-named
returns-then-is_empty-clause-named c = search (rules, nil_from_length, eqb-true, name_of_none)

pub returns-in_err-entry-clause-none : goal.returns-in_err-entry-clause-none
returns-in_err-entry-clause-none c =
    let some : length c.args.name.now ≢ 0 = eqb-false _ _ (sym c.is_empty.ensures ∙ c.if-is_empty.false) in
    let turn = YieldsList-turn (YieldsList-at c.into_iter-part-iterator.ensures.into_iter_gives
    (YieldsList-from_slice_split _ is_dot c.args.name.now c.split-part-items.ensures.rest c.split-part-items.ensures.done c.split-part-items.ensures.closure (λ x r q k. search (rules, tests))))
    c.loop-part.yielded _ c.loop-part.yielded_by _ _ c.in-Some.part c.in-Some.is c.next.ensures.steps in
    rw c.from_residual.ensures (λ vector is same.
    let part = part_is_decimal vector c.args.name.now c.in-Some.part.now (length c.loop-part.yielded) is same (omega (arith, some)) turn.0 turn.1 in
    c.in_err-entry.ensures.none _ part.0 part.1)

pub returns-then-is_full-clause-none : goal.returns-then-is_full-clause-none
returns-then-is_full-clause-none c = λ vector is same.
    let some : length c.args.name.now ≢ 0 = eqb-false _ _ (sym c.is_empty.ensures ∙ c.if-is_empty.false) in
    let turn = YieldsList-turn (YieldsList-at c.into_iter-part-iterator.ensures.into_iter_gives
    (YieldsList-from_slice_split _ is_dot c.args.name.now c.split-part-items.ensures.rest c.split-part-items.ensures.done c.split-part-items.ensures.closure (λ x r q k. search (rules, tests))))
    c.loop-part.yielded _ c.loop-part.yielded_by _ _ c.in-Some.part c.in-Some.is c.next.ensures.steps in
    let full : length c.loop-part.vector.items ≡ 251 = eqb-true _ _ (sym c.is_full.ensures.value ∙ c.if-is_full.true) in
    let few = few_parts vector c.args.name.now is same (omega (arith, some)) in
    let as_many = ap length c.loop-part.invariant.0 in
    omega (arith, full, few, turn.0, as_many, length-map c.loop-part.vector.items decimal, length-map c.loop-part.yielded (λ x. x.now))

pub returns-clause-named : goal.returns-clause-named
returns-clause-named c =
    let end = YieldsList-end (YieldsList-at c.into_iter-part-iterator.ensures.into_iter_gives
    (YieldsList-from_slice_split _ is_dot c.args.name.now c.split-part-items.ensures.rest c.split-part-items.ensures.done c.split-part-items.ensures.closure (λ x r q k. search (rules, tests))))
    c.loop-part.yielded _ c.loop-part.yielded_by _ _ c.in-None.is c.next.ensures.steps in
    (c.loop-part.invariant.1, name_of_parts c.loop-part.vector.items c.args.name.now (c.loop-part.invariant.0 ∙ end.0))
