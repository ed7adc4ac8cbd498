use Rattle.std.proofs.Common.{rules, ◌∙◌, get_or, ap, arith}
use Rattle.sgb_vec.specs.Names.{name_of_vector}
use Rattle.sgb_vec.proofs.VectorNames.{length-name_of_vector-le}
use Rattle.sgb.proofs.WrittenDigits.{turned-digit, turned-same, turned-two, name-one, name-two}
use Rattle.sgb.proofs.writing.kept_names.KeptName.push_with_digits.Goals as goal

pub push_start_of-requires : goal.push_start_of-requires
push_start_of-requires c = search (rules, name_of_vector, length-name_of_vector-le)

pub loop-k-preserved-then-entry-vector : goal.loop-k-preserved-then-entry-vector
loop-k-preserved-then-entry-vector c =
    turned-same _ _ _ _ _ c.requires.width (omega (arith, c.requires.width)) c.loop-k.invariant (rw (c.as_slice-vector.ensures.value, c.self.view_is) at c.if-entry-vector.true)

pub overflow_sub-end : goal.overflow_sub-end
overflow_sub-end c = grind (arith, name-one)

pub put_digit-requires : goal.put_digit-requires
put_digit-requires c = grind (arith, name-one)

pub loop-k-preserved-then-vector-k-lt10 : goal.loop-k-preserved-then-vector-k-lt10
loop-k-preserved-then-vector-k-lt10 c =
    let few = rw (c.as_slice-vector.ensures.value, c.self.view_is) at c.if-vector-k-lt10.true in
    turned-digit _ _ _ _ _ c.requires.width (omega (arith, c.requires.width)) c.loop-k.invariant _ _ _ few c.if-entry-lt10.true c.len-start.ensures.value c.end_of.ensures.value c.put_digit.ensures

pub overflow_sub-end-in-loop-k : goal.overflow_sub-end-in-loop-k
overflow_sub-end-in-loop-k c = grind (arith, name-two)

pub put_two_digits-requires : goal.put_two_digits-requires
put_two_digits-requires c = grind (arith, name-two)

pub loop-k-preserved : goal.loop-k-preserved
loop-k-preserved c =
    let at = ap (λ l. get_or l c.loop-k.k 0) (c.as_slice-vector.ensures.value ∙ c.self.view_is) in
    turned-two _ _ _ _ _ c.requires.width (omega (arith, c.requires.width)) c.loop-k.invariant _ _ _ (omega (arith, c.if-vector-k-lt10-2.false, at)) (omega (arith, c.if-vector-k-gt99.false, at))
    (omega (arith, c.if-entry-lt10-2.false)) (omega (arith, c.if-entry-gt99.false)) c.len-start.ensures.value c.end_of.ensures.value c.put_two_digits.ensures

pub returns-clause-short : goal.returns-clause-short
returns-clause-short c = search (rules, length-name_of_vector-le)
