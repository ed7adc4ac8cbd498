use Rattle.sgb_vec.proofs.Common.{◌≡◌, ◌||◌, ◌∙◌, ◌++◌, ℤ, List, [], ◌∷◌, Result, Ok, Err, refl, ap, sym, subst, w64, rules, arith, ℕ, Bool, true, false, IfOk, IfErr, err_from_is_err_and, to_z-of_z}
use Rattle.sgb_vec.specs.declared.panics.Panic.{Panic}
use Rattle.sgb_graph.specs.Descriptions.{Description, IsAnswerOf}
use Rattle.sgb_graph.specs.Graphs.{GraphData}
use Rattle.sgb_expr.specs.Listed.{listed}
use Rattle.sgb_expr.specs.Expression.{entries_of, expression_of, Expression, Entries, Gunion, Intersection, Product}
use Rattle.sgb_expr.specs.StdinUses.{entries_have_stdin, has_stdin}
use Rattle.sgb_expr.specs.declared.expressions.Expr.{Expr}
use Rattle.sgb_expr.specs.declared.entries.EntryExpr.{EntryExpr}
use Rattle.sgb_ops.specs.Induced.{induced_of}
use Rattle.sgb_ops.specs.declared.induced_graphs.entries.Entry.{Entry}
use Rattle.sgb_ops.specs.Complement.{complement_of}
use Rattle.sgb_ops.specs.Lines.{line_graph_of}
use Rattle.sgb_ops.specs.BiComplete.{accepted_parts, bi_complete_of}
use Rattle.sgb_ops.specs.Wheel.{accepted_rim, wheel_of}
use Rattle.sgb_vec.specs.Results.{IsValue}
use Rattle.sgb_values.specs.Values.{value_of, values_of}
use Rattle.sgb_values.specs.inner.Inputs.{left_after}
use Rattle.sgb_values.specs.inner.Operands.{graph_held, on_lists}
use Rattle.sgb_values.proofs.Values.{and_values, first_refused, induced_reads, induced_same, induced_size, induced_value, one_more, size_of, size_of_entries, then_refused, lists_answered, lists_leave, lists_same, value_made, value_one}
use Rattle.sgb_values.proofs.FirstRefusals.{exit_first, made_first, made_operands, numbers_refused}
use Rattle.sgb_values.proofs.evaluation.+graphs.Goals as goal
use Rattle.sgb_values.proofs.StdinValues.{value_same, values_same}

-- an expression has the same value on what is left for it
value_on : (more first again : Bool) (old mid : List ℕ) (stdin : List ℕ → Result GraphData Panic) (e : Expression) → again ≡ (more || has_stdin e) → mid ≡ left_after again first old
    → value_of (stdin mid) e ≡ value_of (stdin old) e
value_on more first again old mid stdin e told left = grind (arith, value_same)

-- entries have the same values on what is left for them
values_on : (more first again : Bool) (old mid : List ℕ) (stdin : List ℕ → Result GraphData Panic) (es : Entries) → again ≡ (more || entries_have_stdin es) → mid ≡ left_after again first old
    → values_of (stdin mid) es ≡ values_of (stdin old) es
values_on more first again old mid stdin es told left = grind (arith, values_same)

-- what both leave, of which the first was told whether the second reads
left_on : (more first again : Bool) (old mid : List ℕ) (second : Bool) (new : List ℕ) → again ≡ (more || second) → mid ≡ left_after again first old → new ≡ left_after more second mid
    → new ≡ left_after more (first || second) old
left_on more first again old mid second new told left after = grind arith

left_both : {T E : Type 0} (more first again : Bool) (old mid : List ℕ) (second : Bool) (new : List ℕ) (r : Result T E) → again ≡ (more || second) → mid ≡ left_after again first old
    → IfOk r (λ _. new ≡ left_after more second mid) → IfOk r (λ _. new ≡ left_after more (first || second) old)
left_both more first again old mid second new (Ok x) told left after = left_on more first again old mid second new told left after
left_both more first again old mid second new (Err p) told left after = tt

-- what an expression of the code leaves
abbrev left_by : Bool → List ℕ → Expr → List ℕ
left_by more input e = left_after more (has_stdin (expression_of e)) input

-- what needs no input leaves it
none_read : (more : Bool) (input : List ℕ) → input ≡ left_after more false input
none_read true input = refl
none_read false input = refl

-- what holds of any result holds of a good one
if_ok : {T E : Type 0} (r : Result T E) (P : Type 0) → P → IfOk r (λ _. P)
if_ok r P p = grind (arith)

pub evaluate-returns-in-Generator-clause-value : goal.evaluate-returns-in-Generator-clause-value
evaluate-returns-in-Generator-clause-value t c =
    rw c.in-Generator.is (λ stdin gives. value_made _ _ c.generated_graph.ensures.answer)

pub evaluate-returns-in_ok-operand-in-Complement-clause-value : goal.evaluate-returns-in_ok-operand-in-Complement-clause-value
evaluate-returns-in_ok-operand-in-Complement-clause-value t c =
    let a = c.in-Complement in
    rw a.is (λ stdin gives. value_one (λ g. complement_of g a.copy a.self_loops a.directed) (stdin c.args.input.now) _ a.graph.value _ _ c.deref.ensures (c.in_ok-operand-in-Complement.ensures.ok stdin gives) c.answer_of_one.ensures)

pub evaluate-returns-in-Gunion-clause-value : goal.evaluate-returns-in-Gunion-clause-value
evaluate-returns-in-Gunion-clause-value t c =
    let a = c.in-Gunion in
    rw a.is (λ stdin gives. lists_same (Gunion a.multi a.directed) (stdin c.args.input.now) c.deref-in-Gunion.result.now c.deref-in-Gunion-2.result.now a.first.value a.second.value _ c.deref-in-Gunion.ensures c.deref-in-Gunion-2.ensures (c.by_lists.ensures.value stdin gives))

pub evaluate-returns-in-Gunion-clause-left : goal.evaluate-returns-in-Gunion-clause-left
evaluate-returns-in-Gunion-clause-left t c =
    rw c.in-Gunion.is (rw (c.deref-in-Gunion.ensures, c.deref-in-Gunion-2.ensures) at c.by_lists.ensures.left)

pub evaluate-returns-in-Gunion-clause-refused : goal.evaluate-returns-in-Gunion-clause-refused
evaluate-returns-in-Gunion-clause-refused t c =
    rw c.in-Gunion.is (rw c.deref-in-Gunion.ensures at c.by_lists.ensures.refused)

pub evaluate-returns-in-Intersection-clause-value : goal.evaluate-returns-in-Intersection-clause-value
evaluate-returns-in-Intersection-clause-value t c =
    let a = c.in-Intersection in
    rw a.is (λ stdin gives. lists_same (Intersection a.multi a.directed) (stdin c.args.input.now) c.deref-in-Intersection.result.now c.deref-in-Intersection-2.result.now a.first.value a.second.value _ c.deref-in-Intersection.ensures c.deref-in-Intersection-2.ensures (c.by_lists-in-Intersection.ensures.value stdin gives))

pub evaluate-returns-in-Intersection-clause-left : goal.evaluate-returns-in-Intersection-clause-left
evaluate-returns-in-Intersection-clause-left t c =
    rw c.in-Intersection.is (rw (c.deref-in-Intersection.ensures, c.deref-in-Intersection-2.ensures) at c.by_lists-in-Intersection.ensures.left)

pub evaluate-returns-in-Intersection-clause-refused : goal.evaluate-returns-in-Intersection-clause-refused
evaluate-returns-in-Intersection-clause-refused t c =
    rw c.in-Intersection.is (rw c.deref-in-Intersection.ensures at c.by_lists-in-Intersection.ensures.refused)

pub evaluate-returns-in-Product-clause-value : goal.evaluate-returns-in-Product-clause-value
evaluate-returns-in-Product-clause-value t c =
    let a = c.in-Product in
    let kind = to_z-of_z w64 a.kind (search rules) in
    rw a.is (λ stdin gives. lists_same (Product a.kind a.directed) (stdin c.args.input.now) c.deref-in-Product.result.now c.deref-in-Product-2.result.now a.first.value a.second.value _ c.deref-in-Product.ensures c.deref-in-Product-2.ensures (rw kind at c.by_lists-in-Product.ensures.value stdin gives))

pub evaluate-returns-in-Product-clause-left : goal.evaluate-returns-in-Product-clause-left
evaluate-returns-in-Product-clause-left t c =
    rw c.in-Product.is (rw (c.deref-in-Product.ensures, c.deref-in-Product-2.ensures) at c.by_lists-in-Product.ensures.left)

pub evaluate-returns-in-Product-clause-refused : goal.evaluate-returns-in-Product-clause-refused
evaluate-returns-in-Product-clause-refused t c =
    rw c.in-Product.is (rw c.deref-in-Product.ensures at c.by_lists-in-Product.ensures.refused)

pub evaluate-returns-in_ok-operand-in-Complement-clause-left : goal.evaluate-returns-in_ok-operand-in-Complement-clause-left
evaluate-returns-in_ok-operand-in-Complement-clause-left t c =
    if_ok c.answer_of_one.result _ (c.in_ok-operand-in-Complement.ensures.left ∙ ap (left_by c.args.more c.args.input.now) c.deref.ensures ∙ ap (left_by c.args.more c.args.input.now) (sym c.in-Complement.is))

pub evaluate-returns-in_ok-operand-in-Lines-clause-left : goal.evaluate-returns-in_ok-operand-in-Lines-clause-left
evaluate-returns-in_ok-operand-in-Lines-clause-left t c =
    if_ok c.lines_of_operand.result _ (c.in_ok-operand-in-Lines.ensures.left ∙ ap (left_by c.args.more c.args.input.now) c.deref-in-Lines.ensures ∙ ap (left_by c.args.more c.args.input.now) (sym c.in-Lines.is))

pub evaluate-returns-in_ok-operand-in-Lines-clause-value : goal.evaluate-returns-in_ok-operand-in-Lines-clause-value
evaluate-returns-in_ok-operand-in-Lines-clause-value t c =
    let a = c.in-Lines in
    rw a.is (λ stdin gives. value_one (λ g. line_graph_of g a.directed) (stdin c.args.input.now) _ a.graph.value _ _ c.deref-in-Lines.ensures (c.in_ok-operand-in-Lines.ensures.ok stdin gives) c.lines_of_operand.ensures)

-- the answer to two integers that stand for themselves
at_numbers : (make : ℤ → ℤ → Result Description Panic) (m n m' n' : ℤ) (r : Result GraphData Panic) → m' ≡ m → n' ≡ n → IsAnswerOf (make m' n') r → IsAnswerOf (make m n) r
at_numbers make m n m' n' r e f is = subst (λ k. IsAnswerOf (make m k) r) f (subst (λ k. IsAnswerOf (make k n') r) e is)

pub evaluate-returns-in-BiComplete-clause-value : goal.evaluate-returns-in-BiComplete-clause-value
evaluate-returns-in-BiComplete-clause-value t c = search (rules, value_made, bi_complete_of, at_numbers, to_z-of_z)

pub evaluate-returns-in-Wheel-clause-value : goal.evaluate-returns-in-Wheel-clause-value
evaluate-returns-in-Wheel-clause-value t c = search (rules, value_made, wheel_of, at_numbers, to_z-of_z)

pub evaluate-returns-in-Stdin-clause-value : goal.evaluate-returns-in-Stdin-clause-value
evaluate-returns-in-Stdin-clause-value t c =
    rw c.in-Stdin.is (λ stdin gives. c.read_kept.ensures.value (stdin c.args.input.now) (gives c.args.input.now))

pub evaluate-returns-in-Generator-clause-refused : goal.evaluate-returns-in-Generator-clause-refused
evaluate-returns-in-Generator-clause-refused t c =
    rw c.in-Generator.is c.generated_graph.ensures.refused

pub evaluate-returns-in_err-operand-in-Complement-clause-refused : goal.evaluate-returns-in_err-operand-in-Complement-clause-refused
evaluate-returns-in_err-operand-in-Complement-clause-refused t c =
    rw c.in-Complement.is (exit_first c.args.input.now c.deref.result.now c.in-Complement.graph.value _ _ c.from_residual.ensures.1 c.deref.ensures c.in_err-operand-in-Complement.ensures.refused)

pub evaluate-returns-in_ok-operand-in-Complement-clause-refused : goal.evaluate-returns-in_ok-operand-in-Complement-clause-refused
evaluate-returns-in_ok-operand-in-Complement-clause-refused t c =
    rw c.in-Complement.is (made_first c.args.input.now c.deref.result.now c.in-Complement.graph.value _ _ c.deref.ensures c.in_ok-operand-in-Complement.ensures.refused)

pub evaluate-returns-in_err-operand-in-Lines-clause-refused : goal.evaluate-returns-in_err-operand-in-Lines-clause-refused
evaluate-returns-in_err-operand-in-Lines-clause-refused t c =
    rw c.in-Lines.is (exit_first c.args.input.now c.deref-in-Lines.result.now c.in-Lines.graph.value _ _ c.from_residual-in_err-operand-in-Lines.ensures.1 c.deref-in-Lines.ensures c.in_err-operand-in-Lines.ensures.refused)

pub evaluate-returns-in_ok-operand-in-Lines-clause-refused : goal.evaluate-returns-in_ok-operand-in-Lines-clause-refused
evaluate-returns-in_ok-operand-in-Lines-clause-refused t c =
    rw c.in-Lines.is (made_first c.args.input.now c.deref-in-Lines.result.now c.in-Lines.graph.value _ _ c.deref-in-Lines.ensures c.in_ok-operand-in-Lines.ensures.refused)

pub evaluate-returns-in-BiComplete-clause-refused : goal.evaluate-returns-in-BiComplete-clause-refused
evaluate-returns-in-BiComplete-clause-refused t c = search (rules, numbers_refused, accepted_parts, to_z-of_z)

pub evaluate-returns-in-Wheel-clause-refused : goal.evaluate-returns-in-Wheel-clause-refused
evaluate-returns-in-Wheel-clause-refused t c = search (rules, numbers_refused, accepted_rim, to_z-of_z)

pub evaluate-returns-in-Stdin-clause-refused : goal.evaluate-returns-in-Stdin-clause-refused
evaluate-returns-in-Stdin-clause-refused t c =
    rw c.in-Stdin.is c.read_kept.ensures.refused

pub evaluate-by_entries-requires : goal.evaluate-by_entries-requires
evaluate-by_entries-requires t c =
    let a = c.in-Induced in
    let size = induced_size c.args.expression.now a.graph a.entries a.self_loops a.multi a.directed a.is in
    let first = ap (λ x. size_of (expression_of x)) c.deref-in-Induced.ensures in
    let rest = ap (λ (es : List EntryExpr). size_of_entries (entries_of (listed es))) c.as_slice-entries.ensures in
    (omega (arith, size, first, rest), tt)

pub evaluate-returns-in-Induced-clause-value : goal.evaluate-returns-in-Induced-clause-value
evaluate-returns-in-Induced-clause-value t c = λ stdin gives.
    let a = c.in-Induced in
    induced_same (stdin c.args.input.now) c.args.expression.now _ _ _ a.graph a.entries a.self_loops a.multi a.directed a.is c.deref-in-Induced.ensures c.as_slice-entries.ensures (c.by_entries.ensures.value stdin gives)

pub evaluate-returns-in-Induced-clause-left : goal.evaluate-returns-in-Induced-clause-left
evaluate-returns-in-Induced-clause-left t c =
    let a = c.in-Induced in
    let all = induced_reads c.args.expression.now _ _ a.graph a.entries a.self_loops a.multi a.directed a.is c.deref-in-Induced.ensures c.as_slice-entries.ensures in
    rw all c.by_entries.ensures.left

pub evaluate-returns-in-Induced-clause-refused : goal.evaluate-returns-in-Induced-clause-refused
evaluate-returns-in-Induced-clause-refused t c =
    rw c.in-Induced.is (rw c.deref-in-Induced.ensures at c.by_entries.ensures.refused)

pub by_entries-returns-in_err-operand-clause-refused : goal.by_entries-returns-in_err-operand-clause-refused
by_entries-returns-in_err-operand-clause-refused t c = exit_first c.args.input.now c.args.graph.now c.args.graph.now _ _ c.from_residual.ensures.1 refl c.in_err-operand.ensures.refused

pub by_entries-returns-in_err-values-clause-refused : goal.by_entries-returns-in_err-values-clause-refused
by_entries-returns-in_err-values-clause-refused t c = made_first c.args.input.now c.args.graph.now c.args.graph.now _ _ refl c.in_ok-operand.ensures.refused

pub by_entries-returns-clause-refused : goal.by_entries-returns-clause-refused
by_entries-returns-clause-refused t c = made_first c.args.input.now c.args.graph.now c.args.graph.now _ _ refl c.in_ok-operand.ensures.refused

pub by_entries-returns-in_err-values-clause-value : goal.by_entries-returns-in_err-values-clause-value
by_entries-returns-in_err-values-clause-value t c = λ stdin gives.
    let p = err_from_is_err_and c.from_residual-in_err-values.result c.from_residual-in_err-values.ensures.1 in
    let same = values_on _ _ _ _ _ stdin (entries_of (listed c.args.entries.now)) c.more_in.ensures c.in_ok-operand.ensures.left in
    rw (p.1, p.2) (induced_value (stdin c.args.input.now) (expression_of c.args.graph.now) (entries_of (listed c.args.entries.now)) _ _ (Err c.in_err-values.field-0.0) c.args.self_loops c.args.multi c.args.directed (c.in_ok-operand.ensures.ok stdin gives)
    same (then_refused _ _ c.in_err-values.field-0.0 (c.in_err-values.ensures.refused stdin gives)))

pub by_entries-returns-clause-value : goal.by_entries-returns-clause-value
by_entries-returns-clause-value t c = λ stdin gives.
    let operand = graph_held c.in_ok-operand.operand in
    let same = values_on _ _ _ _ _ stdin (entries_of (listed c.args.entries.now)) c.more_in.ensures c.in_ok-operand.ensures.left in
    let answer : IsAnswerOf (induced_of operand c.in_ok-values.values.items c.args.self_loops c.args.multi c.args.directed) c.induced_of_operand.result = c.induced_of_operand.ensures in
    induced_value (stdin c.args.input.now) (expression_of c.args.graph.now) (entries_of (listed c.args.entries.now)) _ (Ok c.in_ok-values.values.items) c.induced_of_operand.result c.args.self_loops c.args.multi c.args.directed (c.in_ok-operand.ensures.ok stdin gives)
    (sym (c.in_ok-values.ensures.ok stdin gives) ∙ same)
    (value_made _ _ answer)

pub by_entries-returns-clause-left : goal.by_entries-returns-clause-left
by_entries-returns-clause-left t c =
    if_ok c.induced_of_operand.result _ (left_on c.args.more _ _ _ _ (entries_have_stdin (entries_of (listed c.args.entries.now))) _ c.more_in.ensures c.in_ok-operand.ensures.left c.in_ok-values.ensures.left)

pub by_lists-returns-in_err-left-clause-value : goal.by_lists-returns-in_err-left-clause-value
by_lists-returns-in_err-left-clause-value t c = λ stdin gives.
    let p = err_from_is_err_and c.from_residual.result c.from_residual.ensures.1 in
    rw (p.1, p.2) (first_refused (value_of (stdin c.args.input.now) (expression_of c.args.first.now)) (value_of (stdin c.args.input.now) (expression_of c.args.second.now)) _ c.in_err-left.field-0.0 (c.in_err-left.ensures.err stdin gives))

pub by_lists-returns-clause-value : goal.by_lists-returns-clause-value
by_lists-returns-clause-value t c = λ stdin gives.
    let e = expression_of c.args.second.now in
    let same = value_on _ _ _ _ _ stdin e c.more_with.ensures c.in_ok-left.ensures.left in
    let v : Result GraphData Panic = value_of (stdin c.args.input.now) e in
    lists_answered (stdin c.args.input.now) (expression_of c.args.first.now) e (graph_held c.in_ok-left.left) c.operand-right.result c.answer_of.result (on_lists c.args.operation)
    (c.in_ok-left.ensures.ok stdin gives)
    (subst (λ (w : Result GraphData Panic). IfOk c.operand-right.result (λ o. w ≡ Ok (graph_held o))) same (c.operand-right.ensures.ok stdin gives))
    (subst (λ (w : Result GraphData Panic). IfErr c.operand-right.result (λ p. IsValue w (Err p))) same (c.operand-right.ensures.err stdin gives))
    c.answer_of.ensures.ok c.answer_of.ensures.refused

pub by_lists-returns-clause-left : goal.by_lists-returns-clause-left
by_lists-returns-clause-left t c =
    lists_leave c.operand-right.result c.answer_of.result _ c.answer_of.ensures.refused
    (left_both c.args.more _ _ _ _ (has_stdin (expression_of c.args.second.now)) _ c.operand-right.result c.more_with.ensures c.in_ok-left.ensures.left c.operand-right.ensures.left)

pub by_lists-returns-in_err-left-clause-refused : goal.by_lists-returns-in_err-left-clause-refused
by_lists-returns-in_err-left-clause-refused t c = exit_first c.args.input.now c.args.first.now c.args.first.now _ _ c.from_residual.ensures.1 refl c.in_err-left.ensures.refused

pub by_lists-returns-clause-refused : goal.by_lists-returns-clause-refused
by_lists-returns-clause-refused t c = λ p is. made_operands _ _ (c.in_ok-left.ensures.refused p is)

pub operand-returns-in-Generator-clause-ok : goal.operand-returns-in-Generator-clause-ok
operand-returns-in-Generator-clause-ok t c = rw c.in-Generator.is (λ stdin gives. c.generated.ensures.ok)

pub operand-returns-in-Generator-clause-err : goal.operand-returns-in-Generator-clause-err
operand-returns-in-Generator-clause-err t c = rw c.in-Generator.is (λ stdin gives. c.generated.ensures.err)

pub operand-returns-in-Generator-clause-left : goal.operand-returns-in-Generator-clause-left
operand-returns-in-Generator-clause-left t c = rw c.in-Generator.is (if_ok c.generated.result _ (none_read c.args.more c.args.input.now))

pub operand-returns-in-Generator-clause-refused : goal.operand-returns-in-Generator-clause-refused
operand-returns-in-Generator-clause-refused t c = rw c.in-Generator.is c.generated.ensures.refused

pub values_of-value_of_entry-requires : goal.values_of-value_of_entry-requires
values_of-value_of_entry-requires t c =
    let same = ap (λ (es : List EntryExpr). size_of_entries (entries_of (listed es))) c.in-Some.ensures.cases.0 in
    (omega (arith, same, c.loop-entry.invariant.2, c.decreases), tt)

pub values_of-loop-entry-preserved : goal.values_of-loop-entry-preserved
values_of-loop-entry-preserved t c =
    let taken = c.in-Some.ensures.cases.0 in
    let others = entries_of (listed c.in-Some.others.now) in
    let before = c.loop-entry.values.items in
    let value = c.in_ok-value.value in
    let left = c.in_ok-value.ensures.left in (
      λ stdin gives.
          ap (λ (es : List Entry). and_values es (values_of (stdin c.value_of_entry.new.input) others)) c.in_ok-push.ensures.items
          ∙ ap (and_values (before ++ value ∷ [])) (values_on c.args.more _ _ c.loop-entry.input _ stdin others refl left)
          ∙ one_more before value _ (values_of (stdin c.loop-entry.input) others) (c.in_ok-value.ensures.ok stdin gives)
          ∙ ap (λ (es : List EntryExpr). and_values before (values_of (stdin c.loop-entry.input) (entries_of (listed es)))) (sym taken)
          ∙ c.loop-entry.invariant.0 stdin gives,
      left_on c.args.more _ _ c.loop-entry.input _ (entries_have_stdin others) _ refl left refl
          ∙ ap (λ (es : List EntryExpr). left_after c.args.more (entries_have_stdin (entries_of (listed es))) c.loop-entry.input) (sym taken)
          ∙ c.loop-entry.invariant.1,
      omega (arith, ap (λ (es : List EntryExpr). size_of_entries (entries_of (listed es))) taken, c.loop-entry.invariant.2),
    )
