use Rattle.sgb_vec.proofs.Common.{arith, rules, codes, length, length-append, List, ◌≡◌, ◌+◌, Ok, Some, None, sym, ◌∙◌, ap, subst, Decides-eqb, err_from_is_err_and}
use Rattle.std.proofs.lemmas.Slice.Eq.{strip_prefix_is}
use Rattle.sgb_expr.specs.Listed.{listed}
use Rattle.sgb_expr.specs.Expression.{entry_of, expression_of}
use Rattle.sgb_expr.specs.Expressions.{TakesMemory}
use Rattle.sgb_expr.specs.declared.entries.EntryExpr.{EntryExpr}
use Rattle.sgb_expr.specs.inner.Reading.{entry_at, expression_at}
use Rattle.sgb_expr.specs.inner.Gives.{Fails}
use Rattle.sgb_expr.specs.declared.wrong.Wrong.TheVariants.{Left}
use Rattle.sgb_text.proofs.Readers.{bind_of, bind_stops}
use Rattle.sgb_expr.proofs.EntryLists.{entries_end, entries_wrong, entry_kept, separator_counts}
use Rattle.sgb_expr.proofs.EntryReaders.{entry_no_longer}
use Rattle.sgb_text.proofs.Lengths.{fixed_takes}
use Rattle.sgb_expr.proofs.Nesting.{expression_no_longer, name_wrong, opening_shorter}
use Rattle.sgb_expr.proofs.TakenMemory.{entries_fail, fails_there, name_gives, second_fails, taken_bracket}
use Rattle.sgb_expr.proofs.operations.+expressions.Goals as goal

pub expression-returns-in_err-name : goal.expression-returns-in_err-name
expression-returns-in_err-name t c =
    let p = err_from_is_err_and c.from_residual.result c.from_residual.ensures.1 in
    rw (p.1, p.2) (name_wrong _ c.args.text.now c.in_err-name.ensures)

pub expression-arguments-requires : goal.expression-arguments-requires
expression-arguments-requires t c =
    let shorter = opening_shorter c.args.text.now c.in_ok-name.name c.in_ok-name.rest.now c.in_ok-name.ensures in
    (omega (arith, shorter, c.decreases), tt)

pub expression-returns : goal.expression-returns
expression-returns t c =
    name_gives (λ x. (expression_of x.0, x.1.now)) c.args.text.now c.in_ok-name.name c.in_ok-name.rest.now c.arguments.result c.in_ok-name.ensures c.arguments.ensures

pub two_graphs-expression-requires-2 : goal.two_graphs-expression-requires-2
two_graphs-expression-requires-2 t c =
    let first = expression_no_longer c.args.text.now (expression_of c.in_ok-first.first) c.in_ok-first.rest.now c.in_ok-first.ensures in
    let comma = fixed_takes (codes ",") c.in_ok-first.rest.now c.in_ok-begun.begun.now c.in_ok-begun.ensures in
    (omega (arith, first, comma, c.decreases), tt)

pub two_graphs-returns-in_err-second : goal.two_graphs-returns-in_err-second
two_graphs-returns-in_err-second t c =
    let p = err_from_is_err_and c.from_residual-in_err-second.result c.from_residual-in_err-second.ensures.1 in
    rw (p.1, p.2) (second_fails _ c.args.text.now _ _ _ c.in_ok-first.ensures c.in_ok-begun.ensures c.in_err-second.ensures)

pub induced-returns-in_err-entries : goal.induced-returns-in_err-entries
induced-returns-in_err-entries t c =
    let p = err_from_is_err_and c.from_residual-in_err-entries.result c.from_residual-in_err-entries.ensures.1 in
    rw (p.1, p.2) (entries_fail _ c.args.text.now _ _ _ c.in_ok-graph.ensures c.in_ok-begun.ensures c.in_err-entries.ensures)

pub induced-entry_list-requires : goal.induced-entry_list-requires
induced-entry_list-requires t c =
    let first = expression_no_longer c.args.text.now (expression_of c.in_ok-graph.graph) c.in_ok-graph.rest.now c.in_ok-graph.ensures in
    let comma = fixed_takes (codes ",") c.in_ok-graph.rest.now c.in_ok-begun.begun.now c.in_ok-begun.ensures in
    (omega (arith, first, comma, c.decreases), tt)

pub entry_list-returns-in-Some : goal.entry_list-returns-in-Some
entry_list-returns-in-Some t c =
    let ends = strip_prefix_is Decides-eqb c.entries.rest.now (codes "]") (Some c.in-Some.after) c.in-Some.ensures.cases in
    entries_end (listed c.entries.list.items) _ c.entries.rest.now c.in-Some.after.now _ ends c.entries.invariant.read
    ∙ ap (λ (es : List EntryExpr). Ok (listed es, c.in-Some.after.now)) (sym c.new.ensures)

pub entry_list-returns-in_err-begun : goal.entry_list-returns-in_err-begun
entry_list-returns-in_err-begun t c =
    let p = err_from_is_err_and c.from_residual-in_err-begun.result c.from_residual-in_err-begun.ensures.1 in
    let none = strip_prefix_is Decides-eqb c.entries.rest.now (codes "]") None c.in_default.ensures.cases in
    rw (p.1, p.2) (entries_wrong (TakesMemory c.args.text.now) (Left _) c.entries.list.items _ c.separator_before.result.now c.entries.rest.now _ none (search rules) c.separator_before.ensures
    (bind_stops _ (entry_at expression_at) _ c.in_err-begun.ensures) c.entries.invariant.read)

pub entry_list-returns-in_err-one : goal.entry_list-returns-in_err-one
entry_list-returns-in_err-one t c =
    let p = err_from_is_err_and c.from_residual-in_err-one.result c.from_residual-in_err-one.ensures.1 in
    let none = strip_prefix_is Decides-eqb c.entries.rest.now (codes "]") None c.in_default.ensures.cases in
    let bracket = taken_bracket c.args.text.now _ c.in_ok-rest.ensures in
    rw (p.1, p.2) (entries_wrong (TakesMemory c.args.text.now) c.in_err-one.field-0.0 c.entries.list.items _ c.separator_before.result.now c.entries.rest.now _ none (search rules) c.separator_before.ensures
    (subst (Fails (TakesMemory c.args.text.now) c.in_err-one.field-0.0) (sym (bind_of _ (entry_at expression_at) _ c.in_ok-begun.ensures))
    (fails_there (TakesMemory c.args.text.now) bracket c.in_err-one.field-0.0 _ c.in_err-one.ensures)) c.entries.invariant.read)

pub entry_list-returns-in_err-keep : goal.entry_list-returns-in_err-keep
entry_list-returns-in_err-keep t c =
    let p = err_from_is_err_and c.from_residual-in_err-keep.result c.from_residual-in_err-keep.ensures.1 in
    rw (p.1, p.2, c.in_err-keep.ensures.refused) (taken_bracket c.args.text.now _ c.in_ok-rest.ensures)

pub entry_list-entries-smaller : goal.entry_list-entries-smaller
entry_list-entries-smaller t c =
    let takes = fixed_takes c.separator_before.result.now c.entries.rest.now c.in_ok-begun.begun.now c.in_ok-begun.ensures in
    let within = entry_no_longer expression_at expression_no_longer c.in_ok-begun.begun.now (entry_of c.in_ok-one.one) c.in_ok-one.after.now c.in_ok-one.ensures in
    let place : c.len.result ≡ length c.entries.list.items = search rules in
    let counts = separator_counts c.len.result c.separator_before.result.now c.separator_before.ensures in
    let more : length c.keep.new.list.items ≡ length c.entries.list.items + 1 = ap length c.in_ok-keep.ensures.kept ∙ length-append c.entries.list.items _ in
    omega (arith, takes, within, place, counts, more)

pub entry_list-entries-preserved : goal.entry_list-entries-preserved
entry_list-entries-preserved t c =
    let takes = fixed_takes c.separator_before.result.now c.entries.rest.now c.in_ok-begun.begun.now c.in_ok-begun.ensures in
    let within = entry_no_longer expression_at expression_no_longer c.in_ok-begun.begun.now (entry_of c.in_ok-one.one) c.in_ok-one.after.now c.in_ok-one.ensures in
    let none = strip_prefix_is Decides-eqb c.entries.rest.now (codes "]") None c.in_default.ensures.cases in
    record {
      read = entry_kept c.entries.list.items c.keep.new.list.items c.in_ok-one.one c.len.result c.separator_before.result.now c.entries.rest.now c.in_ok-begun.begun.now c.in_ok-one.after.now _ none
          (search rules) c.in_ok-keep.ensures.kept c.separator_before.ensures c.in_ok-begun.ensures c.in_ok-one.ensures c.entries.invariant.read;
      shorter = omega (arith, takes, within, c.entries.invariant.shorter);
    }
