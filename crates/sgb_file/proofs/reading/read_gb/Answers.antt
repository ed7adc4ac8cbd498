use Rattle.std.proofs.Common.{rules, Err, ap, inl, sym, ◌∙◌, true, false}
use Rattle.sgb_vec.specs.declared.panics.Panic.TheVariants.{Early}
use Rattle.sgb_file.specs.inner.ReadFiles.{graph_of_opening}
use Rattle.sgb_file.proofs.Endings.{graph_ended, graph_checked, graph_unread}
use Rattle.sgb_file.proofs.RefusedTexts.{early_of, opened_late, restored_value}
use Rattle.sgb_file.proofs.reading.read_gb.Goals as goal

pub returns-in_default-clause-read : goal.returns-in_default-clause-read
returns-in_default-clause-read c = restored_value c.args.bytes.now (Err Early) (inl (ap graph_of_opening (sym c.in_default.ensures.head)))

pub returns-in_err-parts-clause-read : goal.returns-in_err-parts-clause-read
returns-in_err-parts-clause-read c = search (rules, graph_unread, restored_value)

pub returns-then-not-closes-clause-read : goal.returns-then-not-closes-clause-read
returns-then-not-closes-clause-read c =
    restored_value c.args.bytes.now _ (inl (graph_ended c.args.bytes.now c.in-Some.head c.in-Some.lines c.read_records.new.lines c.in_ok-parts.parts false c.in-Some.ensures.head c.in-Some.ensures.begun c.in_ok-parts.ensures.found
    c.in_ok-parts.ensures.all (sym c.if-not-closes.true ∙ c.closes.ensures c.in-Some.head)))

pub returns-clause-read : goal.returns-clause-read
returns-clause-read c =
    let ended = graph_ended c.args.bytes.now c.in-Some.head c.in-Some.lines c.read_records.new.lines c.in_ok-parts.parts true c.in-Some.ensures.head c.in-Some.ensures.begun c.in_ok-parts.ensures.found
    c.in_ok-parts.ensures.all (sym c.if-not-closes.false ∙ c.closes.ensures c.in-Some.head) in
    restored_value c.args.bytes.now _ (graph_checked c.args.bytes.now c.in-Some.head c.in-Some.lines _ c.in_ok-parts.parts c.check.result c.in-Some.ensures.head c.in-Some.ensures.begun c.in_ok-parts.ensures.found ended c.check.ensures.value)

pub returns-in_err-parts-clause-early : goal.returns-in_err-parts-clause-early
returns-in_err-parts-clause-early c = λ none. absurd (opened_late c.args.bytes.now c.in-Some.head c.in-Some.lines.all c.in-Some.ensures.head (early_of c.args.bytes.now none))

pub returns-then-not-closes-clause-early : goal.returns-then-not-closes-clause-early
returns-then-not-closes-clause-early c = λ none. absurd (opened_late c.args.bytes.now c.in-Some.head c.in-Some.lines.all c.in-Some.ensures.head (early_of c.args.bytes.now none))

pub returns-clause-early : goal.returns-clause-early
returns-clause-early c = λ none. absurd (opened_late c.args.bytes.now c.in-Some.head c.in-Some.lines.all c.in-Some.ensures.head (early_of c.args.bytes.now none))
