use Rattle.std.proofs.Common.{◌≡◌, ◌∙◌, ◌++◌, ap, length, sym}
use Rattle.sgb.specs.inner.Texts.{count_text, title_text}
use Rattle.sgb.proofs.CertainAnswers.{told_or_unput, write_alone}
use Rattle.sgb.proofs.CutOff.{cut_more, exit_cut, exit_kept, exit_unwritten, exit_write}
use Rattle.sgb.proofs.LocalListings.{head_in_parts}
use Rattle.sgb.proofs.Pages.{written_parts}
use Rattle.sgb.proofs.writing.families.put_head.Goals as goal

pub returns-in_err-put_title-clause-written : goal.returns-in_err-put_title-clause-written
returns-in_err-put_title-clause-written g c =
    let parts = head_in_parts (g.L.Listed.graph c.args.listed.now) c.id.result c.size.result c.id.ensures (c.size.ensures ∙ ap length c.family.ensures.members) in
    rw parts (exit_cut _ _ _ _ c.from_residual.ensures.1 (cut_more _ _ _ _ c.in_err-put_title.ensures.paged))

pub returns-in_err-put_title-clause-subsets : goal.returns-in_err-put_title-clause-subsets
returns-in_err-put_title-clause-subsets g c = λ same. exit_write _ _ c.from_residual.ensures.1 c.in_err-put_title.ensures.fault

pub returns-in_err-put_title-clause-simplex : goal.returns-in_err-put_title-clause-simplex
returns-in_err-put_title-clause-simplex g c = λ same. write_alone _ _ (exit_write _ _ c.from_residual.ensures.1 c.in_err-put_title.ensures.fault)

pub returns-in_err-put_title-clause-untouched : goal.returns-in_err-put_title-clause-untouched
returns-in_err-put_title-clause-untouched g c = write_alone _ _ (exit_write _ _ c.from_residual.ensures.1 c.in_err-put_title.ensures.fault)

-- where the count is refused nothing was put before
pub returns-in_err-m-clause-written : goal.returns-in_err-m-clause-written
returns-in_err-m-clause-written g c =
    let same : c.put_title.new.out ≡ c.args.out.now = told_or_unput c.has_countable_arcs-is_told.result (g.L.Listed.sort c.args.listed.now) _ c.in_err-m.ensures.board
    c.has_countable_arcs-is_told.ensures.board c.has_countable_arcs-is_told.ensures.simplex c.in_err-m.ensures.subsets c.put_title.ensures.later in
    rw same (exit_unwritten _ _ _ _ _ c.from_residual-in_err-m.ensures.1 c.in_err-m.ensures.memory c.requires.sound)

pub returns-clause-written : goal.returns-clause-written
returns-clause-written g c =
    let parts = head_in_parts (g.L.Listed.graph c.args.listed.now) c.id.result c.size.result c.id.ensures (c.size.ensures ∙ ap length c.family.ensures.members) in
    let all = ap (λ m. title_text c.id.result c.size.result ++ count_text m) (sym c.in_ok-m.ensures.count) in
    rw parts (written_parts _ _ _ _ _ _ _ _ _ _ all c.in_ok-put_title.ensures.paged.output c.push_arcs_count.ensures c.put_page.ensures.written)
