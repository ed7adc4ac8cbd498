use Rattle.std.proofs.Common.{refl}
use Rattle.sgb_file.specs.inner.SavedLines.{graph_texts}
use Rattle.sgb_file.proofs.LaidLines.{laid-after, laid-append, stopped-first, stopped-after, stopped-on}
use Rattle.sgb_file.proofs.RecordLines.{record-cut, record-laid}
use Rattle.sgb_file.proofs.saving.put_records.Goals as goal

pub returns-in_err-put_graph : goal.returns-in_err-put_graph
returns-in_err-put_graph g c =
    stopped-on _ _ c.from_residual.result c.from_residual.ensures.1 (stopped-first _ _ _ _ _ refl (stopped-first _ _ _ _ _ refl (record-cut (graph_texts c.args.graph.now) _ _ c.requires.line c.in_err-put_graph.ensures)))

pub returns-in_err-put_section : goal.returns-in_err-put_section
returns-in_err-put_section g c =
    stopped-on _ _ c.from_residual-in_err-put_section.result c.from_residual-in_err-put_section.ensures.1 (stopped-first _ _ _ _ _ refl (stopped-after _ _ _ _ _ _ refl (record-laid (graph_texts c.args.graph.now) _ _ c.requires.line c.in_ok-put_graph.ensures.0) c.in_err-put_section.ensures))

pub returns : goal.returns
returns g c =
    laid-after _ _ _ _ _ _ _ _ refl (laid-append _ _ _ _ _ (record-laid (graph_texts c.args.graph.now) _ _ c.requires.line c.in_ok-put_graph.ensures.0) c.in_ok-put_section.ensures.0) c.put_section-2.ensures
