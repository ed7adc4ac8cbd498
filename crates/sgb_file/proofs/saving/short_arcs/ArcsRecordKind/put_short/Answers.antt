use Rattle.sgb_file.specs.inner.SavedLines.{arc_texts}
use Rattle.sgb_file.proofs.RecordLines.{next-laid}
use Rattle.sgb_file.proofs.saving.short_arcs.ArcsRecordKind.put_short.Goals as goal

pub returns-clause-laid : goal.returns-clause-laid
returns-clause-laid c =
    next-laid (λ r. arc_texts r) c.args.graph.now.records c.args.k _ _ _ c.requires.within c.arc_rec.ensures
    (rw c.in-Some.ensures.texts c.put_arc.ensures.laid)
