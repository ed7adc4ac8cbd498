use Rattle.sgb_c.proofs.Named.{boxed_built, boxed_named, boxed_refused, either_kept, not_refused, refusal_kept}
use Rattle.sgb_c.proofs.texts.held_graph.Goals as goal

pub returns-in-Ok-clause-held : goal.returns-in-Ok-clause-held
returns-in-Ok-clause-held c = boxed_named (λ h. h.value.graph) c.args.text.now c.args.input.now c.in-Ok.graph c.boxed.result c.boxed.ensures.graph c.in-Ok.ensures.named

pub returns-in-Ok-clause-built : goal.returns-in-Ok-clause-built
returns-in-Ok-clause-built c = boxed_built (λ h. h.value.graph) c.args.text.now c.args.input.now c.in-Ok.graph c.boxed.result c.boxed.ensures.graph c.in-Ok.ensures.built

pub returns-in-Ok-clause-refused : goal.returns-in-Ok-clause-refused
returns-in-Ok-clause-refused c = boxed_refused (λ h. h.value.graph) c.args.text.now c.args.input.now c.in-Ok.graph c.boxed.result c.boxed.ensures.memory c.in-Ok.ensures.named

pub returns-in-Ok-clause-first : goal.returns-in-Ok-clause-first
returns-in-Ok-clause-first c = λ e p is small first. not_refused c.in-Ok.graph _ _ (c.in-Ok.ensures.first e p is small first)

pub returns-in-Err-clause-large : goal.returns-in-Err-clause-large
returns-in-Err-clause-large c = λ large. refusal_kept c.in-Err.answer _ (c.in-Err.ensures.large large)

pub returns-in-Err-clause-first : goal.returns-in-Err-clause-first
returns-in-Err-clause-first c = λ e p is small first. either_kept c.in-Err.answer _ _ (c.in-Err.ensures.first e p is small first)
