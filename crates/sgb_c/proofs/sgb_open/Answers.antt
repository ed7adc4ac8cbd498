use Rattle.std.proofs.Common.{◌∙◌, ap, subst, sym}
use Rattle.std.specs.Option.{option_map}
use Rattle.std.specs.Prelude.{IsSomeAnd}
use Rattle.sgb_arrays.specs.OpenGraphs.{IsListed, graph_open}
use Rattle.sgb_c.proofs.Named.{either_told, no_refusal, none_listed, not_refused, open_some, opened, refusal_told, unopened}
use Rattle.sgb_c.proofs.sgb_open.Goals as goal

pub returns-in-Ok-clause-opened : goal.returns-in-Ok-clause-opened
returns-in-Ok-clause-opened c =
    opened (λ h. graph_open h.graph) c.args.text.now c.args.input.now c.args.graph.now.held.value _ (graph_open c.in-Ok.held.value.graph) _ (sym c.is_open.ensures ∙ c.if-is_open.false) c.number-in-Ok.ensures c.in-Ok.ensures.held (ap (option_map (λ h. graph_open h.graph)) c.put.ensures)

pub returns-in-Err-clause-opened : goal.returns-in-Err-clause-opened
returns-in-Err-clause-opened c =
    unopened (λ h. graph_open h.graph) c.args.text.now c.args.input.now c.args.graph.now.held.value c.in-Err.answer _ (sym c.is_open.ensures ∙ c.if-is_open.false) c.number-in-Err.ensures c.in-Err.ensures.refused

pub returns-then-is_open-clause-built : goal.returns-then-is_open-clause-built
returns-then-is_open-clause-built c = λ none. open_some (λ h. graph_open h.graph) c.args.graph.now.held.value (sym c.is_open.ensures ∙ c.if-is_open.true) none

pub returns-then-is_open-clause-large : goal.returns-then-is_open-clause-large
returns-then-is_open-clause-large c = λ none. open_some (λ h. graph_open h.graph) c.args.graph.now.held.value (sym c.is_open.ensures ∙ c.if-is_open.true) none

pub returns-then-is_open-clause-first : goal.returns-then-is_open-clause-first
returns-then-is_open-clause-first c = λ e p none. open_some (λ h. graph_open h.graph) c.args.graph.now.held.value (sym c.is_open.ensures ∙ c.if-is_open.true) none

pub returns-in-Ok-clause-built : goal.returns-in-Ok-clause-built
returns-in-Ok-clause-built c = λ none listed. c.in-Ok.ensures.built (subst (λ v. IsSomeAnd v (λ h. IsListed h.graph)) c.put.ensures listed)

pub returns-in-Ok-clause-large : goal.returns-in-Ok-clause-large
returns-in-Ok-clause-large c = λ none large. no_refusal c.in-Ok.held _ (c.in-Ok.ensures.large large)

pub returns-in-Ok-clause-first : goal.returns-in-Ok-clause-first
returns-in-Ok-clause-first c = λ e p none is small first. not_refused c.in-Ok.held _ _ (c.in-Ok.ensures.first e p is small first)

pub returns-in-Err-clause-built : goal.returns-in-Err-clause-built
returns-in-Err-clause-built c = λ none listed. none_listed (λ h. h.graph) c.args.graph.now.held.value none listed

pub returns-in-Err-clause-large : goal.returns-in-Err-clause-large
returns-in-Err-clause-large c = λ none large. refusal_told c.in-Err.answer _ _ c.number-in-Err.ensures (c.in-Err.ensures.large large)

pub returns-in-Err-clause-first : goal.returns-in-Err-clause-first
returns-in-Err-clause-first c = λ e p none is small first. either_told c.in-Err.answer _ _ _ c.number-in-Err.ensures (c.in-Err.ensures.first e p is small first)
