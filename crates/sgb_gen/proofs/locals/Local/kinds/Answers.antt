use Rattle.std.proofs.Common.{◌∙◌, sym}
use Rattle.sgb_gen.specs.Generators.{vector_graph_of}
use Rattle.sgb_gen.proofs.VectorVertices.{some_kinds, no_kinds_used}
use Rattle.sgb_gen.proofs.locals.Local.kinds.Goals as goal

pub returns-then-size-eq0 : goal.returns-then-size-eq0
returns-then-size-eq0 c = sym (no_kinds_used (vector_graph_of c.args.self.now) (sym c.size.ensures ∙ c.if-size-eq0.true))

pub returns : goal.returns
returns c = sym (some_kinds (vector_graph_of c.args.self.now) (λ none. c.if-size-eq0.false (c.size.ensures ∙ none)))
