use Rattle.std.proofs.Common.{Err, ap}
use Rattle.sgb_c.proofs.Named.{text_built, text_first, text_named, text_refused, unread_first, unread_large}
use Rattle.sgb_c.proofs.texts.graph_named.Goals as goal

pub returns-in-Ok-clause-named : goal.returns-in-Ok-clause-named
returns-in-Ok-clause-named c = text_named c.args.text.now c.args.input.now c.in-Ok.expression c.in-Ok.ensures.read c.graph_opened.result c.graph_opened.ensures.value

pub returns-in-Ok-clause-built : goal.returns-in-Ok-clause-built
returns-in-Ok-clause-built c = text_built c.args.text.now c.args.input.now c.in-Ok.expression c.in-Ok.ensures.read c.graph_opened.result c.graph_opened.ensures.built

pub returns-in-Ok-clause-refused : goal.returns-in-Ok-clause-refused
returns-in-Ok-clause-refused c = text_refused c.args.text.now c.args.input.now c.in-Ok.expression c.in-Ok.ensures.read c.graph_opened.result c.graph_opened.ensures.other

pub returns-in-Ok-clause-first : goal.returns-in-Ok-clause-first
returns-in-Ok-clause-first c =
    text_first c.args.text.now c.args.input.now c.in-Ok.expression c.in-Ok.ensures.read c.graph_opened.result c.in-Ok.ensures.only c.graph_opened.ensures.refused

pub returns-in-Ok-clause-large : goal.returns-in-Ok-clause-large
returns-in-Ok-clause-large c = λ large. absurd (c.in-Ok.ensures.read.0 large)

pub returns-in-Err-clause-large : goal.returns-in-Err-clause-large
returns-in-Err-clause-large c = λ large. unread_large c.in-Err.cause c.from.result c.from.ensures (c.in-Err.ensures.large large)

pub returns-in-Err-clause-first : goal.returns-in-Err-clause-first
returns-in-Err-clause-first c = unread_first c.args.text.now c.args.input.now c.in-Err.cause _ (ap Err c.from.ensures) c.in-Err.ensures.read
