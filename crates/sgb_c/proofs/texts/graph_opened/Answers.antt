use Rattle.sgb_c.proofs.Named.{listed_built, listed_other, listed_value}
use Rattle.sgb_c.proofs.texts.graph_opened.Goals as goal

pub returns-in-Generator-clause-value : goal.returns-in-Generator-clause-value
returns-in-Generator-clause-value c = listed_value c.args.input.now c.args.expression.now c.in-Generator.generator c.in-Generator.is c.listed.result c.listed.ensures.value

pub returns-in-Generator-clause-built : goal.returns-in-Generator-clause-built
returns-in-Generator-clause-built c = listed_built c.args.input.now c.args.expression.now c.in-Generator.generator c.in-Generator.is c.listed.result

pub returns-in-Generator-clause-other : goal.returns-in-Generator-clause-other
returns-in-Generator-clause-other c = listed_other c.args.input.now c.args.expression.now c.in-Generator.generator c.in-Generator.is c.listed.result c.listed.ensures.other
