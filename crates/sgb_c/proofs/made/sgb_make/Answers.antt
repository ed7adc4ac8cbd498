use Rattle.std.proofs.Common.{◌∙◌, ap, sym, Ok}
use Rattle.sgb_c.specs.Answers.{number_of}
use Rattle.sgb_c.proofs.MadeGraphs.{given_made, given_refused, put_built, put_left}
use Rattle.sgb_c.proofs.made.sgb_make.Goals as goal

pub returns-in-Ok-clause-made : goal.returns-in-Ok-clause-made
returns-in-Ok-clause-made c = given_made _ _ c.in-Ok.graph c.args.made.now.held.value c.put_graph.new.self.held.value c.put_graph.result c.in-Ok.ensures.fits c.in-Ok.ensures.made (sym c.is_open.ensures ∙ c.if-is_open.false) c.put_graph.ensures

pub returns-in-Ok-clause-left : goal.returns-in-Ok-clause-left
returns-in-Ok-clause-left c = put_left (Ok c.in-Ok.graph) c.args.made.now.held.value c.put_graph.new.self.held.value c.put_graph.result c.put_graph.ensures

pub returns-in-Ok-clause-built : goal.returns-in-Ok-clause-built
returns-in-Ok-clause-built c = put_built (Ok c.in-Ok.graph) c.args.made.now.held.value c.put_graph.new.self.held.value c.put_graph.result c.put_graph.ensures

pub returns-in-Err-clause-made : goal.returns-in-Err-clause-made
returns-in-Err-clause-made c = given_refused _ _ c.args.made.now.held.value c.number-in-Err.result c.in-Err.cause (sym c.is_open.ensures ∙ c.if-is_open.false) c.in-Err.ensures.refused (c.number-in-Err.ensures ∙ ap number_of c.from.ensures)
