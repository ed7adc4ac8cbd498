use Rattle.sgb_gen.specs.Generators.{generator_value, made}
use Rattle.sgb_values.proofs.StdinValues.{generated_on}
use Rattle.sgb.proofs.CertainAnswers.{at_once_other, at_once_unmade, exit_panic, exit_untouched, listing_of_generator, listing_of_graph, never}
use Rattle.sgb.proofs.Endings.{ended_value, refused_value}
use Rattle.sgb.proofs.runs.answer_list.Goals as goal

pub returns-in_err-graph-clause-ended : goal.returns-in_err-graph-clause-ended
returns-in_err-graph-clause-ended g c =
    let (value, on, is) = c.in_err-graph.ensures.value in
    (value, on, refused_value _ _ _ _ _ _ _ c.from_residual.ensures.1 is c.requires)

pub returns-clause-ended : goal.returns-clause-ended
returns-clause-ended g c =
    let (value, on, is) = c.in_ok-graph.ensures.value in
    (value, on, ended_value _ c.in_ok-graph.graph _ _ _ is c.write_listing.ensures.ended)

pub returns-in-Generator-clause-ended : goal.returns-in-Generator-clause-ended
returns-in-Generator-clause-ended g c =
    (made (generator_value c.in-Generator.generator), generated_on c.args.input.items c.args.expression.now c.in-Generator.generator c.in-Generator.is, c.answer_generator_list.ensures.ended)

pub returns-in-Generator-clause-certain : goal.returns-in-Generator-clause-certain
returns-in-Generator-clause-certain g c = λ needs. c.answer_generator_list.ensures.certain (listing_of_generator _ _ _ c.in-Generator.is needs)

pub returns-in_err-graph-clause-certain : goal.returns-in_err-graph-clause-certain
returns-in_err-graph-clause-certain g c = λ needs.
    exit_panic _ _ c.from_residual.ensures.1 (at_once_other c.args.input.items c.args.expression.now _ c.in_err-graph.ensures.refused
    (listing_of_graph c.args.expression.now c.args.resume.now c.in_default.not-Generator needs))

pub returns-clause-certain : goal.returns-clause-certain
returns-clause-certain g c = λ needs.
    at_once_unmade c.args.input.items c.args.expression.now _ _ c.in_ok-graph.ensures.refused (listing_of_graph c.args.expression.now c.args.resume.now c.in_default.not-Generator needs)

pub returns-in_err-graph-clause-untouched : goal.returns-in_err-graph-clause-untouched
returns-in_err-graph-clause-untouched g c = exit_untouched _ _

pub returns-clause-untouched : goal.returns-clause-untouched
returns-clause-untouched g c = never _ _ c.write_listing.ensures.certain
