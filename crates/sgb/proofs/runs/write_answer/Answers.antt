use Rattle.std.proofs.Common.{rules, ap}
use Rattle.sgb_graph.specs.Vertices.{names_of}
use Rattle.sgb_file.specs.Saving.{text_of_graph}
use Rattle.sgb_requests.specs.declared.requests.Request.{Request}
use Rattle.sgb.specs.FlipAnswers.{flip_answer}
use Rattle.sgb.specs.Outcomes.{answer_from, answer_of, list_answer, names_answer, queen_moves, queen_title}
use Rattle.sgb.specs.Texts.{blocks, head}
use Rattle.sgb_values.specs.Values.{value_of}
use Rattle.sgb.proofs.CertainAnswers.{never}
use Rattle.sgb.proofs.StdinValues.{made_answered, plain_answered}
use Rattle.sgb.proofs.runs.write_answer.Goals as goal

pub returns-in-Names-clause-ended : goal.returns-in-Names-clause-ended
returns-in-Names-clause-ended g c =
    let a = c.in-Names in
    let (value, on, ended) = c.answer_names.ensures.ended in
    (answer_from value (λ h. names_answer (names_of h) a.resume), made_answered c.args.request.now a.expression c.args.input.items value _ (λ stdin. ap (λ (r : Request). answer_of r stdin) a.is) on, ended)

pub returns-in-List-clause-ended : goal.returns-in-List-clause-ended
returns-in-List-clause-ended g c =
    let a = c.in-List in
    let (value, on, ended) = c.answer_list.ensures.ended in
    (answer_from value (λ h. list_answer h a.resume), made_answered c.args.request.now a.expression c.args.input.items value _ (λ stdin. ap (λ (r : Request). answer_of r stdin) a.is) on, ended)

pub returns-in-Save-clause-ended : goal.returns-in-Save-clause-ended
returns-in-Save-clause-ended g c = search (rules, answer_from, text_of_graph, made_answered, answer_of)

pub returns-in-Queen-clause-ended : goal.returns-in-Queen-clause-ended
returns-in-Queen-clause-ended g c = search (rules, answer_from, value_of, queen_moves, queen_title, head, blocks, plain_answered, answer_of)

pub returns-in-Flip-clause-ended : goal.returns-in-Flip-clause-ended
returns-in-Flip-clause-ended g c = search (rules, flip_answer, plain_answered, answer_of)

pub returns-in-List-clause-certain : goal.returns-in-List-clause-certain
returns-in-List-clause-certain g c = λ needs. c.answer_list.ensures.certain (rw c.in-List.is at needs)

pub returns-in-Flip-clause-untouched : goal.returns-in-Flip-clause-untouched
returns-in-Flip-clause-untouched g c = never _ _ c.write_flip.ensures.certain
