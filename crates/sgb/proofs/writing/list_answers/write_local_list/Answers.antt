use Rattle.std.proofs.Common.{◌≡◌, Result, sym, subst}
use Rattle.sgb_graph.specs.Made.{graph_described}
use Rattle.sgb_gen.specs.Boards.{board_vector_graph}
use Rattle.sgb_gen.specs.Generators.{described}
use Rattle.sgb_gen.specs.VectorGraphs.{described_by}
use Rattle.sgb_gen.specs.declared.locals.Local.{Local}
use Rattle.sgb_gen.specs.declared.locals.Local.TheVariants as local
use Rattle.sgb_requests.specs.declared.faults.Fault.{Fault}
use Rattle.sgb_requests.specs.declared.requests.Resume.{Resume}
use Rattle.sgb.proofs.CertainAnswers.{other_sort}
use Rattle.sgb.specs.Outcomes.{list_answer}
use Rattle.sgb.specs.Writing.{Effect, IsEnded}
use Rattle.sgb.proofs.writing.list_answers.write_local_list.Goals as goal

-- what is said of a board is said of it as accepted parameters
ended_same : {T S : Type 0} (l m : Local) (resume : Resume) (out : Effect S) (r : Result T Fault) → l ≡ m
    → IsEnded (list_answer (graph_described (described m)) resume) out r → IsEnded (list_answer (graph_described (described l)) resume) out r
ended_same l m resume out r same ended = subst (λ a. IsEnded (list_answer (graph_described (described a)) resume) out r) (sym same) ended

pub returns-in-Board-clause-ended : goal.returns-in-Board-clause-ended
returns-in-Board-clause-ended g c = ended_same _ (local.Board c.in-Board.board) c.args.resume.now _ _ c.in-Board.is c.write_board_list.ensures.ended

pub returns-clause-untouched : goal.returns-clause-untouched
returns-clause-untouched g c = c.visit.ensures.4 (other_sort _ c.in_default.not-Board)
