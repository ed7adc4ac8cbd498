use Rattle.std.proofs.Common.{◌≡◌, ◌∙◌, List, ℕ, Result, ap, map, sym, subst}
use Rattle.sgb_vec.specs.Boxes.{box}
use Rattle.sgb_vec.specs.Names.{name_of_vector}
use Rattle.sgb_graph.specs.Made.{graph_described}
use Rattle.sgb_graph.specs.Vertices.{names_of}
use Rattle.sgb_gen.specs.Boards.{BoardData, board_vector_graph}
use Rattle.sgb_gen.specs.VectorGraphs.{described_by}
use Rattle.sgb_gen.proofs.VectorVertices.{named_by_vectors}
use Rattle.sgb.specs.Certain.{IsPast}
use Rattle.sgb.specs.Outcomes.{list_answer}
use Rattle.sgb.specs.Writing.{Effect, IsEnded}
use Rattle.sgb_requests.specs.declared.faults.Fault.{Fault}
use Rattle.sgb_requests.specs.declared.requests.Resume.{Resume}
use Rattle.sgb.proofs.CertainAnswers.{never}
use Rattle.sgb.proofs.Endings.{exit_ended, memory_at_once}
use Rattle.sgb.proofs.writing.list_answers.write_board_list.Goals as goal

-- the names of a board's vertices are those of its vectors
board_names : (b : BoardData) (sizes : List ℕ) → sizes ≡ b.sizes → names_of (graph_described (described_by (board_vector_graph b))) ≡ map name_of_vector (box sizes)
board_names b sizes same = named_by_vectors (board_vector_graph b) ∙ ap (λ ns. map name_of_vector (box ns)) (sym same)

-- what is said of the same board is said of this one
ended_same : {T S : Type 0} (b d : BoardData) (resume : Resume) (out : Effect S) (r : Result T Fault) → d ≡ b
    → IsEnded (list_answer (graph_described (described_by (board_vector_graph d))) resume) out r → IsEnded (list_answer (graph_described (described_by (board_vector_graph b))) resume) out r
ended_same b d resume out r same ended = subst (λ a. IsEnded (list_answer (graph_described (described_by (board_vector_graph a))) resume) out r) same ended

-- past all vertices nothing is out of memory
pub returns-then-is_past-clause-untouched : goal.returns-then-is_past-clause-untouched
returns-then-is_past-clause-untouched g c =
    let (ended, past, subsets, simplex, other) = c.visit.ensures in
    let names = board_names c.args.board.now c.family.result.now c.family.ensures in
    never _ _ (past (subst (λ d. IsPast (names_of (graph_described (described_by (board_vector_graph d)))) c.args.resume.now) (sym c.new-lists.ensures)
    (subst (λ ns. IsPast ns c.args.resume.now) (sym names) c.if-is_past.ensures.past)))

pub returns-then-is_past-clause-ended : goal.returns-then-is_past-clause-ended
returns-then-is_past-clause-ended g c =
    let (ended, past, subsets, simplex, other) = c.visit.ensures in
    ended_same _ _ c.args.resume.now _ _ c.new-lists.ensures ended

-- out of memory for the table
pub returns-in_err-ordered-clause-ended : goal.returns-in_err-ordered-clause-ended
returns-in_err-ordered-clause-ended g c =
    let none = c.in_err-ordered.ensures.memory in
    exit_ended _ _ _ _ c.from_residual.ensures.1 (rw none (memory_at_once _ _ c.args.out.now _ _ c.requires))

pub returns-in_err-ordered-clause-past : goal.returns-in_err-ordered-clause-past
returns-in_err-ordered-clause-past g c = λ past.
    let names = board_names c.args.board.now c.family.result.now c.family.ensures in
    absurd (c.if-is_past.ensures.before (subst (λ ns. IsPast ns c.args.resume.now) names past))

pub returns-clause-ended : goal.returns-clause-ended
returns-clause-ended g c =
    let (ended, past, subsets, simplex, other) = c.visit-2.ensures in
    ended_same _ _ c.args.resume.now _ _ c.in_ok-ordered.ensures.board ended
