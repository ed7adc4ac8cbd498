-- Answers of requests on small graphs, worked out by hand, and what they are made of.
use Rattle.std.proofs.Common.{◌≡◌, ◌≤◌, ℕ, zero, suc, ℤ, pos, negsuc, true, false, List, [], ◌∷◌, ◌++◌, take, Some, None, Ok, Err, map, codes, refl, inl, inr, Result, arith}
use Rattle.std.specs.Fmt.{digits}
use Rattle.std.specs.Result.{result_map_both}
use Rattle.sgb_vec.specs.Boxes.{box}
use Rattle.sgb_vec.specs.Names.{name_of_vector}
use Rattle.sgb_vec.specs.Sizes.{repeated}
use Rattle.sgb_vec.specs.Sums.{bounded_sums, has_great_count}
use Rattle.sgb_vec.specs.declared.panics.Panic.{Panic}
use Rattle.sgb_vec.specs.declared.panics.Panic.TheVariants.{Bad, VeryBad, Early}
use Rattle.sgb_graph.specs.Events.{list_from}
use Rattle.sgb_graph.specs.Graphs.{GraphData, arc_record, numbers_from}
use Rattle.sgb_graph.specs.Ids.{double_compound_id}
use Rattle.sgb_graph.specs.Made.{graph_described}
use Rattle.sgb_gen.specs.Boards.{board_id}
use Rattle.sgb_moves.specs.Displacements.{displacements, vectors_of_norm}
use Rattle.sgb_moves.specs.Moves.{board_moves}
use Rattle.sgb_gen.specs.Simplexes.{simplex_id, moves_of_simplex}
use Rattle.sgb_gen.specs.VectorGraphs.{family_graph}
use Rattle.sgb_ops.specs.Merged.{merged}
use Rattle.sgb_taken.specs.Taken.{each_edge_once}
use Rattle.sgb_file.proofs.Examples.GraphFiles.{one_cell}
use Rattle.sgb_expr.specs.Expression.{Stdin}
use Rattle.sgb_expr.specs.declared.expressions.Expr.{Expr}
use Rattle.sgb_expr.specs.declared.expressions.Expr.TheVariants as expr
use Rattle.sgb_gen.specs.declared.params.Generator.{Generator}
use Rattle.sgb_gen.specs.declared.params.Generator.TheVariants as generator
use Rattle.sgb_gen.specs.Generators.{vectors_of}
use Rattle.sgb.specs.Certain.{IsPast}
use Rattle.sgb.specs.Locals.{family_text, left_out_after}
use Rattle.sgb.specs.Outcomes.{answer_of, left_out, moves_of, outcome_of, queen_moves, reads_input}
use Rattle.sgb_requests.specs.Faults.{fault_line}
use Rattle.sgb.specs.Texts.{arc_line, block, blocks, head_text, name_lines}
use Rattle.sgb_gen.specs.Generators.{described}
use Rattle.sgb_gen.specs.declared.locals.Local.{Local}
use Rattle.sgb_gen.specs.declared.locals.Local.TheVariants as local
use Rattle.sgb_requests.specs.declared.faults.Fault.{Fault}
use Rattle.sgb_requests.specs.declared.faults.Fault.TheVariants as fault
use Rattle.sgb_requests.specs.declared.requests.Request.TheVariants as request
use Rattle.sgb_requests.specs.declared.requests.Resume.TheVariants as resume
use Rattle.sgb_graph.specs.Draws.{back_to_first, plain_draws, seed_of, uniform_draws, y_number}
use Rattle.sgb.specs.FlipAnswers.{accepted_draws, flip_answer, number_lines}

-- board(n1,n2,0,0,piece,0,0)
abbrev squares : ℤ → ℤ → ℤ → Generator
squares n1 n2 piece = generator.Board (record { n1 = n1; n2 = n2; n3 = pos 0; n4 = pos 0; piece = piece; wrap = pos 0; directed = false })

-- board(2,2,0,0,1,0,0): four squares in a ring
abbrev ring : Expr
ring = expr.Generator (squares (pos 2) (pos 2) (pos 1))

-- its blocks: of each square the later edge, along the first side, comes first
abbrev first_blocks : List ℕ
first_blocks = codes "0.0\n  -> 1.0, length 1\n  -> 0.1, length 1\n0.1\n  -> 1.1, length 1\n  -> 0.0, length 1\n"

abbrev last_blocks : List ℕ
last_blocks = codes "1.0\n  -> 0.0, length 1\n  -> 1.1, length 1\n1.1\n  -> 0.1, length 1\n  -> 1.0, length 1\n"

abbrev ring_head : List ℕ
ring_head = codes "  The graph whose official name is\nboard(2,2,0,0,1,0,0)\n  has 4 vertices and 8 arcs:\n\n"

-- ---- answers

pub ring_listed : answer_of (request.List ring resume.Whole) (Err Early) ≡ Ok (ring_head ++ (first_blocks ++ last_blocks))
unfolding box repeated digits name_of_vector displacements vectors_of_norm board_moves board_id family_graph list_from numbers_from blocks block arc_line head_text
ring_listed = refl

-- resumed after a name or a number of vertices: the blocks from there, without the head
pub ring_resumed :
    (answer_of (request.List ring (resume.After (codes "0.1"))) (Err Early) ≡ Ok last_blocks)
    × (answer_of (request.List ring (resume.Skip 2)) (Err Early) ≡ Ok last_blocks)
    × (answer_of (request.List ring (resume.Skip 5)) (Err Early) ≡ Ok [])
unfolding box repeated digits name_of_vector displacements vectors_of_norm board_moves board_id family_graph list_from numbers_from blocks block arc_line head_text
ring_resumed = (refl, refl, refl)

-- names, from the first one and after one; a name that no vertex has
pub ring_names :
    (answer_of (request.Names ring resume.Whole) (Err Early) ≡ Ok (codes "0.0\n0.1\n1.0\n1.1\n"))
    × (answer_of (request.Names ring (resume.After (codes "1.0"))) (Err Early) ≡ Ok (codes "1.1\n"))
    × (answer_of (request.Names ring (resume.After (codes "01.0"))) (Err Early) ≡ Err fault.NoVertex)
unfolding box repeated digits name_of_vector displacements vectors_of_norm board_moves board_id family_graph list_from name_lines
ring_names = (refl, refl, refl)

-- of two vertices of one name it is after the first
pub same_names : left_out (codes "b" ∷ codes "a" ∷ codes "a" ∷ []) (resume.After (codes "a")) ≡ Ok 2
same_names = refl

-- one is not two or more
not_both : (k : ℕ) → ◌≡◌ {A = Result ℕ Fault} (Ok 1) (Ok k) → 2 ≤ k → ⊥
not_both (zero) e all = absurd cc
not_both (suc zero) e all = absurd (omega (arith, all))
not_both (suc (suc k)) e all = absurd cc

-- an answer about vertices of the names a and b is past them after b, after two, and after a name that none has
pub past :
    IsPast (codes "a" ∷ codes "b" ∷ []) (resume.After (codes "b"))
    × IsPast (codes "a" ∷ codes "b" ∷ []) (resume.Skip 2)
    × IsPast (codes "a" ∷ codes "b" ∷ []) (resume.After (codes "c"))
past = (inr (λ e. absurd cc, (2, refl, omega arith)), inr (λ e. absurd cc, (2, refl, omega arith)), inl refl)

-- not so after a, after one, or from the start, where no vertex is too
pub before_last : IsPast (codes "a" ∷ codes "b" ∷ []) (resume.After (codes "a")) → ⊥
before_last (inl e) = absurd cc
before_last (inr (other, (k, is, all))) = absurd (not_both k is all)

pub one_left : IsPast (codes "a" ∷ codes "b" ∷ []) (resume.Skip 1) → ⊥
one_left (inl e) = absurd cc
one_left (inr (other, (k, is, all))) = absurd (not_both k is all)

pub none_left : IsPast [] resume.Whole → ⊥
none_left (inl e) = absurd cc
none_left (inr (other, left)) = absurd (other refl)

-- simplex(1,1,1,0,0,0,1): one arc, to the vector that has the unit at the first place
pub unit_listed : answer_of (request.List (expr.Generator (generator.Simplex (record { n = pos 1; n0 = pos 1; n1 = pos 1; n2 = pos 0; n3 = pos 0; n4 = pos 0; directed = true }))) resume.Whole) (Err Early)
    ≡ Ok (codes "  The graph whose official name is\nsimplex(1,1,1,0,0,0,1)\n  has 2 vertices and 1 arcs:\n\n0.1\n  -> 1.0, length 1\n1.0\n")
unfolding box repeated digits name_of_vector bounded_sums has_great_count list_from simplex_id moves_of_simplex family_graph numbers_from blocks block arc_line head_text
unit_listed = refl

-- a graph that is refused
pub great_piece : answer_of (request.Save (expr.Generator (squares (pos 2) (pos 2) (pos 1_000_000_000_000)))) (Err Early) ≡ Err (fault.Panic VeryBad)
unfolding repeated
great_piece = refl

-- ---- standard input

-- answers where it is the file of board(1,0,0,0,1,0,0), and where it is no file
pub stdin_read :
    (answer_of (request.List expr.Stdin resume.Whole) (Ok one_cell)
    ≡ Ok (codes "  The graph whose official name is\nboard(1,0,0,0,1,0,0)\n  has 1 vertices and 0 arcs:\n\n0\n"))
    × (answer_of (request.Names expr.Stdin resume.Whole) (Err Early) ≡ Err (fault.Panic Early))
unfolding digits numbers_from blocks block arc_line head_text
stdin_read = (refl, refl)

-- the arcs of the head are those that the graph counts, and not its records: a file may have records on no list
abbrev seven_counted : GraphData
seven_counted = record one_cell { m = 7; records = arc_record 0 None (pos 1) ∷ [] }

pub count_listed : answer_of (request.List expr.Stdin resume.Whole) (Ok seven_counted)
    ≡ Ok (codes "  The graph whose official name is\nboard(1,0,0,0,1,0,0)\n  has 1 vertices and 7 arcs:\n\n0\n")
unfolding digits numbers_from blocks block arc_line head_text
count_listed = refl

-- ---- queens, what is seen of an answer, and what reads standard input

-- the board of rooks, and that of bishops
pub queen_boards : moves_of (negsuc 0) ∷ moves_of (negsuc 1) ∷ [] ≡ squares (pos 3) (pos 4) (negsuc 0) ∷ squares (pos 3) (pos 4) (negsuc 1) ∷ []
queen_boards = refl

pub queens : result_map_both (λ text. take 167 text) (λ f. f) (answer_of request.Queen (Err Early))
    ≡ Ok (codes "Queen Moves on a 3x4 Board\n\n  The graph whose official name is\ngunion(board(3,4,0,0,-1,0,0),board(3,4,0,0,-2,0,0),0,0)\n  has 12 vertices and 92 arcs:\n\n0.0\n  -> 1.1, le")
unfolding box repeated digits name_of_vector displacements vectors_of_norm board_moves board_id family_graph numbers_from list_from each_edge_once merged double_compound_id blocks block arc_line head_text queen_moves
queens = refl

pub seen :
    (outcome_of (Ok (codes "0\n")) ≡ record { output = codes "0\n"; line = []; status = 0 })
    × (outcome_of (Err fault.NoVertex) ≡ record { output = []; line = codes "sgb: no such vertex\n"; status = 1 })
unfolding fault_line
seen = (refl, refl)

pub input_read :
    map reads_input (request.Names expr.Stdin resume.Whole ∷ request.List expr.Stdin resume.Whole ∷ request.Save expr.Stdin ∷ [])
    ++ map reads_input (request.Names ring resume.Whole ∷ request.List ring resume.Whole ∷ request.Save ring ∷ request.Queen ∷ [])
    ≡ true ∷ true ∷ true ∷ false ∷ false ∷ false ∷ false ∷ []
input_read = refl

-- ---- a generator's listing

abbrev local_ring : Local
local_ring = local.Board (record { params = pos 2 ∷ pos 2 ∷ pos 0 ∷ pos 0 ∷ []; sizes = 2 ∷ 2 ∷ []; piece = pos 1; wrap = pos 0; directed = false })

pub ring_of_family :
    (left_out_after (vectors_of local_ring) (Some (0 ∷ 1 ∷ [])) ∷ left_out_after (vectors_of local_ring) None ∷ [] ≡ 2 ∷ 0 ∷ [])
    × (family_text (graph_described (described local_ring)) false 2 ≡ last_blocks)
    × (family_text (graph_described (described local_ring)) true 2 ≡ ring_head ++ last_blocks)
unfolding box repeated digits name_of_vector displacements vectors_of_norm board_moves board_id family_graph list_from numbers_from blocks block arc_line head_text
ring_of_family = (refl, refl, refl)

-- ---- flips, with values from GB_FLIP's own test and from a program of its rules

-- the line of the first draw from -314159
pub first_draw : number_lines (plain_draws (seed_of (negsuc 314158)) 0 1) ≡ codes "119318998\n"
unfolding y_number back_to_first plain_draws number_lines digits
first_draw = refl

-- two plain draws after one that is skipped
pub next_draws : flip_answer (record { start = pos 7; skip = pos 1; count = pos 2; m = pos 0 }) ≡ Ok (codes "719591340\n1610774012\n")
unfolding y_number back_to_first plain_draws number_lines digits
next_draws = refl

-- uniform draws below 298 after one that is skipped: those of 14658512 and 1621579914; 2147483615 between them is
-- thrown away
pub after_one : flip_answer (record { start = pos 4190154; skip = pos 1; count = pos 2; m = pos 298 }) ≡ Ok (codes "190\n100\n")
unfolding y_number back_to_first uniform_draws number_lines digits
after_one = refl

-- below 1
pub below_one : flip_answer (record { start = pos 7; skip = pos 0; count = pos 2; m = pos 1 }) ≡ Ok (codes "0\n0\n")
unfolding y_number back_to_first uniform_draws number_lines digits
below_one = refl

-- no number
pub none : flip_answer (record { start = pos 1; skip = pos 5; count = pos 0; m = pos 0 }) ≡ Ok []
unfolding plain_draws number_lines
none = refl

-- the greatest numbers that are taken: 1,000,000,000 draws to skip and as many to write, and a bound of 2^31
pub greatest :
    accepted_draws (record { start = negsuc 0; skip = pos 1_000_000_000; count = pos 1_000_000_000; m = pos 2_147_483_648 })
    ≡ Ok (record { start = negsuc 0; skip = 1_000_000_000; count = 1_000_000_000; m = 2_147_483_648 })
greatest = refl

-- outside the ranges
pub out_of_range :
    (flip_answer (record { start = pos 1; skip = negsuc 0; count = pos 1; m = pos 0 }) ≡ Err (fault.Panic Bad))
    × (flip_answer (record { start = pos 1; skip = pos 1_000_000_001; count = pos 0; m = pos 0 }) ≡ Err (fault.Panic Bad))
    × (flip_answer (record { start = pos 1; skip = pos 0; count = negsuc 0; m = pos 0 }) ≡ Err (fault.Panic Bad))
    × (flip_answer (record { start = pos 1; skip = pos 0; count = pos 1_000_000_001; m = pos 0 }) ≡ Err (fault.Panic Bad))
    × (flip_answer (record { start = pos 1; skip = pos 0; count = pos 1; m = negsuc 0 }) ≡ Err (fault.Panic Bad))
    × (flip_answer (record { start = pos 1; skip = pos 0; count = pos 1; m = pos 2_147_483_649 }) ≡ Err (fault.Panic Bad))
out_of_range = (refl, refl, refl, refl, refl, refl)
