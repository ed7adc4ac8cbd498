-- The graphs of boards [GB_BASIC, board].
use Rattle.std.specs.Prelude.{◌==◌, ℕ, ℤ, pos, nat_abs, nat_lt, Bool, List, [], ◌∷◌, ◌++◌, length, map, Result, Ok, Err, codes, if◌then◌else◌}
use Rattle.std.specs.Fmt.{signed_decimal}
use Rattle.sgb_vec.specs.Boxes.{box, box_of}
use Rattle.sgb_vec.specs.Results.{and_then}
use Rattle.sgb_vec.specs.Sizes.{board_of}
use Rattle.sgb_vec.specs.declared.panics.Panic.{Panic}
use Rattle.sgb_vec.specs.declared.panics.Panic.TheVariants.{VeryBad}
use Rattle.sgb_graph.specs.Descriptions.{Description}
use Rattle.sgb_graph.specs.IdTexts.{flag_text}
use Rattle.sgb_gen.specs.declared.params.BoardParams.{BoardParams}
use Rattle.sgb_moves.specs.Limits.{most_piece}
use Rattle.sgb_moves.specs.VectorMoves.{Move}
use Rattle.sgb_gen.specs.VectorGraphs.{VectorGraph, call_text, described_by}
use Rattle.sgb_moves.specs.Moves.{sides_of, board_moves}

-- an accepted board: n1 to n4 as its official name has them, their sizes, the piece, which is not 0, wrap and the flag
pub record BoardData : Type 0 where
  pub params : List ℤ
  pub sizes : List ℕ
  pub piece : ℤ
  pub wrap : ℤ
  pub directed : Bool

-- the piece that a parameter stands for, 1 in the place of 0, or why it is refused
abbrev pub piece_of : ℤ → Result ℤ Panic
piece_of piece = if nat_lt most_piece (nat_abs piece) then Err VeryBad else Ok (if nat_abs piece == 0 then pos 1 else piece)

-- the board of these parameters, or why they are refused: too many dimensions, then too many vertices, then a piece too great
abbrev pub accepted_board : BoardParams → Result BoardData Panic
accepted_board p = and_then (board_of p.n1 p.n2 p.n3 p.n4) (λ shape.
    and_then (box_of shape.sizes) (λ sizes.
    and_then (piece_of p.piece) (λ piece.
    Ok (record { params = shape.params; sizes = sizes; piece = piece; wrap = p.wrap; directed = p.directed }))))

-- the id of an accepted board: board(n1,n2,n3,n4,piece,wrap,directed)
unfoldable pub board_id : BoardData → List ℕ
board_id b = call_text (codes "board") (map signed_decimal (b.params ++ (b.piece ∷ b.wrap ∷ [])) ++ flag_text b.directed ∷ [])

-- the moves on an accepted board, from one vertex to another
abbrev pub moves_of_board : BoardData → List Move
moves_of_board b = board_moves (sides_of b.sizes b.wrap) b.piece (box b.sizes) (length b.sizes)

-- the graph of an accepted board: its vertices are the vectors of the box of its sizes
abbrev pub board_vector_graph : BoardData → VectorGraph
board_vector_graph b = record { id = board_id b; directed = b.directed; vectors = box b.sizes; moves = moves_of_board b }

-- the graph of board(n1,n2,n3,n4,piece,wrap,directed), or why it is refused
abbrev pub board : BoardParams → Result Description Panic
board p = and_then (accepted_board p) (λ b. Ok (described_by (board_vector_graph b)))
