-- The board that bi_complete and wheel start from [GB_BASIC, bi_complete and wheel].
use Rattle.std.specs.Prelude.{pos, Bool}
use Rattle.sgb_gen.specs.Shorthands.{line}
use Rattle.sgb_gen.specs.declared.params.BoardParams.{BoardParams}

-- board(2,0,0,0,1,0,directed): two vertices, 0 and 1, and one arc or edge from 0 to 1
abbrev pub pair_of_vertices : Bool → BoardParams
pair_of_vertices directed = line (pos 2) (pos 1) (pos 0) directed
