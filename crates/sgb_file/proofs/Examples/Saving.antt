-- Texts that are written.
use Rattle.std.specs.Prelude.{◌≡◌, List, ℕ, [], ◌∷◌, ◌++◌, codes, length, map, replicate, refl, pos, negsuc, Some, None}
use Rattle.sgb_graph.specs.Graphs.{GraphData}
use Rattle.sgb_graph.specs.declared.fields.Kind.TheVariants.{Z, I, V, S, A}
use Rattle.sgb_graph.specs.declared.fields.Ref.TheVariants.{Null, One, At}
use Rattle.sgb_graph.specs.declared.fields.Util.TheVariants.{Nothing, Int, Vertex as VertexField, Str, Chain}
use Rattle.std.specs.List.{repeat}
use Rattle.std.specs.Fmt.{digits}
use Rattle.sgb_file.specs.FileLines.{text_of_lines}
use Rattle.sgb_file.specs.Checksum.{weighted_sum}
use Rattle.sgb_file.specs.Saving.{quoted, pieces_of, laid_out, record_lines, text_of_graph}
use Rattle.sgb_file.proofs.Examples.GraphFiles.{one_cell, one_cell_lines, two_joined, two_joined_lines, nothing, nothing_lines}

-- the files of board(1,0,0,0,1,0,0), of complete(2), and of no vertices and the id a
pub of_some : map text_of_graph (one_cell ∷ two_joined ∷ nothing ∷ []) ≡ map text_of_lines (one_cell_lines ∷ two_joined_lines ∷ (nothing_lines ++ codes "* Checksum 18619" ∷ []) ∷ [])
unfolding digits weighted_sum pieces_of laid_out
of_some = refl

-- the id of the eighth complement of petersen(), of 160 bytes
abbrev pub eighth_complement : List ℕ
eighth_complement =
    repeat 8 (codes "complement(") ++ codes "subsets(2,1,-4,0,0,0,0x1,0)" ++ repeat 4 (codes ",0,0,0)")
    ++ codes ",0,0,0" ++ codes "...)" ++ codes ",0,0,0)"

-- it has 160 bytes, and so has the file of complete(2)
pub lengths : map length (eighth_complement ∷ text_of_graph two_joined ∷ []) ≡ 160 ∷ 160 ∷ []
unfolding digits weighted_sum pieces_of laid_out
lengths = refl

-- the record of the eighth complement: two broken lines, and the last seven bytes of the id's piece with the numbers
pub of_eighth : record_lines (quoted eighth_complement ∷ codes "10" ∷ codes "30" ∷ []) ≡
    (codes "\"" ++ repeat 7 (codes "complement(") ++ codes "\\")
    ∷ (codes "complement(subsets(2,1,-4,0,0,0,0x1,0)" ++ repeat 4 (codes ",0,0,0)") ++ codes ",0,0,0...),0\\")
    ∷ codes ",0,0)\",10,30" ∷ []
unfolding pieces_of laid_out
of_eighth = refl

-- a piece that fills the line to 79 bytes stays on it; one byte more begins a line. A piece of 79 bytes is not broken; of one
-- of 80, two bytes are left. A piece that is broken ends the line before it, and is broken until at most 79 bytes are left
pub some_laid_out : map (λ n. laid_out (replicate 70 48) (replicate n 49 ∷ [])) (9 ∷ 10 ∷ []) ≡
    ((replicate 70 48 ++ replicate 9 49) ∷ [])
    ∷ (replicate 70 48 ∷ replicate 10 49 ∷ []) ∷ []
unfolding laid_out
some_laid_out = refl

pub some_broken : map (λ n. laid_out [] (replicate n 48 ∷ [])) (79 ∷ 80 ∷ []) ++ map (λ n. laid_out (codes "x,") (replicate n 48 ∷ [])) (157 ∷ 158 ∷ []) ≡
    (replicate 79 48 ∷ [])
    ∷ ((replicate 78 48 ++ codes "\\") ∷ replicate 2 48 ∷ [])
    ∷ (codes "x," ∷ (replicate 78 48 ++ codes "\\") ∷ replicate 79 48 ∷ [])
    ∷ (codes "x," ∷ (replicate 78 48 ++ codes "\\") ∷ (replicate 78 48 ++ codes "\\") ∷ replicate 2 48 ∷ []) ∷ []
unfolding laid_out
some_broken = refl

-- a graph that has fields of all kinds, each of its values, records on no list, and more arcs than records
abbrev pub all_kinds : GraphData
all_kinds = record {
  id = codes "k";
  m = 5;
  kinds = A ∷ V ∷ S ∷ I ∷ Z ∷ Z ∷ I ∷ V ∷ A ∷ Z ∷ Z ∷ Z ∷ Z ∷ S ∷ [];
  util = Chain (Some 1) ∷ Nothing ∷ Nothing ∷ Nothing ∷ Nothing ∷ Str (codes "q") ∷ [];
  vertices = record { name = codes "p"; arcs = None; util = Chain (Some 0) ∷ VertexField One ∷ Str [] ∷ Int (negsuc 6) ∷ Nothing ∷ Nothing ∷ [] } ∷ [];
  records = record { tip = One; next = None; len = negsuc 2; a = Int (pos 4); b = VertexField Null }
      ∷ record { tip = At 0; next = Some 0; len = pos 0; a = Int (pos 5); b = VertexField (At 0) } ∷ [];
}

pub of_all_kinds : text_of_graph all_kinds ≡ text_of_lines (
    codes "* GraphBase graph (util_types AVSIZZIVAZZZZS,1V,2A)"
    ∷ codes "\"k\",1,5,A1,\"q\""
    ∷ codes "* Vertices"
    ∷ codes "\"p\",0,A0,1,\"\",-7"
    ∷ codes "* Arcs"
    ∷ codes "1,0,-3,4,0"
    ∷ codes "V0,A0,0,5,V0"
    ∷ codes "* Checksum 605739239" ∷ [])
unfolding digits weighted_sum pieces_of laid_out
of_all_kinds = refl
