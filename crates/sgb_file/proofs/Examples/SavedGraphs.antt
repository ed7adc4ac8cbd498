-- Graphs that can be saved, at each limit, and what becomes of a file past it.
use Rattle.std.specs.Prelude.{◌≡◌, ℕ, pos, negsuc, List, [], ◌∷◌, ◌++◌, codes, map, replicate, Some, None, Err, refl}
use Rattle.std.specs.Fmt.{digits}
use Rattle.std.proofs.Common.{arith}
use Rattle.std.proofs.lemmas.List.Elements.{All-nil, All-cons}
use Rattle.std.proofs.lemmas.List.Sums.{AllPass-from_list_all}
use Rattle.sgb_text.proofs.Findings.{all_at}
use Rattle.sgb_vec.specs.Names.{IsText, is_text_byte}
use Rattle.sgb_vec.specs.declared.panics.Panic.TheVariants.{Early, Syntax}
use Rattle.sgb_graph.specs.Graphs.{GraphData, ends_from, numbers_from}
use Rattle.sgb_graph.specs.declared.fields.Kind.{Kind}
use Rattle.sgb_graph.specs.declared.fields.Kind.TheVariants.{Z, I, V, S, A}
use Rattle.sgb_graph.specs.declared.fields.Ref.TheVariants.{Null, One, At}
use Rattle.sgb_graph.specs.declared.fields.Util.{Util}
use Rattle.sgb_graph.specs.declared.fields.Util.TheVariants.{Nothing, Int, Vertex as VertexField, Str, Chain}
use Rattle.sgb_graph.specs.declared.fields.Vertex.{Vertex}
use Rattle.sgb_graph.specs.declared.fields.ArcRec.{ArcRec}
use Rattle.sgb_file.specs.FileLines.{lines_among, without_end_spaces}
use Rattle.sgb_file.specs.Checksum.{weighted_sum}
use Rattle.sgb_file.specs.Fields.{unbroken}
use Rattle.sgb_file.specs.inner.ReadRecords.{more_fields_at}
use Rattle.sgb_file.specs.inner.ReadFiles.{opening_of, graph_of_text}
use Rattle.sgb_file.specs.Saving.{pieces_of, laid_out, text_of_graph}
use Rattle.sgb_file.specs.Saved.{CanBeSaved}

-- a name of the most bytes, and an id of the most bytes
abbrev longest_name : List ℕ
longest_name = replicate 4095 126

abbrev longest_id : List ℕ
longest_id = replicate 160 32

-- the fields of a vertex: an integer, a vertex, a string and an arc
abbrev last_vertex : Vertex
last_vertex = record {
  name = longest_name;
  arcs = Some 0;
  util = Nothing ∷ Int (negsuc 9223372036854775807) ∷ VertexField One ∷ Str longest_name ∷ Chain None ∷ Nothing ∷ [];
}

abbrev last_arc : ArcRec
last_arc = record { tip = At 0; next = None; len = negsuc 9223372036854775807; a = Int (pos 9223372036854775807); b = VertexField Null }

-- a graph at the limits
abbrev pub at_limits : GraphData
at_limits = record {
  id = longest_id;
  m = 999999999999999999;
  kinds = Z ∷ I ∷ V ∷ S ∷ A ∷ Z ∷ I ∷ V ∷ I ∷ Z ∷ Z ∷ Z ∷ Z ∷ Z ∷ [];
  util = Int (pos 9223372036854775807) ∷ Nothing ∷ Nothing ∷ Nothing ∷ Nothing ∷ Nothing ∷ [];
  vertices = last_vertex ∷ [];
  records = last_arc ∷ [];
}

name_is_text : IsText longest_name
name_is_text = record { short = omega arith; printable = AllPass-from_list_all is_text_byte longest_name refl }

-- it can be saved
pub limits_can_be_saved : CanBeSaved at_limits
unfolding ends_from numbers_from
limits_can_be_saved = record {
  graph = record { vertices_fit = refl; fields = refl; lists = refl };
  writable = record {
    kinds = refl;
    id = record { short = omega arith; printable = AllPass-from_list_all is_text_byte longest_id refl };
    arcs_counted = omega arith;
    records_counted = omega arith;
    util = grind (arith, All-cons, All-nil);
    vertices = grind (arith, All-cons, All-nil, name_is_text);
    records = grind (arith, All-cons, All-nil);
  };
}

-- a graph of no vertices, with an integer
abbrev small : List ℕ → ℕ → List Kind → Util → GraphData
small text arcs own value = record {
  id = text;
  m = arcs;
  kinds = replicate 8 Z ++ own;
  util = value ∷ Nothing ∷ Nothing ∷ Nothing ∷ Nothing ∷ Nothing ∷ [];
  vertices = [];
  records = [];
}

abbrev one_integer : List Kind
one_integer = I ∷ replicate 5 Z

-- one arc too many; fifteen kinds; an id of 161 bytes, and one with a quote in it; an integer of more than 64 bits; a string of
-- 4,096 bytes
pub past_limits : map (λ g. graph_of_text (text_of_graph g)) (
    small (codes "a") 1000000000000000000 one_integer (Int (pos 1))
    ∷ small (codes "a") 0 (one_integer ++ Z ∷ []) (Int (pos 1))
    ∷ small (replicate 161 97) 0 one_integer (Int (pos 1))
    ∷ small (codes "a\"b") 0 one_integer (Int (pos 1))
    ∷ small (codes "a") 0 one_integer (Int (pos 9223372036854775808))
    ∷ small (codes "a") 0 (S ∷ replicate 5 Z) (Str (replicate 4096 97)) ∷ []) ≡ Err Syntax ∷ Err Early ∷ replicate 4 (Err Syntax)
unfolding digits weighted_sum pieces_of laid_out lines_among without_end_spaces unbroken more_fields_at all_at opening_of ends_from numbers_from
past_limits = refl
