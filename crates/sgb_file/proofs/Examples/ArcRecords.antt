-- The records of a graph of two vertices and an arc, and what they are made of.
use Rattle.std.proofs.Common.{◌≡◌, ◌++◌, ℕ, zero, suc, List, [], ◌∷◌, codes, refl, arith, inl, inr, pos, Option, Some, None}
use Rattle.std.specs.Prelude.{replicate}
use Rattle.sgb_graph.specs.Graphs.{GraphData}
use Rattle.sgb_graph.specs.Made.{no_fields}
use Rattle.sgb_graph.specs.declared.fields.Kind.TheVariants.{Z, I, V}
use Rattle.sgb_graph.specs.declared.fields.Ref.TheVariants.{At}
use Rattle.sgb_graph.specs.declared.fields.Util.TheVariants.{Nothing, Int, Vertex as VertexField, Str, Chain}
use Rattle.sgb_graph.specs.declared.fields.ArcRec.{ArcRec}
use Rattle.sgb_file.specs.Fields.{IsIntegerText, IsNumberText, IsRecordNumberText, unbroken}
use Rattle.sgb_file.specs.Files.{IsComma, AreMoreFields, IsVertexRecord, IsArcRecord, IsGraphRecord, AreRecordsOf}
use Rattle.sgb_file.proofs.Examples.Words.{string}
use Rattle.sgb_file.proofs.Examples.GraphFiles.{plain_vertex}

-- ---- the parts of records

pub comma : IsComma (codes ",") tt
comma = inl (refl, refl)

-- numbers of one digit
pub zero_text : IsNumberText (codes "0") 0
zero_text = record { numeral = (omega arith, (omega arith, tt)); short = omega arith; writes = refl }

pub one_text : IsNumberText (codes "1") 1
one_text = record { numeral = (omega arith, (omega arith, tt)); short = omega arith; writes = refl }

pub zero_integer : IsIntegerText (codes "0") (pos 0)
zero_integer = (inl (0, record { numeral = zero_text.numeral; short = omega arith; writes = refl }, refl), grind arith)

one_integer : IsIntegerText (codes "1") (pos 1)
one_integer = (inl (1, record { numeral = one_text.numeral; short = omega arith; writes = refl }, refl), grind arith)

-- fields that are not used have no texts
pub unused : (n m k : ℕ) → AreMoreFields n m (replicate k Z) (codes "\n") (replicate k Nothing)
unused n m zero = (refl, refl)
unused n m (suc k) = (replicate k Nothing, unused n m k, refl)

-- ---- the graph of two vertices and an arc from the first to the second, with this arc record after it

abbrev arc : Option ℕ → ArcRec
arc next = record { tip = At 1; next = next; len = pos 1; a = VertexField (At 1); b = Int (pos 0) }

abbrev pub one_arc : Option ℕ → GraphData
one_arc next = record {
  id = codes "p";
  m = 1;
  kinds = replicate 6 Z ++ V ∷ I ∷ V ∷ replicate 5 Z;
  util = VertexField (At 1) ∷ replicate 5 Nothing;
  vertices = plain_vertex (codes "x") (Some 0) ∷ plain_vertex (codes "y") None ∷ [];
  records = arc next ∷ [];
}

graph_record : (next : Option ℕ) → IsGraphRecord (one_arc next) (codes "\"p\",2,1,V1\n")
unfolding unbroken
graph_record next = (
  codes "\"p\"",
  codes ",2,1,V1\n",
  codes "p",
  refl,
  string 160 (codes "p") (omega arith) refl refl,
  (
    codes ",",
    codes "2,1,V1\n",
    tt,
    refl,
    comma,
    (
      codes "2",
      codes ",1,V1\n",
      2,
      refl,
      record { numeral = (omega arith, (omega arith, tt)); short = omega arith; writes = refl },
      (
        codes ",",
        codes "1,V1\n",
        tt,
        refl,
        comma,
        (
          codes "1",
          codes ",V1\n",
          1,
          refl,
          one_text,
          (
            VertexField (At 1) ∷ replicate 5 Nothing,
            (
              codes ",",
              codes "V1\n",
              tt,
              refl,
              comma,
              (
                codes "V1",
                codes "\n",
                VertexField (At 1),
                refl,
                (At 1, inr (inr (codes "1", refl, (1, (one_text, omega arith), refl))), refl),
                (replicate 5 Nothing, unused 2 1 5, refl),
              ),
            ),
            refl,
          ),
        ),
      ),
    ),
  ),
)

first_vertex : (next : Option ℕ) → IsVertexRecord (one_arc next) (codes "\"x\",A0\n") (plain_vertex (codes "x") (Some 0))
unfolding unbroken
first_vertex next = (
  codes "\"x\"",
  codes ",A0\n",
  Str (codes "x"),
  refl,
  (codes "x", string 4095 (codes "x") (omega arith) refl refl, refl),
  (
    Chain (Some 0) ∷ no_fields,
    (
      codes ",",
      codes "A0\n",
      tt,
      refl,
      comma,
      (
        codes "A0",
        codes "\n",
        Chain (Some 0),
        refl,
        (Some 0, inr (codes "0", refl, (0, (zero_text, omega arith), refl)), refl),
        (no_fields, unused 2 1 6, refl),
      ),
    ),
    refl,
  ),
)

second_vertex : (next : Option ℕ) → IsVertexRecord (one_arc next) (codes "\"y\",0\n") (plain_vertex (codes "y") None)
unfolding unbroken
second_vertex next = (
  codes "\"y\"",
  codes ",0\n",
  Str (codes "y"),
  refl,
  (codes "y", string 4095 (codes "y") (omega arith) refl refl, refl),
  (
    Chain None ∷ no_fields,
    (
      codes ",",
      codes "0\n",
      tt,
      refl,
      comma,
      (
        codes "0",
        codes "\n",
        Chain None,
        refl,
        (None, inl (refl, refl), refl),
        (no_fields, unused 2 1 6, refl),
      ),
    ),
    refl,
  ),
)

pub arc_text : (next : Option ℕ) (text : List ℕ) → IsRecordNumberText 1 text next → IsArcRecord (one_arc next) (codes "V1," ++ (text ++ codes ",1,V1,0\n")) (arc next)
arc_text next text is = (
  codes "V1",
  codes "," ++ (text ++ codes ",1,V1,0\n"),
  VertexField (At 1),
  refl,
  (At 1, inr (inr (codes "1", refl, (1, (one_text, omega arith), refl))), refl),
  (
    Chain next ∷ Int (pos 1) ∷ VertexField (At 1) ∷ Int (pos 0) ∷ [],
    (
      codes ",",
      text ++ codes ",1,V1,0\n",
      tt,
      refl,
      comma,
      (
        text,
        codes ",1,V1,0\n",
        Chain next,
        refl,
        (next, is, refl),
        (
          Int (pos 1) ∷ VertexField (At 1) ∷ Int (pos 0) ∷ [],
          (
            codes ",",
            codes "1,V1,0\n",
            tt,
            refl,
            comma,
            (
              codes "1",
              codes ",V1,0\n",
              Int (pos 1),
              refl,
              (pos 1, one_integer, refl),
              (
                VertexField (At 1) ∷ Int (pos 0) ∷ [],
                (
                  codes ",",
                  codes "V1,0\n",
                  tt,
                  refl,
                  comma,
                  (
                    codes "V1",
                    codes ",0\n",
                    VertexField (At 1),
                    refl,
                    (At 1, inr (inr (codes "1", refl, (1, (one_text, omega arith), refl))), refl),
                    (
                      Int (pos 0) ∷ [],
                      (
                        codes ",",
                        codes "0\n",
                        tt,
                        refl,
                        comma,
                        (
                          codes "0",
                          codes "\n",
                          Int (pos 0),
                          refl,
                          (pos 0, zero_integer, refl),
                          ([], (refl, refl), refl),
                        ),
                      ),
                      refl,
                    ),
                  ),
                ),
                refl,
              ),
            ),
          ),
          refl,
        ),
      ),
    ),
    refl,
  ),
)

pub records_are : (next : Option ℕ) (line : List ℕ) → IsArcRecord (one_arc next) line (arc next) → line ≡ line ++ []
    → AreRecordsOf (one_arc next) (codes "\"p\",2,1,V1\n" ++ (codes "* Vertices\n" ++ (codes "\"x\",A0\n\"y\",0\n" ++ (codes "* Arcs\n" ++ line))))
records_are next line is whole = record {
  own = codes "\"p\",2,1,V1\n";
  vertices = codes "\"x\",A0\n\"y\",0\n";
  arcs = line;
  graph_record = graph_record next;
  vertex_records = (codes "\"x\",A0\n", codes "\"y\",0\n", refl, first_vertex next, (codes "\"y\",0\n", [], refl, second_vertex next, refl));
  arc_records = (line, [], whole, is, refl);
  parts = refl;
}
