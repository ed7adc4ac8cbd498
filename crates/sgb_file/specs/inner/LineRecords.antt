-- Records that are read of one line [GB_SAVE, restore_graph].
use Rattle.std.specs.Prelude.{◌≡◌, ◌==◌, ◌+◌, ◌++◌, ◌∷◌, [], ℕ, ℤ, List, length, take, drop, Option, Some}
use Rattle.std.specs.List.{before_first, position}
use Rattle.sgb_vec.specs.Limits.{most_bytes}
use Rattle.sgb_graph.specs.Parts.{vertex_with_ints}
use Rattle.sgb_graph.specs.Sound.{arc_kinds, vertex_kinds}
use Rattle.sgb_graph.specs.declared.fields.ArcRec.{ArcRec}
use Rattle.sgb_graph.specs.declared.fields.Kind.TheVariants.{A, I, Z}
use Rattle.sgb_graph.specs.declared.fields.Ref.{Ref}
use Rattle.sgb_graph.specs.declared.fields.Util.TheVariants.{Chain, Int, Nothing}
use Rattle.sgb_file.specs.Checksum.{checksum_of_lines}
use Rattle.sgb_file.specs.inner.Heads.{Counts, Head}
use Rattle.sgb_file.specs.inner.ReadRecords.{arc_record_at, more_fields_at, vertex_record_at}
use Rattle.sgb_file.specs.inner.Found.{checked_text}
use Rattle.sgb_file.specs.inner.Layouts.{checksum_from, counted_bytes, value_from}
use Rattle.sgb_file.specs.inner.LinesLeft.{IsWhole, LinesLeft, lines_passed}

-- an arc record with no utility fields
abbrev pub plain_record : Ref → Option ℕ → ℤ → ArcRec
plain_record tip next len = record { tip = tip; next = next; len = len; a = Nothing; b = Nothing }

-- a text that goes on with this line has an arc record there, where its utility fields are not used
abbrev pub IsArcLine : Counts → List ℕ → Ref → Option ℕ → ℤ → Type 0
IsArcLine counts line tip next len =
    (head : Head) (text : List ℕ) → head.counts ≡ counts → arc_kinds head.kinds ≡ Z ∷ Z ∷ []
    → arc_record_at head (line ++ 10 ∷ text) ≡ Some (record { value = plain_record tip next len; rest = text })

-- a line begins with these bytes in quotes (34) and a comma (44), and this is left of it
pub record IsNamedAt (line name rest : List ℕ) : Type 0 where
  pub quoted : List ℕ
  pub opened : line ≡ 34 ∷ quoted
  pub end : ℕ
  pub closed : Some end ≡ position (λ b. b == 34) quoted
  pub between : name ≡ take end quoted
  pub left : drop (end + 1) quoted ≡ 44 ∷ rest

-- after a comma the line goes on with the first arc record and the integers in x, y, z of a vertex, which end it
abbrev pub AreFieldsOf : Counts → List ℕ → Option ℕ → ℤ → ℤ → ℤ → Type 0
AreFieldsOf counts line first x y z =
    (text : List ℕ) → more_fields_at counts (A ∷ Z ∷ Z ∷ Z ∷ I ∷ I ∷ I ∷ []) (44 ∷ line ++ 10 ∷ text)
    ≡ Some (record { value = Chain first ∷ Nothing ∷ Nothing ∷ Nothing ∷ Int x ∷ Int y ∷ Int z ∷ []; rest = text })

-- a text that goes on with this line has a vertex's record there, where x, y, z are the utility fields in use, and the bytes
-- in quotes are a string
abbrev pub IsVertexLine : Counts → List ℕ → List ℕ → Option ℕ → ℤ → ℤ → ℤ → Type 0
IsVertexLine counts line name first x y z =
    (head : Head) (text : List ℕ) → head.counts ≡ counts → vertex_kinds head.kinds ≡ Z ∷ Z ∷ Z ∷ I ∷ I ∷ I ∷ []
    → checked_text most_bytes name ≡ Some name
    → vertex_record_at head (line ++ 10 ∷ text) ≡ Some (record { value = vertex_with_ints name first x y z; rest = text })

-- the line under way, of which nothing was passed over yet, is that of a vertex, and this is the checksum after it
pub record IsPlainVertex (head : Head) (lines : LinesLeft) (name : List ℕ) (first : Option ℕ) (x y z : ℤ) (sum : ℕ) : Type 0 where
  pub kinds : vertex_kinds head.kinds ≡ Z ∷ Z ∷ Z ∷ I ∷ I ∷ I ∷ []
  pub line : List ℕ
  pub whole : IsWhole lines line
  pub vertex : IsVertexLine head.counts line name first x y z
  pub counted : sum ≡ checksum_from (checksum_of_lines (lines_passed lines)) (counted_bytes (line ∷ []))

-- the bytes of a text before its first comma say this and are so many, and after them a checksum has this value
pub record IsCountedField {X : Type 0} (says : List ℕ → Option X) (text : List ℕ) (value : ℕ) (x : X) (len after : ℕ) : Type 0 where
  pub said : says (before_first (λ b. b == 44) text) ≡ Some x
  pub many : len ≡ length (before_first (λ b. b == 44) text)
  pub counted : after ≡ value_from value (before_first (λ b. b == 44) text)
