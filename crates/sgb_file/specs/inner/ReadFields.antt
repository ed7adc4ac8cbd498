-- The fields of a record, as they are read: how far each one's text goes, and what it says [GB_SAVE, fill_field].
use Rattle.std.specs.Prelude.{ℕ, ◌&&◌, ◌||◌, List, [], ◌∷◌, length, drop, Option, Some, None, option_map, ◌==◌, if◌then◌else◌}
use Rattle.std.specs.List.{list_any, before_first, after_first}
use Rattle.sgb_text.proofs.Findings.{Found, found_as}
use Rattle.sgb_vec.specs.Limits.{most_bytes}
use Rattle.sgb_graph.specs.declared.fields.Kind.{Kind}
use Rattle.sgb_graph.specs.declared.fields.Kind.TheVariants.{Z, I, V, S, A}
use Rattle.sgb_graph.specs.declared.fields.Util.{Util}
use Rattle.sgb_graph.specs.declared.fields.Util.TheVariants.{Nothing, Int, Vertex as VertexField, Str, Chain}
use Rattle.sgb_file.specs.inner.FieldValues.{integer_of, record_number_of, ref_of, string_of}
use Rattle.sgb_file.specs.inner.Heads.{Counts}

-- the string that a text begins with: from a `"` (34) to the next one
abbrev pub string_at : ℕ → List ℕ → Option (Found (List ℕ))
string_at most [] = None
string_at most (b ∷ text) =
    if b == 34 && list_any (λ c. c == 34) text
    then option_map (λ s. record { value = s; rest = after_first (λ c. c == 34) text })
    (string_of most (before_first (λ c. c == 34) text))
    else None

-- the bytes up to the next comma (44) or the end of the line (10)
abbrev pub plain_text : List ℕ → List ℕ
plain_text text = before_first (λ b. b == 44 || b == 10) text

-- the value that a text begins with, said by the bytes up to the next comma or the end of the line
abbrev pub plain_at : {X : Type 0} → (List ℕ → Option X) → List ℕ → Option (Found X)
plain_at says text =
    option_map (λ x. record { value = x; rest = drop (length (plain_text text)) text }) (says (plain_text text))

-- the value of a field of this kind that a text begins with; a field that is not used has no text
abbrev pub field_at : Counts → Kind → List ℕ → Option (Found Util)
field_at counts Z text = Some (record { value = Nothing; rest = text })
field_at counts I text = found_as Int (plain_at integer_of text)
field_at counts V text = found_as VertexField (plain_at (ref_of counts.vertices) text)
field_at counts S text = found_as Str (string_at most_bytes text)
field_at counts A text = found_as Chain (plain_at (record_number_of counts.arcs) text)
