-- Texts of numbers, of fields, of first lines and of checksums: what each says, and which say nothing.
use Rattle.std.specs.Prelude.{◌≡◌, ◌-◌, ◌^◌, pos, neg_ℤ, [], ◌∷◌, ◌++◌, codes, map, replicate, Some, None, refl}
use Rattle.sgb_graph.specs.Made.{no_kinds}
use Rattle.sgb_graph.specs.declared.fields.Kind.TheVariants.{V, A}
use Rattle.sgb_graph.specs.declared.fields.Ref.TheVariants.{Null, One, At}
use Rattle.sgb_graph.specs.declared.fields.Util.TheVariants.{Vertex as VertexField, Chain}
use Rattle.sgb_file.specs.Fields.{unbroken}
use Rattle.sgb_file.specs.inner.FieldValues.{number_of, integer_of, ref_of, record_number_of, string_of}
use Rattle.sgb_file.specs.inner.ReadFields.{string_at, field_at}
use Rattle.sgb_file.specs.inner.ReadFiles.{head_of_line, checksum_in_line}

-- digits, and the bytes next to them
pub numbers : map (number_of 18) (codes "0123456789" ∷ codes "/" ∷ codes ":" ∷ codes "1x" ∷ []) ≡ Some 123456789 ∷ None ∷ None ∷ None ∷ []
numbers = refl

-- integers: leading zeros and a minus before 0, at most 20 digits, 64 bits
pub integers : map integer_of (
    codes "-00000000000000000012" ∷ codes "09223372036854775807" ∷ codes "9223372036854775808" ∷ codes "-9223372036854775809" ∷ replicate 21 48 ∷ codes "-" ∷ []) ≡
    Some (neg_ℤ (pos 12)) ∷ Some (pos (2 ^ 63 - 1)) ∷ None ∷ None ∷ None ∷ None ∷ []
integers = refl

-- one of four vertices, by a number of at most 18 digits; `0` and `1` are texts and not numbers, and stand alone
pub refs : map (ref_of 4) (
    codes "V003" ∷ codes "V000000000000000003" ∷ codes "V0000000000000000003" ∷ codes "V4" ∷ codes "00" ∷ codes "10" ∷ codes "2" ∷ []) ≡
    Some (At 3) ∷ Some (At 3) ∷ None ∷ None ∷ None ∷ None ∷ None ∷ []
refs = refl

pub refs_of_no_vertices : map (ref_of 0) (codes "0" ∷ codes "1" ∷ []) ≡ Some Null ∷ Some One ∷ []
refs_of_no_vertices = refl

-- one of two arc records, likewise; `0` stands for none
pub record_numbers : map (record_number_of 2) (codes "A01" ∷ (codes "A" ++ replicate 19 48) ∷ codes "A2" ∷ codes "1" ∷ codes "00" ∷ []) ≡ Some (Some 1) ∷ None ∷ None ∷ None ∷ None ∷ []
record_numbers = refl

pub no_record : record_number_of 0 (codes "0") ≡ Some None
no_record = refl

-- a vertex is below the number of vertices, an arc record below that of arc records
pub third_of_three : field_at (record { vertices = 3; arcs = 1 }) V (codes "V2,") ≡ Some (record { value = VertexField (At 2); rest = codes "," })
third_of_three = refl

pub third_of_three_records : field_at (record { vertices = 1; arcs = 3 }) A (codes "A2\n") ≡ Some (record { value = Chain (Some 2); rest = codes "\n" })
third_of_three_records = refl

-- a string of at most three bytes goes on after a `\` at a line's end; it has both its quotes, no newline and no other `\`
pub strings : map (string_at 3) (
    codes "\"a\\\nbc\",x" ∷ codes "\"abcd\"" ∷ codes "\"a\nb\"" ∷ codes "\"ab\n" ∷ codes "\"a\\b\"" ∷ codes "\"ab" ∷ codes "xab\"" ∷ []) ≡
    Some (record { value = codes "abc"; rest = codes ",x" }) ∷ None ∷ None ∷ None ∷ None ∷ None ∷ None ∷ []
unfolding unbroken
strings = refl

-- between the quotes: a `\` counts for a line's end only there, and there is no third quote
pub inside_strings : map (string_of 4) (codes "\\\n" ∷ codes "\\\\\na" ∷ codes "a\"b" ∷ []) ≡ Some [] ∷ None ∷ None ∷ []
unfolding unbroken
inside_strings = refl

-- a first line with the most vertices and the most digits; with one digit more, with thirteen letters, with fifteen, without
-- an end
pub heads : map head_of_line (
    codes "* GraphBase graph (util_types ZZZZZZZZZZZZZZ,000000001000000000V,999999999999999999A)"
    ∷ codes "* GraphBase graph (util_types ZZZZZZZZZZZZZZ,0000000000000000000V,0A)"
    ∷ codes "* GraphBase graph (util_types ZZZZZZZZZZZZZZ,0V,0000000000000000000A)"
    ∷ codes "* GraphBase graph (util_types ZZZZZZZZZZZZZ,0V,0A)"
    ∷ codes "* GraphBase graph (util_types ZZZZZZZZZZZZZZZ,0V,0A)"
    ∷ codes "* GraphBase graph (util_types ZZZZZZZZZZZZZZ,0V,0A" ∷ []) ≡
    Some (record { kinds = no_kinds; counts = record { vertices = 1000000000; arcs = 999999999999999999 } })
    ∷ None ∷ None ∷ None ∷ None ∷ None ∷ []
heads = refl

-- checksums of 18 digits, and of 19
pub checksums : map checksum_in_line (codes "* Checksum 999999999999999999" ∷ codes "* Checksum -0000000000000000001" ∷ []) ≡ Some (pos 999999999999999999) ∷ None ∷ []
checksums = refl
