-- What a reader returns, and the text that it leaves [GB_SAVE, fill_field].
use Rattle.std.specs.Prelude.{◌≡◌, ◌≤◌, ◌==◌, ◌&&◌, ◌++◌, ◌-◌, ℕ, Bool, true, false, ℤ, pos, neg_ℤ, ◌^◌, List, [], ◌∷◌, length, option_map, Option, Some, None, Result, Ok, Err, nat_lt, nat_le, slice_index_or, if◌then◌else◌}
use Rattle.std.specs.List.{list_any, list_all, before_first, after_first}
use Rattle.sgb_text.proofs.Findings.{Found, given}
use Rattle.sgb_vec.specs.Limits.{most_bytes}
use Rattle.sgb_vec.specs.declared.panics.Panic.{Panic}
use Rattle.sgb_vec.specs.declared.panics.Panic.TheVariants.{NoRoom, Syntax}
use Rattle.sgb_graph.specs.declared.fields.Kind.{Kind}
use Rattle.sgb_graph.specs.declared.fields.Kind.TheVariants.{Z}
use Rattle.sgb_graph.specs.declared.fields.Util.{Util}
use Rattle.sgb_graph.specs.declared.fields.Util.TheVariants.{Nothing}
use Rattle.sgb_vec.specs.Names.{is_text_byte}
use Rattle.sgb_file.specs.Fields.{unbroken}
use Rattle.sgb_file.specs.inner.Heads.{Counts}
use Rattle.sgb_file.specs.inner.ReadFields.{field_at, string_at}
use Rattle.sgb_file.specs.inner.ReadRecords.{after_comma}

-- the result is what was found, with this text after it; `Syntax` where nothing was found; or it is out of memory
abbrev pub IsFoundBy : {X : Type 0} → Option (Found X) → Result X Panic → List ℕ → Type 0
IsFoundBy found (Ok x) left = found ≡ Some (record { value = x; rest = left })
IsFoundBy found (Err Syntax) left = found ≡ None
IsFoundBy found (Err NoRoom) left = Unit {0}
IsFoundBy found (Err _) left = ⊥

-- the text goes on with the text that is left, or is refused as `Syntax`
abbrev pub IsPassedBy : Option (List ℕ) → Result (Unit {0}) Panic → List ℕ → Type 0
IsPassedBy after (Ok x) left = after ≡ Some left
IsPassedBy after (Err Syntax) left = after ≡ None
IsPassedBy after (Err _) left = ⊥

-- what is found after a comma
abbrev pub next_at : {X : Type 0} → (List ℕ → Option (Found X)) → List ℕ → Option (Found X)
next_at one_at text = given (after_comma text) one_at

-- a field of this kind has a text
abbrev pub is_used : Kind → Bool
is_used Z = false
is_used _ = true

-- the value of the next field, of this kind; a field that is not used has no text, not even a comma
abbrev pub next_field_at : Counts → Kind → List ℕ → Option (Found Util)
next_field_at counts kind text =
    if is_used kind then next_at (field_at counts kind) text else Some (record { value = Nothing; rest = text })

-- the integer of 64 bits that a number is, and that it is with a `-`
abbrev pub positive_of : ℕ → Option ℤ
positive_of n = if nat_lt n (2 ^ 63) then Some (pos n) else None

abbrev pub negative_of : ℕ → Option ℤ
negative_of n = if nat_le n (2 ^ 63) then Some (neg_ℤ (pos n)) else None

-- a field ends where nothing is left of a text, or it goes on with a comma (44)
abbrev pub is_at_end : List ℕ → Bool
is_at_end [] = true
is_at_end (b ∷ text) = b == 44

-- a text that is at most so long, of bytes that may stand in a string
abbrev pub checked_text : ℕ → List ℕ → Option (List ℕ)
checked_text most bytes = if nat_le (length bytes) most && list_all is_text_byte bytes then Some bytes else None

-- the string that goes on with a text, after these bytes: up to the next `"` (34), a `\` (92) and a newline (10)
-- counting as nothing
abbrev pub string_from : ℕ → List ℕ → List ℕ → Option (Found (List ℕ))
string_from most bytes text =
    if list_any (λ c. c == 34) text
    then option_map (λ s. record { value = s; rest = after_first (λ c. c == 34) text }) (checked_text most (bytes ++ unbroken (before_first (λ c. c == 34) text)))
    else None

-- the same, where the string ends with these bytes, and this text is left
abbrev pub string_before : ℕ → List ℕ → List ℕ → Option (Found (List ℕ))
string_before most bytes left = option_map (λ s. record { value = s; rest = left }) (checked_text most bytes)

-- a string with these bytes that ends there, or else goes on with the text that is left
abbrev pub goes_on : Bool → ℕ → List ℕ → List ℕ → Option (Found (List ℕ))
goes_on true most bytes left = string_before most bytes left
goes_on false most bytes left = string_from most bytes left

-- a string that goes on with a text goes on by this part of it, which ends it or not, and then by the text that is left
abbrev pub IsPartOf : List ℕ → List ℕ → Bool → List ℕ → Type 0
IsPartOf text part closed left =
    (most : ℕ) (bytes : List ℕ) → string_from most bytes text ≡ goes_on closed most (bytes ++ part) left

-- no string goes on with this text
abbrev pub IsNoString : List ℕ → Type 0
IsNoString text = (most : ℕ) (bytes : List ℕ) → string_from most bytes text ≡ None

-- the string of a first part that goes on with a text has these bytes, and this text is left
abbrev pub IsWholeOf : List ℕ → List ℕ → List ℕ → List ℕ → Type 0
IsWholeOf first text bytes left = (most : ℕ) → string_from most first text ≡ string_before most bytes left

-- no string that a file may hold has this first part and goes on with this text
abbrev pub IsNoWhole : List ℕ → List ℕ → Type 0
IsNoWhole first text = (most : ℕ) → most ≤ most_bytes → string_from most first text ≡ None

-- a text begins with a string that has this first part, which ends it or not, and this text is left
abbrev pub BeginsWith : List ℕ → List ℕ → Bool → List ℕ → Type 0
BeginsWith text part closed left = (most : ℕ) → string_at most text ≡ goes_on closed most part left

-- the text begins with no string that a file may hold
abbrev pub IsNoStringAt : List ℕ → Type 0
IsNoStringAt text = (most : ℕ) → most ≤ most_bytes → string_at most text ≡ None

-- the line ends with a `\` (92)
abbrev pub is_broken : List ℕ → Bool
is_broken line = slice_index_or line (length line - 1) 0 == 92
