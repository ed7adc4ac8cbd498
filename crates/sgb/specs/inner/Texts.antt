-- The texts of the entries of a vector, the line of a number, the two parts of a head, and how long lines are.
use Rattle.std.specs.Prelude.{ℕ, Bool, true, false, List, [], ◌∷◌, ◌++◌, codes, decimal}

-- an entry of a vector in its name: after a dot (46) where it is not the first
abbrev pub entry_text : Bool → ℕ → List ℕ
entry_text true entry = 46 ∷ decimal entry
entry_text false entry = decimal entry

-- the texts of entries, the first after a dot or not, the others each after a dot
abbrev pub entries_text : Bool → List ℕ → List ℕ
entries_text dotted [] = []
entries_text dotted (entry ∷ entries) = entry_text dotted entry ++ entries_text true entries

-- the line of a number: its decimal digits and a newline (10)
abbrev pub number_line : ℕ → List ℕ
number_line number = decimal number ++ 10 ∷ []

-- a line that is put together has at most this many bytes
abbrev pub most_line_bytes : ℕ
most_line_bytes = 4_160

-- what stands in a head before the number of arcs: the official name, and how many vertices there are
unfoldable pub title_text : List ℕ → ℕ → List ℕ
title_text id n = codes "  The graph whose official name is\n" ++ id ++ codes "\n  has " ++ decimal n ++ codes " vertices and "

-- the number of arcs in a head, and what stands after it
unfoldable pub count_text : ℕ → List ℕ
count_text m = decimal m ++ codes " arcs:\n\n"

-- these have at most this many bytes, where 128 bits hold the number
abbrev pub most_count_bytes : ℕ
most_count_bytes = 64
