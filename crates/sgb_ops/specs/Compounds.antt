-- The end of the ids of results, and the names that an operation makes of two names [GB_BASIC]. A name has at
-- most 4,095 bytes, so a part that would not fit is cut.
use Rattle.std.specs.Prelude.{ℕ, Bool, List, ◌++◌, ◌∷◌, flat_map, take, codes, if◌then◌else◌}

-- the end of an id: each parameter with a comma in front (44), and the bracket
abbrev pub closing : List (List ℕ) → List ℕ
closing parameters = flat_map (λ text. 44 ∷ text) parameters ++ codes ")"

-- the name of the line from a to b [lines]
abbrev pub line_name : Bool → List ℕ → List ℕ → List ℕ
line_name directed a b = take 2_046 a ++ (if directed then codes "->" else codes "--") ++ take 2_047 b

-- the name of a and b with a sign between: of a pair a comma [product]; of b of a graph in the place of a a colon [induced]
abbrev pub joined_name : List ℕ → List ℕ → List ℕ → List ℕ
joined_name a sign b = take 2_047 a ++ sign ++ take 2_047 b
