-- The ids of graphs [GB_GRAPH, make_compound_id and make_double_compound_id].
use Rattle.std.specs.Prelude.{ℕ, ◌+◌, ◌-◌, ◌/◌, ◌≤◌, List, ◌++◌, length, take, All, codes, nat_lt, if◌then◌else◌}
use Rattle.sgb_vec.specs.Names.{IsTextByte}

-- an id has at most this many bytes
abbrev pub most_id_bytes : ℕ
most_id_bytes = 160

-- a text that an id may be
pub record IsId (bytes : List ℕ) : Type 0 where
  pub short : length bytes ≤ most_id_bytes
  pub printable : All IsTextByte bytes

-- the first k bytes of an id, and `...)`
abbrev pub cut_id : ℕ → List ℕ → List ℕ
cut_id k id = take k id ++ codes "...)"

-- an operand's id between two texts; cut where it does not fit
unfoldable pub compound_id : List ℕ → List ℕ → List ℕ → List ℕ
compound_id s1 id s2 = let available = most_id_bytes + 1 - length (s1 ++ s2) in
    s1 ++ (if nat_lt (length id) available then id else cut_id (available - 5) id) ++ s2

-- two operands' ids between three texts; both cut where they do not fit together
unfoldable pub double_compound_id : List ℕ → List ℕ → List ℕ → List ℕ → List ℕ → List ℕ
double_compound_id s1 id1 s2 id2 s3 = let available = most_id_bytes + 1 - length (s1 ++ s2 ++ s3) in
    if nat_lt (length id1 + length id2) available
    then s1 ++ id1 ++ s2 ++ id2 ++ s3
    else s1 ++ cut_id (available / 2 - 5) id1 ++ s2 ++ cut_id ((available - 9) / 2) id2 ++ s3
