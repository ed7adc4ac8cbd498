-- The texts that the ids of graphs are made of [GB_GRAPH, id field], and the test for texts that may stand in an id.
use Rattle.std.specs.Prelude.{ℕ, ℤ, Bool, true, false, List, ◌++◌, codes}
use Rattle.std.specs.Fmt.{digits, signed_decimal}
use Rattle.std.specs.List.{flat_map, list_all}
use Rattle.sgb_vec.specs.Names.{is_text_byte}

-- each byte of the text may stand in an id
abbrev pub is_id_text : List ℕ → Bool
is_id_text text = list_all is_text_byte text

-- a flag: 1 or 0
abbrev pub flag_text : Bool → List ℕ
flag_text true = codes "1"
flag_text false = codes "0"

-- numbers in decimal, each with a comma after it
abbrev pub numbers_text : List ℤ → List ℕ
numbers_text numbers = flat_map (λ n. signed_decimal n ++ codes ",") numbers

-- a number in hexadecimal: 0x and its digits, in lower case and with no leading zeros
abbrev pub hexadecimal_text : ℕ → List ℕ
hexadecimal_text number = codes "0x" ++ digits 16 false number
