-- Ids and names where they are cut.
use Rattle.std.specs.Prelude.{◌≡◌, ℕ, ◌++◌, Bool, true, false, List, [], ◌∷◌, map, take, drop, length, replicate, codes, refl}
use Rattle.std.specs.Fmt.{digits}
use Rattle.sgb_graph.specs.Graphs.{GraphData}
use Rattle.sgb_graph.specs.Ids.{compound_id, double_compound_id}
use Rattle.sgb_ops.specs.Complement.{complement_of}
use Rattle.sgb_ops.specs.Entries.{names_of_copies}
use Rattle.sgb_ops.specs.Gunion.{gunion_of}
use Rattle.sgb_ops.specs.Compounds.{line_name, joined_name}
use Rattle.sgb_ops.specs.declared.induced_graphs.entries.Entry.TheVariants as entry
use Rattle.sgb_ops.proofs.Examples.Operands.{complete_2, title}

-- a graph with this id
abbrev titled : List ℕ → GraphData
titled text = record complete_2 { id = text }

-- the id of the complement without loops
abbrev once : List ℕ → List ℕ
once text = title (complement_of (titled text) false false false)

-- the id of a union
abbrev union : List ℕ → List ℕ → Bool → Bool → List ℕ
union text1 text2 multi directed = title (gunion_of (titled text1) (titled text2) multi directed)

-- of petersen() eight times over: the eighth has room for 142 bytes, and its operand's id has 153
pub eighth_title :
    (once (once (once (once (once (once (once (once (codes "subsets(2,1,-4,0,0,0,0x1,0)"))))))))
    ≡ codes "complement(complement(complement(complement(complement(complement(complement(complement(subsets(2,1,-4,0,0,0,0x1,0),0,0,0),0,0,0),0,0,0),0,0,0),0,0,0...),0,0,0)")
    × (length (codes "complement(complement(complement(complement(complement(complement(complement(complement(subsets(2,1,-4,0,0,0,0x1,0),0,0,0),0,0,0),0,0,0),0,0,0),0,0,0...),0,0,0)") ≡ 160)
unfolding compound_id
eighth_title = (refl, refl)

-- the union of that graph with itself: 69 bytes of each id are kept
pub union_title :
    (union (codes "complement(complement(complement(complement(complement(complement(complement(complement(subsets(2,1,-4,0,0,0,0x1,0),0,0,0),0,0,0),0,0,0),0,0,0),0,0,0...),0,0,0)") (codes "complement(complement(complement(complement(complement(complement(complement(complement(subsets(2,1,-4,0,0,0,0x1,0),0,0,0),0,0,0),0,0,0),0,0,0),0,0,0...),0,0,0)") false false
    ≡ codes "gunion(complement(complement(complement(complement(complement(complement(com...),complement(complement(complement(complement(complement(complement(com...),0,0)")
    × (length (codes "gunion(complement(complement(complement(complement(complement(complement(com...),complement(complement(complement(complement(complement(complement(com...),0,0)") ≡ 159)
unfolding double_compound_id
union_title = (refl, refl)

-- an id of n bytes
abbrev long : ℕ → List ℕ
long n = replicate n 97

-- one operand: 142 bytes stand whole, of 143 there stand 138
pub one_operand :
    (once (long 142) ≡ codes "complement(" ++ long 142 ++ codes ",0,0,0)")
    × (once (long 143) ≡ codes "complement(" ++ long 138 ++ codes "...),0,0,0)")
unfolding compound_id
one_operand = (refl, refl)

-- two operands: together 147 bytes stand whole; of 148 both are cut, and a short one keeps all its bytes
pub two_operands :
    (union (long 145) (codes "bc") false true ≡ codes "gunion(" ++ long 145 ++ codes ",bc,0,1)")
    × (union (long 146) (codes "bc") false true ≡ codes "gunion(" ++ long 69 ++ codes "...),bc...),0,1)")
unfolding double_compound_id
two_operands = (refl, refl)

-- names of as many bytes as there may be
abbrev a : List ℕ
a = replicate 4095 97

abbrev b : List ℕ
b = replicate 4095 98

-- made of two: 2,046 or 2,047 bytes of the first, and 2,047 of the second
pub names_cut :
    (take 6 (drop 2043 (line_name false a b)) ≡ codes "aaa--b")
    × (length (line_name false a b) ≡ 4095)
    × (take 6 (drop 2043 (line_name true a b)) ≡ codes "aaa->b")
    × (take 6 (drop 2044 (joined_name a (codes ",") b)) ≡ codes "aaa,bb")
    × (length (joined_name a (codes ",") b) ≡ 4095)
names_cut = (refl, refl, refl, refl, refl)

-- a prime stands after 4,094 bytes, a number after 4,084
pub copies_cut :
    (map (drop 4092) (names_of_copies a (entry.Copies 2)) ≡ codes "aaa" ∷ codes "aa'" ∷ [])
    × (drop 10 (map (drop 4082) (names_of_copies a (entry.Copies 12))) ≡ codes "aa:10" ∷ codes "aa:11" ∷ [])
unfolding digits
copies_cut = (refl, refl)
