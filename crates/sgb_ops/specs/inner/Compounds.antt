-- The ids of results, and the names that an operation makes of names, each as it is made.
use Rattle.std.specs.Prelude.{ℕ, ℤ, Bool, List, [], ◌∷◌, ◌++◌, take, decimal, codes, if◌then◌else◌}
use Rattle.std.specs.Fmt.{signed_decimal}
use Rattle.sgb_graph.specs.IdTexts.{flag_text}
use Rattle.sgb_graph.specs.Ids.{compound_id, double_compound_id}
use Rattle.sgb_ops.specs.Product.{type_number}
use Rattle.sgb_ops.specs.Compounds.{closing, joined_name}
use Rattle.sgb_ops.specs.declared.products.ProductType.{ProductType}

-- the id of a complement
abbrev pub complement_id : List ℕ → Bool → Bool → Bool → List ℕ
complement_id id copy self directed =
    compound_id (codes "complement(") id (closing (flag_text copy ∷ flag_text self ∷ flag_text directed ∷ []))

-- the id of a union
abbrev pub gunion_id : List ℕ → List ℕ → Bool → Bool → List ℕ
gunion_id id1 id2 multi directed =
    double_compound_id (codes "gunion(") id1 (codes ",") id2 (closing (flag_text multi ∷ flag_text directed ∷ []))

-- the id of an intersection
abbrev pub intersection_id : List ℕ → List ℕ → Bool → Bool → List ℕ
intersection_id id1 id2 multi directed =
    double_compound_id (codes "intersection(") id1 (codes ",") id2 (closing (flag_text multi ∷ flag_text directed ∷ []))

-- the id of a line graph
abbrev pub lines_id : List ℕ → Bool → List ℕ
lines_id id directed = compound_id (codes "lines(") id (closing (flag_text directed ∷ []))

-- the id of a product
abbrev pub product_id : List ℕ → List ℕ → ProductType → Bool → List ℕ
product_id id1 id2 t directed =
    double_compound_id (codes "product(") id1 (codes ",") id2 (closing (decimal (type_number t) ∷ flag_text directed ∷ []))

-- the id of an induced graph; the description in it is empty
abbrev pub induced_id : List ℕ → Bool → Bool → Bool → List ℕ
induced_id id self multi directed =
    compound_id (codes "induced(") id (closing ([] ∷ flag_text self ∷ flag_text multi ∷ flag_text directed ∷ []))

-- the id of a complete bipartite graph
abbrev pub bi_complete_id : ℤ → ℤ → Bool → List ℕ
bi_complete_id n1 n2 directed =
    codes "bi_complete(" ++ signed_decimal n1 ++ closing (signed_decimal n2 ∷ flag_text directed ∷ [])

-- the id of a wheel
abbrev pub wheel_id : ℤ → ℤ → Bool → List ℕ
wheel_id n n1 directed =
    codes "wheel(" ++ signed_decimal n ++ closing (signed_decimal n1 ∷ flag_text directed ∷ [])

-- what stands between the two names of a line
abbrev pub line_sign : Bool → List ℕ
line_sign directed = if directed then codes "->" else codes "--"

-- b after the start of joined names
abbrev pub begun_name : List ℕ → List ℕ → List ℕ
begun_name start b = start ++ take 2_047 b

-- the name of the pair of a and b [product]
abbrev pub pair_name : List ℕ → List ℕ → List ℕ
pair_name a b = joined_name a (codes ",") b

-- the name of copy number k [induced]
abbrev pub numbered_name : List ℕ → ℕ → List ℕ
numbered_name a k = take 4_084 a ++ codes ":" ++ decimal k

-- the name of merged vertex k: -k [induced]
abbrev pub merged_name : ℕ → List ℕ
merged_name k = codes "-" ++ decimal k
