-- Values that fit a graph fit one with more vertices and records.
use Rattle.sgb_vec.proofs.Common.{◌≡◌, ◌≤◌, ℕ, Bool, true, ◌&&◌, List, [], ◌∷◌, Option, refl, arith, rules, and_parts, and_from, ltb-true, lt-ltb}
use Rattle.sgb_graph.specs.Sound.{vertex_kinds, arc_kinds, ref_fits, chain_fits, util_fits, utils_fit}
use Rattle.sgb_graph.specs.declared.fields.Kind.{Kind}
use Rattle.sgb_graph.specs.declared.fields.Ref.{Ref}
use Rattle.sgb_graph.specs.declared.fields.Util.{Util}
use Rattle.sgb_graph.specs.declared.fields.Vertex.{Vertex}
use Rattle.sgb_graph.specs.declared.fields.ArcRec.{ArcRec}

-- a vertex's fields fit n vertices and m records
abbrev pub vertex_fits_in : ℕ → ℕ → List Kind → Vertex → Bool
vertex_fits_in n m kinds v = chain_fits m v.arcs && utils_fit n m (vertex_kinds kinds) v.util

-- a record's fields fit n vertices and m records
abbrev pub record_fits_in : ℕ → ℕ → List Kind → ArcRec → Bool
record_fits_in n m kinds r = ref_fits n r.tip && chain_fits m r.next && utils_fit n m (arc_kinds kinds) (r.a ∷ r.b ∷ [])

-- the vertex that a value names
ref_fits_more : (n more : ℕ) (r : Ref) → n ≤ more → ref_fits n r ≡ true → ref_fits more r ≡ true
ref_fits_more n more r le e = grind (arith, lt-ltb, ltb-true)

-- the first record of a chain
pub chain_fits_more : (m more : ℕ) (first : Option ℕ) → m ≤ more → chain_fits m first ≡ true → chain_fits more first ≡ true
chain_fits_more m more first le e = grind (arith, lt-ltb, ltb-true)

-- a utility field
util_fits_more : (n m a b : ℕ) (kind : Kind) (util : Util) → n ≤ a → m ≤ b → util_fits n m kind util ≡ true → util_fits a b kind util ≡ true
util_fits_more n m a b kind util ln lm e = grind (arith, ref_fits_more, chain_fits_more)

-- utility fields
utils_fit_in_more : (n m a b : ℕ) (kinds : List Kind) (utils : List Util) → n ≤ a → m ≤ b → utils_fit n m kinds utils ≡ true → utils_fit a b kinds utils ≡ true
utils_fit_in_more n m a b [] [] ln lm e = refl
utils_fit_in_more n m a b (kind ∷ kinds) (util ∷ utils) ln lm e = grind (arith, and_parts, and_from, util_fits_more, utils_fit_in_more n m a b kinds utils ln lm (and_parts (util_fits n m kind util) (utils_fit n m kinds utils) e).1)
utils_fit_in_more n m a b _ _ ln lm e = e

-- a vertex
pub vertex_fits_in_more : (n m a b : ℕ) (kinds : List Kind) (v : Vertex) → n ≤ a → m ≤ b → vertex_fits_in n m kinds v ≡ true → vertex_fits_in a b kinds v ≡ true
vertex_fits_in_more n m a b kinds v ln lm e =
    let parts = and_parts (chain_fits m v.arcs) (utils_fit n m (vertex_kinds kinds) v.util) e in
    and_from (chain_fits b v.arcs) (utils_fit a b (vertex_kinds kinds) v.util) (chain_fits_more m b v.arcs lm parts.0) (utils_fit_in_more n m a b (vertex_kinds kinds) v.util ln lm parts.1)

-- a record
pub record_fits_in_more : (n m a b : ℕ) (kinds : List Kind) (r : ArcRec) → n ≤ a → m ≤ b → record_fits_in n m kinds r ≡ true → record_fits_in a b kinds r ≡ true
record_fits_in_more n m a b kinds r ln lm e =
    let parts = and_parts (ref_fits n r.tip && chain_fits m r.next) (utils_fit n m (arc_kinds kinds) (r.a ∷ r.b ∷ [])) e in
    let ends = and_parts (ref_fits n r.tip) (chain_fits m r.next) parts.0 in
    search (rules, and_from, ref_fits_more, chain_fits_more, utils_fit_in_more, ref_fits, chain_fits, utils_fit, arc_kinds, parts, ends)

-- they stay where there are more records alone
pub utils_fit_more : (n m more : ℕ) (kinds : List Kind) (utils : List Util) → m ≤ more → utils_fit n m kinds utils ≡ true → utils_fit n more kinds utils ≡ true
utils_fit_more n m more kinds utils le e = utils_fit_in_more n m n more kinds utils (omega arith) le e

pub vertex_fits_more : (n m more : ℕ) (kinds : List Kind) (v : Vertex) → m ≤ more → vertex_fits_in n m kinds v ≡ true → vertex_fits_in n more kinds v ≡ true
vertex_fits_more n m more kinds v le e = vertex_fits_in_more n m n more kinds v (omega arith) le e

pub record_fits_more : (n m more : ℕ) (kinds : List Kind) (r : ArcRec) → m ≤ more → record_fits_in n m kinds r ≡ true → record_fits_in n more kinds r ≡ true
record_fits_more n m more kinds r le e = record_fits_in_more n m n more kinds r (omega arith) le e
