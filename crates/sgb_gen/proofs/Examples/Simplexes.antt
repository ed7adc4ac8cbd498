-- Simplexes whose graphs are known, evaluated.
use Rattle.std.specs.Prelude.{◌≡◌, ℤ, pos, negsuc, true, false, [], ◌∷◌, Ok, Err, codes, refl}
use Rattle.std.specs.Fmt.{digits}
use Rattle.sgb_vec.specs.Boxes.{box}
use Rattle.sgb_vec.specs.Names.{name_of_vector}
use Rattle.sgb_vec.specs.Sizes.{repeated}
use Rattle.sgb_vec.specs.Sums.{bounded_sums, has_great_count}
use Rattle.sgb_vec.specs.declared.panics.Panic.TheVariants.{Bad, VeryBad}
use Rattle.sgb_graph.specs.Events.{list_from}
use Rattle.sgb_graph.specs.declared.fields.Kind.TheVariants.{Z}
use Rattle.sgb_gen.specs.VectorGraphs.{family_graph}
use Rattle.sgb_gen.specs.declared.params.SimplexParams.{SimplexParams}
use Rattle.sgb_gen.specs.Simplexes.{accepted_simplex, simplex_id, moves_of_simplex, simplex}
use Rattle.sgb_gen.proofs.Examples.Listings.{arc, block, listing, listing_of, shown_by}

-- simplex(n,n0,n1,0,0,0,0)
abbrev params : ℤ → ℤ → ℤ → SimplexParams
params n n0 n1 = record { n = n; n0 = n0; n1 = n1; n2 = pos 0; n3 = pos 0; n4 = pos 0; directed = false }

-- simplex(2,0,0,0,0,0,0)
pub triangle : shown_by listing_of (simplex (params (pos 2) (pos 0) (pos 0)))
    ≡ Ok (listing "simplex(2,-2,0,0,0,0,0)" 18
    (block "0.0.2" (arc "1.0.1" 1 ∷ arc "0.1.1" 1 ∷ [])
    ∷ block "0.1.1" (arc "1.1.0" 1 ∷ arc "1.0.1" 1 ∷ arc "0.2.0" 1 ∷ arc "0.0.2" 1 ∷ [])
    ∷ block "0.2.0" (arc "1.1.0" 1 ∷ arc "0.1.1" 1 ∷ [])
    ∷ block "1.0.1" (arc "2.0.0" 1 ∷ arc "1.1.0" 1 ∷ arc "0.0.2" 1 ∷ arc "0.1.1" 1 ∷ [])
    ∷ block "1.1.0" (arc "2.0.0" 1 ∷ arc "1.0.1" 1 ∷ arc "0.1.1" 1 ∷ arc "0.2.0" 1 ∷ [])
    ∷ block "2.0.0" (arc "1.0.1" 1 ∷ arc "1.1.0" 1 ∷ []) ∷ []))
unfolding box repeated digits name_of_vector bounded_sums has_great_count list_from simplex_id moves_of_simplex family_graph
triangle = refl

-- simplex(3,2,2,0,0,0,0): no unit goes where the bound has no room for it
pub bounded : shown_by listing_of (simplex (params (pos 3) (pos 2) (pos 2)))
    ≡ Ok (listing "simplex(3,2,2,0,0,0,0)" 2 (block "1.2" (arc "2.1" 1 ∷ []) ∷ block "2.1" (arc "1.2" 1 ∷ []) ∷ []))
unfolding box repeated digits name_of_vector bounded_sums has_great_count list_from simplex_id moves_of_simplex family_graph
bounded = refl

-- the same directed: the arc goes to the vertex from the one that a unit of it makes when it goes to a later place
pub directed_bounded : shown_by listing_of (simplex (record (params (pos 3) (pos 2) (pos 2)) { directed = true }))
    ≡ Ok (listing "simplex(3,2,2,0,0,0,1)" 1 (block "1.2" (arc "2.1" 1 ∷ []) ∷ block "2.1" [] ∷ []))
unfolding box repeated digits name_of_vector bounded_sums has_great_count list_from simplex_id moves_of_simplex family_graph
directed_bounded = refl

-- simplex(0,3,0,0,0,0,0): no dimensions, and the bound clamped to 0 in the name too
pub point : shown_by listing_of (simplex (params (pos 0) (pos 3) (pos 0)))
    ≡ Ok (listing "simplex(0,0,0,0,0,0,0)" 0 (block "0" [] ∷ []))
unfolding box repeated digits name_of_vector bounded_sums has_great_count list_from simplex_id moves_of_simplex family_graph
point = refl

-- the same id as parameters is another graph: its one vertex has three entries
pub point_of_three_entries : shown_by (λ d. d.names) (simplex (params (pos 0) (pos 0) (pos 0)))
    ≡ Ok (codes "0.0.0" ∷ [])
unfolding box repeated digits name_of_vector bounded_sums has_great_count simplex_id moves_of_simplex family_graph
point_of_three_entries = refl

-- simplex(5,2,2,0,0,0,0) has no vertex, and all its kinds are Z
pub no_vertices : shown_by listing_of (simplex (params (pos 5) (pos 2) (pos 2))) ≡ Ok (listing "simplex(5,2,2,0,0,0,0)" 0 [])
unfolding box repeated digits name_of_vector bounded_sums has_great_count list_from simplex_id moves_of_simplex family_graph
no_vertices = refl

pub kinds_without_vertices : shown_by (λ d. d.kinds) (simplex (params (pos 5) (pos 2) (pos 2)))
    ≡ Ok (Z ∷ Z ∷ Z ∷ Z ∷ Z ∷ Z ∷ Z ∷ Z ∷ Z ∷ Z ∷ Z ∷ Z ∷ Z ∷ Z ∷ [])
unfolding box repeated digits name_of_vector bounded_sums has_great_count simplex_id moves_of_simplex family_graph
kinds_without_vertices = refl

-- simplex(-1,..) and simplex(1000000001,1,..) are refused
pub refused_negative : accepted_simplex (params (negsuc 0) (pos 0) (pos 0)) ≡ Err Bad
refused_negative = refl

pub refused_sum : accepted_simplex (params (pos 1_000_000_001) (pos 1) (pos 0)) ≡ Err VeryBad
unfolding repeated
refused_sum = refl
