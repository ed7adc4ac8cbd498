-- Subsets whose graphs are known, evaluated.
use Rattle.std.specs.Prelude.{◌≡◌, ◌-◌, ◌^◌, pos, true, false, [], ◌∷◌, Ok, codes, refl}
use Rattle.std.specs.Fmt.{digits}
use Rattle.sgb_vec.specs.Boxes.{box}
use Rattle.sgb_vec.specs.Names.{name_of_vector}
use Rattle.sgb_vec.specs.Sizes.{repeated}
use Rattle.sgb_vec.specs.Sums.{bounded_sums, has_great_count}
use Rattle.sgb_graph.specs.Events.{list_from}
use Rattle.sgb_gen.specs.VectorGraphs.{family_graph}
use Rattle.sgb_gen.specs.Subsets.{common_size, is_wanted_size, subsets_id, moves_of_subsets, subsets}
use Rattle.sgb_graph.specs.IdTexts.{hexadecimal_text}
use Rattle.sgb_gen.specs.Shorthands.{petersen}
use Rattle.sgb_gen.proofs.Examples.Listings.{arc, block, listing, part, listing_of, part_of, shown_by}

-- subsets(3,2,2,2,0,0,3,0)
pub subsets_of_3 : shown_by listing_of (subsets (record { n = pos 3; n0 = pos 2; n1 = pos 2; n2 = pos 2; n3 = pos 0; n4 = pos 0; size_bits = 3; directed = false }))
    ≡ Ok (listing "subsets(3,2,2,2,0,0,0x3,0)" 18
    (block "0.1.2" (arc "2.1.0" 1 ∷ arc "2.0.1" 1 ∷ arc "1.2.0" 1 ∷ [])
    ∷ block "0.2.1" (arc "2.1.0" 1 ∷ arc "2.0.1" 1 ∷ arc "1.0.2" 1 ∷ [])
    ∷ block "1.0.2" (arc "2.1.0" 1 ∷ arc "1.2.0" 1 ∷ arc "0.2.1" 1 ∷ [])
    ∷ block "1.1.1" []
    ∷ block "1.2.0" (arc "2.0.1" 1 ∷ arc "1.0.2" 1 ∷ arc "0.1.2" 1 ∷ [])
    ∷ block "2.0.1" (arc "1.2.0" 1 ∷ arc "0.2.1" 1 ∷ arc "0.1.2" 1 ∷ [])
    ∷ block "2.1.0" (arc "1.0.2" 1 ∷ arc "0.2.1" 1 ∷ arc "0.1.2" 1 ∷ []) ∷ []))
unfolding box repeated digits name_of_vector bounded_sums has_great_count list_from subsets_id moves_of_subsets family_graph
subsets_of_3 = refl

-- the first block of petersen()
pub petersen_block : shown_by (part_of 1) (subsets petersen)
    ≡ Ok (part "subsets(2,1,-4,0,0,0,0x1,0)" 10 30 (block "0.0.0.1.1" (arc "1.1.0.0.0" 1 ∷ arc "1.0.1.0.0" 1 ∷ arc "0.1.1.0.0" 1 ∷ []) ∷ []))
unfolding box repeated digits name_of_vector bounded_sums has_great_count list_from subsets_id moves_of_subsets family_graph
petersen_block = refl

-- where bit n of size_bits is set, each vertex has a loop
pub loops : shown_by listing_of (subsets (record { n = pos 2; n0 = pos 2; n1 = pos 2; n2 = pos 0; n3 = pos 0; n4 = pos 0; size_bits = 4; directed = false }))
    ≡ Ok (listing "subsets(2,2,2,0,0,0,0x4,0)" 6
    (block "0.2" (arc "0.2" 1 ∷ arc "0.2" 1 ∷ [])
    ∷ block "1.1" (arc "1.1" 1 ∷ arc "1.1" 1 ∷ [])
    ∷ block "2.0" (arc "2.0" 1 ∷ arc "2.0" 1 ∷ []) ∷ []))
unfolding box repeated digits name_of_vector bounded_sums has_great_count list_from subsets_id moves_of_subsets family_graph
loops = refl

-- directed arcs go to the later vertex
pub directed_subsets : shown_by listing_of (subsets (record { n = pos 1; n0 = pos 1; n1 = pos 1; n2 = pos 0; n3 = pos 0; n4 = pos 0; size_bits = 1; directed = true }))
    ≡ Ok (listing "subsets(1,1,1,0,0,0,0x1,1)" 1 (block "0.1" (arc "1.0" 1 ∷ []) ∷ block "1.0" [] ∷ []))
unfolding box repeated digits name_of_vector bounded_sums has_great_count list_from subsets_id moves_of_subsets family_graph
directed_subsets = refl

-- what two multisets have in common, also where they have no elements
pub common_of_210_021 : common_size (2 ∷ 1 ∷ 0 ∷ []) (0 ∷ 2 ∷ 1 ∷ []) ≡ 1
common_of_210_021 = refl

pub common_of_empty : common_size [] [] ≡ 0
common_of_empty = refl

-- the last bit counts, and no bit above it
pub last_size : is_wanted_size (2 ^ 127) 127 ≡ true
last_size = refl

pub size_above_all_bits : is_wanted_size (2 ^ 128) 128 ≡ false
size_above_all_bits = refl

-- size_bits of 0, and the greatest
pub no_size_bits : hexadecimal_text 0 ≡ codes "0x0"
unfolding digits
no_size_bits = refl

pub all_size_bits : hexadecimal_text (2 ^ 128 - 1) ≡ codes "0xffffffffffffffffffffffffffffffff"
unfolding digits
all_size_bits = refl
