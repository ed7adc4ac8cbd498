-- The texts of ids, parameter by parameter.
use Rattle.std.proofs.Common.{arith, ◌≡◌, ℕ, ℤ, List, [], ◌∷◌, ◌++◌, codes, map, refl, sym, ap, ◌∙◌, append_assoc, append-nil}
use Rattle.std.specs.Fmt.{signed_decimal}
use Rattle.std.specs.List.{join_with_byte}
use Rattle.std.proofs.lemmas.List.Concat.{flat_map-append}
use Rattle.sgb_graph.specs.IdTexts.{numbers_text}
use Rattle.sgb_gen.specs.Boards.{BoardData, board_id}
use Rattle.sgb_graph.specs.IdTexts.{flag_text}
use Rattle.sgb_gen.specs.Simplexes.{SimplexData, simplex_id}
use Rattle.sgb_gen.specs.Subsets.{SubsetsData, subsets_id}
use Rattle.sgb_graph.specs.IdTexts.{hexadecimal_text}

-- numbers and other texts after them, with commas between them
join_numbers_before : (numbers : List ℤ) (t : List ℕ) (ts : List (List ℕ)) → join_with_byte 44 (map signed_decimal numbers ++ t ∷ ts) ≡ numbers_text numbers ++ join_with_byte 44 (t ∷ ts)
join_numbers_before [] t ts = refl
join_numbers_before (n ∷ []) t ts =
    sym (ap (λ u. u ++ join_with_byte 44 (t ∷ ts)) (append-nil (signed_decimal n ++ 44 ∷ [])) ∙ append_assoc (signed_decimal n) (44 ∷ []) (join_with_byte 44 (t ∷ ts)))
join_numbers_before (n ∷ m ∷ numbers) t ts = simp (append_assoc, join_numbers_before (m ∷ numbers) t ts)

-- the id of a board as it is written
pub board_id-written : (b : BoardData) → (((codes "board(" ++ numbers_text b.params) ++ numbers_text (b.piece ∷ b.wrap ∷ [])) ++ flag_text b.directed) ++ codes ")" ≡ board_id b
unfolding board_id
board_id-written b = grind (arith, flat_map-append, append_assoc, join_numbers_before)

-- the id of subsets as it is written
pub subsets_id-written : (s : SubsetsData) → ((((codes "subsets(" ++ numbers_text s.params) ++ hexadecimal_text s.size_bits) ++ codes ",") ++ flag_text s.directed) ++ codes ")" ≡ subsets_id s
unfolding subsets_id
subsets_id-written s = grind (arith, join_numbers_before, append_assoc)

-- the id of a simplex as it is written
pub simplex_id-written : (s : SimplexData) → ((codes "simplex(" ++ numbers_text s.params) ++ flag_text s.directed) ++ codes ")" ≡ simplex_id s
unfolding simplex_id
simplex_id-written s = grind (arith, append_assoc, join_numbers_before)
