-- Where moves of length 1 lead to places of the board, those of lengths up to it do.
use Rattle.std.proofs.Common.{◌≡◌, ℕ, zero, suc, ◌<◌, ◌≤◌, ℤ, true, List, [], ◌∷◌, length, refl, arith}
use Rattle.std.specs.List.{All}
use Rattle.std.proofs.lemmas.List.Elements.{AllZip-get_or, length_all_zip}
use Rattle.sgb_vec.specs.Lexicographic.{IsBelow}
use Rattle.sgb_moves.specs.inner.MovedCoordinates.{parts_stay}
use Rattle.sgb_moves.proofs.TurnedMoves.{side_start}

module _ (sizes : List ℕ) (wrap : ℤ) (x : List ℕ) (below : IsBelow x sizes) where
  -- at length 0 each coordinate is where it was
  stay_home : (parts : List (ℕ × ℤ)) → All (λ p. p.0 < length sizes) parts → parts_stay sizes wrap x 0 parts ≡ true
  stay_home [] within = refl
  stay_home (p ∷ parts) within =
      let here : p.0 < length sizes = within 0 p (omega arith) in
      grind (arith, AllZip-get_or, length_all_zip, side_start, here, stay_home parts (λ j e h. within (suc j) e (omega (arith, h))))

  pub stay_near : (parts : List (ℕ × ℤ)) (l : ℕ) → All (λ p. p.0 < length sizes) parts → parts_stay sizes wrap x 1 parts ≡ true → l ≤ 1 → parts_stay sizes wrap x l parts ≡ true
  stay_near parts zero within near few = stay_home parts within
  stay_near parts l within near few = grind (arith)
