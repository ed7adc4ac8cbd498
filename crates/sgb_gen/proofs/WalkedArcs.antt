-- The arcs of a board's vector by a walk over displacements from the last on.
use Rattle.std.proofs.Common.{◌≡◌, ℕ, ◌-◌, ◌<◌, ℤ, List, [], ◌∷◌, ◌++◌, length, reverse, take, ap, subst, ◌∙◌, arith, length-append}
use Rattle.std.specs.List.{All}
use Rattle.std.proofs.lemmas.List.Elements.{All-cons, All-head, All-nil, All-tail}
use Rattle.sgb_vec.specs.Boxes.{box}
use Rattle.sgb_gen.specs.Boards.{BoardData}
use Rattle.sgb_moves.specs.Moves.{sides_of}
use Rattle.sgb_gen.specs.inner.LocalBoards.{arcs_onward, moves_by}
use Rattle.sgb_gen.specs.inner.StraightLists.{arcs_by_all}
use Rattle.sgb_gen.proofs.RunsOfLists.{last_first}

-- all but the last of some displacements
abbrev pub rest_of : List (List ℤ) → List (List ℤ)
rest_of ts = take (length ts - 1) ts

-- what all have, the last one has, and the others
both_have : {X : Type 0} (P : X → Type 0) (rest : List X) (t : X) → All P (rest ++ t ∷ []) → All P rest × P t
both_have P [] t all = (All-nil P, All-head P t [] all)
both_have P (x ∷ rest) t all =
    let others = both_have P rest t (All-tail P x (rest ++ t ∷ []) all) in
    (All-cons P x rest (All-head P x (rest ++ t ∷ []) all) others.0, others.1)

module _ (ts : List (List ℤ)) (t : List ℤ) (is : ts ≡ rest_of ts ++ t ∷ []) where
  pub last_has : (P : List ℤ → Type 0) → All P ts → P t
  last_has P all = (both_have P (rest_of ts) t (subst (All P) is all)).1

  pub others_have : (P : List ℤ → Type 0) → All P ts → All P (rest_of ts)
  others_have P all = (both_have P (rest_of ts) t (subst (All P) is all)).0

  pub fewer : length (rest_of ts) < length ts
  fewer = omega (arith, ap length is, length-append (rest_of ts) (t ∷ []))

  -- the arcs by the last come first
  pub arcs_apart : (b : BoardData) (x : List ℕ) → arcs_by_all b x ts ≡ reverse (arcs_onward b.directed x (moves_by (sides_of b.sizes b.wrap) b.piece (box b.sizes) t)) ++ arcs_by_all b x (rest_of ts)
  arcs_apart b x = ap (arcs_by_all b x) is ∙ last_first b x (rest_of ts) t
