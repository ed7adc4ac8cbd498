-- Vectors and lists of them in lexicographic order.
use Rattle.std.proofs.Common.{◌≡◌, ℕ, zero, suc, ◌<◌, List, [], ◌∷◌, length, get_or, refl, sym, subst, ◌∙◌, inl, inr, arith, rules}
use Rattle.std.specs.List.{All, Contains}
use Rattle.std.specs.Cmp.Lexicographic.{nat_list_cmp_total}
use Rattle.std.proofs.lemmas.Cmp.{tied_itself}
use Rattle.std.proofs.lemmas.List.Elements.{All-contains, All-head, All-tail}
use Rattle.sgb_vec.proofs.Lists.{AllPairs-first, AllPairs-others, Contains-cases, Contains-none}
use Rattle.sgb_vec.specs.Lexicographic.{IsBefore, IsRising}
use Rattle.sgb_vec.proofs.SumSuccessors.{IsBefore-less, IsBefore-same}

-- no vector is before itself, nor each of two before the other
pub before_none : (v : List ℕ) → IsBefore v v → ⊥
before_none v h = let same = tied_itself nat_list_cmp_total v in cc

pub before_trans : (u v w : List ℕ) → IsBefore u v → IsBefore v w → IsBefore u w
before_trans u v w = nat_list_cmp_total.trans u v w

-- of rising lists with the same elements, the first elements are the same
first_same : (v w : List ℕ) (vs ws : List (List ℕ)) → All (IsBefore v) vs → All (IsBefore w) ws → Contains (w ∷ ws) v → Contains (v ∷ vs) w → v ≡ w
first_same v w vs ws after_v after_w hv hw = grind (arith, Contains-cases, before_none, before_trans, All-contains)

-- and the others have the same elements
others_there : (v w : List ℕ) (vs ws : List (List ℕ)) → v ≡ w → All (IsBefore v) vs → All (Contains (w ∷ ws)) vs → All (Contains ws) vs
others_there v w vs ws same after there k d within =
    elim (Contains-cases w (get_or vs k d) ws (there k d within)) [
      | inl equal ↦ absurd (before_none v (subst (IsBefore v) (sym equal ∙ sym same) (after k d within)))
      | inr later ↦ later
    ]

-- so rising lists with the same elements are the same
pub rising_same : (vs ws : List (List ℕ)) → IsRising vs → IsRising ws → All (Contains ws) vs → All (Contains vs) ws → vs ≡ ws
rising_same [] [] hv hw there back = refl
rising_same [] (w ∷ ws) hv hw there back = absurd (Contains-none w (All-head (Contains []) w ws back))
rising_same (v ∷ vs) [] hv hw there back = absurd (Contains-none v (All-head (Contains []) v vs there))
rising_same (v ∷ vs) (w ∷ ws) hv hw there back =
    let after_v = AllPairs-first IsBefore v vs hv in
    let after_w = AllPairs-first IsBefore w ws hw in
    search (rules, first_same, All-head, AllPairs-others, others_there, All-tail, IsBefore, after_v, after_w, rising_same vs ws (AllPairs-others IsBefore v vs hv) (AllPairs-others IsBefore w ws hw) (others_there v w vs ws (first_same v w vs ws after_v after_w (All-head (Contains (w ∷ ws)) v vs there) (All-head (Contains (v ∷ vs)) w ws back)) after_v (All-tail (Contains (w ∷ ws)) v vs there)) (others_there w v ws vs (sym (first_same v w vs ws after_v after_w (All-head (Contains (w ∷ ws)) v vs there) (All-head (Contains (v ∷ vs)) w ws back))) after_w (All-tail (Contains (v ∷ vs)) w ws back)))

-- a vector is before another where the first entries are alike and the next one is less
pub before_at : (v w : List ℕ) (p : ℕ) → ((i : ℕ) → i < p → get_or v i 0 ≡ get_or w i 0) → get_or v p 0 < get_or w p 0 → p < length v → p < length w → IsBefore v w
before_at (x ∷ v) (y ∷ w) zero alike less in_v in_w = IsBefore-less x y v w less
before_at (x ∷ v) (y ∷ w) (suc p) alike less in_v in_w =
    IsBefore-same x y v w (alike 0 (omega arith)) (before_at v w p (λ i h. alike (suc i) (omega arith)) less (omega arith) (omega arith))
before_at _ _ p alike less in_v in_w = absurd (omega arith)
