-- Each vector of a box has one entry for each size: the law of the family of a box. It stands here
-- because the code of an impl names the proof of its laws, and code names only what stands in specs.
use Rattle.std.specs.Prelude.{◌≡◌, ℕ, List, [], ◌∷◌, length, map, All, Contains}
use Rattle.std.specs.List.{flat_map, range_with_len}
use Rattle.std.proofs.Common.{suc, refl, ap}
use Rattle.std.proofs.lemmas.List.Elements.{All-nil, All-cons, All-append, All-map, All-weaker, All-contains}
use Rattle.sgb_vec.specs.Boxes.{box}

-- what holds of each vector of each row holds of each vector of the rows joined
All-rows : (P : List ℕ → Type 0) (f : ℕ → List (List ℕ)) → ((x : ℕ) → All P (f x)) → (xs : List ℕ) → All P (flat_map f xs)
All-rows P f h [] = All-nil P
All-rows P f h (x ∷ xs) = All-append P (f x) (flat_map f xs) (h x) (All-rows P f h xs)

-- each vector of a box has as many entries as there are sizes
All-box_length : (sizes : List ℕ) → All (λ v. length v ≡ length sizes) (box sizes)
unfolding box
All-box_length [] = All-cons (λ v. length v ≡ 0) [] [] refl (All-nil (λ v. length v ≡ 0))
All-box_length (s ∷ sizes) =
    let P : List ℕ → Type 0 = λ v. length v ≡ length (s ∷ sizes) in
    let longer = λ (x : ℕ). All-weaker (λ v. length v ≡ length sizes) (λ v. P (x ∷ v)) (λ v e. ap suc e) (box sizes) (All-box_length sizes) in
    All-rows P (λ x. map (λ v. x ∷ v) (box sizes)) (λ x. All-map P (λ v. x ∷ v) (box sizes) (longer x)) (range_with_len 0 s)

-- the same of one vector
pub length-box_member : (sizes v : List ℕ) → Contains (box sizes) v → length v ≡ length sizes
length-box_member sizes v h = All-contains (λ w. length w ≡ length sizes) (box sizes) v (All-box_length sizes) h
