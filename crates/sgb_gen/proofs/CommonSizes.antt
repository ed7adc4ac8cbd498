-- What two multisets have in common, counted from the first entry on.
use Rattle.std.proofs.Common.{◌≡◌, ℕ, ◌+◌, ◌*◌, ◌≤◌, ◌<◌, ◌⊎◌, inl, List, [], ◌∷◌, take, drop, get_or, length, zero, suc, min, ltb, refl, ap, arith}
use Rattle.std.proofs.lemmas.Bool.{ltb-true, ltb-false}
use Rattle.std.proofs.lemmas.List.{drop-drop}
use lib.Lanes.{zip2, sel_l, sum_l}
use Rattle.std.specs.Simd.{first_chunks}
use Rattle.sgb_gen.specs.Subsets.{common_size}

-- so many entries are counted
pub record IsCommonSoFar (u v : List ℕ) (n total : ℕ) : Type 0 where
  pub whole : total + common_size (drop n u) (drop n v) ≡ common_size u v
  pub small : total ≤ n * 4_294_967_295

-- so the lesser of each two are chosen
pub lesser_are_minima : (u v : List ℕ) → sel_l (zip2 ltb u v) u v ≡ zip2 min u v
lesser_are_minima (x ∷ u) (y ∷ v) = grind (arith, ltb, ltb-true, ltb-false, lesser_are_minima u v)
lesser_are_minima _ _ = refl

-- what two multisets have in common are the minima of their entries, added
pub common_of_minima : (u v : List ℕ) → sum_l (zip2 min u v) ≡ common_size u v
common_of_minima (x ∷ u) (y ∷ v) = ap (λ n. min x y + n) (common_of_minima u v)
common_of_minima _ _ = refl

-- the minima of so many entries of 32 bits
pub minima_small : (u v : List ℕ) → ((i : ℕ) → get_or u i 0 < 4_294_967_296) → sum_l (zip2 min u v) ≤ length u * 4_294_967_295
minima_small (x ∷ u) (y ∷ v) small = omega (arith, small 0, minima_small u v (λ i. small (suc i)))
minima_small _ _ small = omega arith

none_in_common : (u : List ℕ) → common_size u [] ≡ 0
none_in_common [] = refl
none_in_common (x ∷ u) = refl

-- what is in common in the first n entries, and in those after them
common_split : (n : ℕ) (u v : List ℕ) → common_size (take n u) (take n v) + common_size (drop n u) (drop n v) ≡ common_size u v
common_split zero u v = omega arith
common_split (suc n) [] v = refl
common_split (suc n) (x ∷ u) [] = omega (arith, none_in_common (drop n u))
common_split (suc n) (x ∷ u) (y ∷ v) = omega (arith, common_split n u v)

-- what is in common in each two chunks, added
unfoldable pub common_of_chunks : List (List ℕ) → List (List ℕ) → ℕ
common_of_chunks [] b = 0
common_of_chunks (x ∷ a) [] = 0
common_of_chunks (x ∷ a) (y ∷ b) = common_size x y + common_of_chunks a b

-- what is in common in the first k chunks of n entries, and in what is after them
chunks_then : (n k m : ℕ) (u v : List ℕ) → m ≡ k * n
    → common_of_chunks (first_chunks n k u) (first_chunks n k v) + common_size (drop m u) (drop m v) ≡ common_size u v
unfolding common_of_chunks
chunks_then n zero m u v is = grind (arith)
chunks_then n (suc k) m u v is = grind (arith, drop-drop, common_split, chunks_then n k (k * n) (drop n u) (drop n v) refl)

pub chunks_and_rest : (n k : ℕ) (u v : List ℕ)
    → common_of_chunks (first_chunks n k u) (first_chunks n k v) + common_size (drop (k * n) u) (drop (k * n) v) ≡ common_size u v
chunks_and_rest n k u v = chunks_then n k (k * n) u v refl

-- what so many entries of 32 bits have in common
pub common_small : (u v : List ℕ) → ((i : ℕ) → get_or u i 0 < 4_294_967_296) → common_size u v ≤ length u * 4_294_967_295
common_small u v small = omega (arith, common_of_minima u v, minima_small u v small)

-- nothing is in common where no chunk is left
pub no_chunks : (a b : List (List ℕ)) → (length a ≡ 0) ⊎ (length b ≡ 0) → common_of_chunks a b ≡ 0
unfolding common_of_chunks
no_chunks (x ∷ a) (y ∷ b) (inl none) = omega (arith, none)
no_chunks a b none = grind (arith)

-- where so much is counted before the chunks a and b, it is the whole with the first of them and before the others
pub next_counted : (total rest whole : ℕ) (a b : List (List ℕ)) (x y : List ℕ) (c d : List (List ℕ)) → a ≡ x ∷ c → b ≡ y ∷ d
    → total + (common_of_chunks a b + rest) ≡ whole
    → total + common_size x y + (common_of_chunks c d + rest) ≡ whole
unfolding common_of_chunks
next_counted total rest whole a b x y c d first second counted = omega (arith, rw (first, second) at counted)

-- of two lists that are walked side by side one has come to its end
pub one_ends : {X Y P Q : Type 0} {R : X → Type 0} {S : Y → Type 0} → ((x : X) × (P × R x)) ⊎ ((y : Y) × (Q × S y)) → P ⊎ Q
one_ends h = grind (arith)
