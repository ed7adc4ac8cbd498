-- How many entries differ between two vectors that agree before some place.
use Rattle.std.proofs.Common.{◌≡◌, ℕ, zero, suc, ◌+◌, ◌-◌, ◌<◌, ◌≤◌, true, List, [], ◌∷◌, length, get_or, eqb, refl, ◌∙◌, arith, eq-eqb}
use Rattle.sgb_vec.specs.Visits.{HasVisited, changed_entries}

-- one entry more is at most one change more
changed-more : (x y : ℕ) (v w : List ℕ) → changed_entries (x ∷ v) (y ∷ w) ≤ changed_entries v w + 1
changed-more x y v w = grind arith

-- one entry more that is the same is no change more
changed-same : (x y : ℕ) (v w : List ℕ) → x ≡ y → changed_entries (x ∷ v) (y ∷ w) ≡ changed_entries v w
changed-same x y v w e = let same : eqb x y ≡ true = eq-eqb x y e in rw same refl

-- nothing differs between a vector and itself
changed-none : (v : List ℕ) → changed_entries v v ≡ 0
changed-none [] = refl
changed-none (x ∷ v) = changed-same x x v v refl ∙ changed-none v

-- no more entries differ than there are
changed-length : (v w : List ℕ) → changed_entries v w ≤ length v
changed-length (x ∷ v) (y ∷ w) = omega (arith, changed-more x y v w, changed-length v w)
changed-length _ _ = omega arith

-- what agrees before place p differs at most from p on
changed-from : (v w : List ℕ) (p : ℕ) → p ≤ length v → ((k : ℕ) → k < p → get_or w k 0 ≡ get_or v k 0) → changed_entries v w + p ≤ length v
changed-from v w zero h same = omega (arith, changed-length v w)
changed-from [] w (suc p) h same = absurd (omega arith)
changed-from (x ∷ v) [] (suc p) h same = omega arith
changed-from (x ∷ v) (y ∷ w) (suc p) h same =
    let here : y ≡ x = same 0 (omega arith) in
    grind (arith, changed-from v w p (omega arith) (λ k m. same (suc k) (omega arith)))

-- a walk that looks from the end back to place p, and then writes what stands after it, has visited enough and not too much
pub HasVisited-from : (v w : List ℕ) (p entries before middle after : ℕ) → length v ≡ entries → p < length v → ((k : ℕ) → k < p → get_or w k 0 ≡ get_or v k 0) → middle + p ≡ before + length v → after ≡ middle + (length v - (p + 1)) → HasVisited entries (changed_entries v w) before after
HasVisited-from v w p entries before middle after e h same looked written =
    let few = changed-from v w p (omega arith) same in
    (omega (arith, few), omega arith)

-- and so has one that looks at all entries and changes none
pub HasVisited-all : (v : List ℕ) (entries before after : ℕ) → length v ≡ entries → after ≡ before + length v → HasVisited entries (changed_entries v v) before after
HasVisited-all v entries before after e looked = (omega (arith, changed-none v), omega arith)
