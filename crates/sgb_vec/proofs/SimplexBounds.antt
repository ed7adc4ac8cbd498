-- The bounds and parameters of a simplex, one bound or one entry at a time.
use Rattle.sgb_vec.proofs.Common.{◌≡◌, ℕ, zero, suc, ℤ, pos, negsuc, ◌+◌, ◌%◌, ◌≤◌, min, List, [], ◌∷◌, ◌++◌, false, get_or, length, map, Ok, Err, refl, ap, subst, arith, rules, Bool, nat_abs, All, if◌then◌else◌, nat_tests, map-append, length-map, All-nil, All-cons}
use Rattle.sgb_vec.specs.Limits.{most_dimensions, most_vertices}
use Rattle.sgb_vec.specs.Sizes.{Normalized, before_stop, count_by_stop, stop_of, zero_after_stop, repeated}
use Rattle.sgb_vec.specs.Bounds.{first_parameter, bounds_to_repeat, clamped_parameter, simplex_of}
use Rattle.sgb_vec.specs.declared.panics.Panic.TheVariants.{Bad, VeryBad}
use Rattle.sgb_vec.proofs.BoardSizes.{repeated-none, repeated-more}

-- no bound clamped
pub clamped-none : (n : ℕ) (s : List ℕ) → map (λ b. min b n) (repeated s 0) ≡ []
clamped-none n s = rw (repeated-none s) refl

-- one more bound clamped
pub clamped-more : (n : ℕ) (s : List ℕ) (k : ℕ) → map (λ b. min b n) (repeated s (k + 1)) ≡ map (λ b. min b n) (repeated s k) ++ min (get_or s (k % length s) 0) n ∷ []
clamped-more n s k = rw (repeated-more s k, map-append (λ b. min b n) (repeated s k) (get_or s (k % length s) 0 ∷ [])) refl

-- a parameter stands for each entry
pub length-zero_after_stop : (entries : List ℤ) → length (zero_after_stop entries) ≡ length entries
length-zero_after_stop [] = refl
length-zero_after_stop (pos zero ∷ rest) = grind (arith, length-map rest (λ (n : ℤ). pos 0))
length-zero_after_stop (pos (suc n) ∷ rest) = grind (arith, length-zero_after_stop rest)
length-zero_after_stop (negsuc d ∷ rest) = grind (arith, length-map rest (λ (n : ℤ). pos 0))

-- what is accepted where neither test refuses it
accepted_of : (b c : Bool) (given shape : Normalized) → (if b then Err Bad else (if c then Err VeryBad else Ok given)) ≡ Ok shape → (b ≡ false) × (c ≡ false) × (given ≡ shape)
accepted_of b c given shape accepted = grind (arith)

-- zeros after the stop stay zeros
zeros_small : (n most : ℕ) (rest : List ℤ) → All (λ p. nat_abs p ≤ most) (map (clamped_parameter n) (map (λ z. pos 0) rest))
zeros_small n most [] = All-nil (λ p. nat_abs p ≤ most)
zeros_small n most (z ∷ rest) = All-cons (λ p. nat_abs p ≤ most) (clamped_parameter n (pos 0)) _ (omega arith) (zeros_small n most rest)

-- the entries as the official name has them are not above n, and not below the stop
entries_small : (n most : ℕ) (entries : List ℤ) → n ≤ most → ((e : ℕ) → stop_of entries ≡ negsuc e → e + 1 ≤ most) → All (λ p. nat_abs p ≤ most) (map (clamped_parameter n) (zero_after_stop entries))
entries_small n most [] h stop = All-nil (λ p. nat_abs p ≤ most)
entries_small n most (pos zero ∷ rest) h stop = All-cons (λ p. nat_abs p ≤ most) (clamped_parameter n (pos 0)) _ (omega arith) (zeros_small n most rest)
entries_small n most (pos (suc k) ∷ rest) h stop = All-cons (λ p. nat_abs p ≤ most) (pos (min (suc k) n)) _ (omega arith) (entries_small n most rest h stop)
entries_small n most (negsuc e ∷ rest) h stop = All-cons (λ p. nat_abs p ≤ most) (negsuc e) _ (omega (arith, stop e refl)) (zeros_small n most rest)

-- each parameter of an accepted simplex has a magnitude of at most 1,000,000,000
pub small_parameters : (n n0 n1 n2 n3 n4 : ℤ) (shape : Normalized) → simplex_of n n0 n1 n2 n3 n4 ≡ Ok shape → All (λ p. nat_abs p ≤ most_vertices) shape.params
small_parameters (negsuc n) n0 n1 n2 n3 n4 shape accepted = absurd (search (rules, accepted))
small_parameters (pos n) n0 n1 n2 n3 n4 shape accepted =
    let entries = first_parameter n0 ∷ n1 ∷ n2 ∷ n3 ∷ n4 ∷ [] in
    let s = bounds_to_repeat n (before_stop entries) in
    let w = accepted_of _ _ _ shape accepted in
    let few : count_by_stop 1 s (stop_of entries) ≤ most_dimensions + 1 = grind (arith, nat_tests, w.0) in
    let low : n ≤ most_vertices = grind (arith, nat_tests, w.1) in
    let stop : (e : ℕ) → stop_of entries ≡ negsuc e → e + 1 ≤ most_vertices = λ e same. omega (arith, few, ap (count_by_stop 1 s) same) in
    subst (λ (r : Normalized). All (λ p. nat_abs p ≤ most_vertices) r.params) w.2
    (All-cons (λ p. nat_abs p ≤ most_vertices) (pos n) _ low (entries_small n most_vertices entries low stop))
