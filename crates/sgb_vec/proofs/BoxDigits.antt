-- The vector at a place of a box: the digits of the place in mixed radix.
use Rattle.sgb_vec.proofs.Common.{◌≡◌, ℕ, zero, suc, ◌+◌, ◌*◌, ◌/◌, ◌%◌, ◌<◌, List, [], ◌∷◌, length, get_or, drop, set, Some, refl, sym, ap, subst, ◌∙◌, arith, rules, slice_get, at_drop_more, drop-set, mod_below}
use Rattle.sgb_vec.specs.Boxes.{box, product_of}
use Rattle.sgb_vec.specs.Lexicographic.{IsBelow}
use Rattle.sgb_vec.proofs.BoxPlaces.{place_of, slice_get-place_of}
use Rattle.sgb_vec.proofs.Products.{factors-pos}

-- the entries from number k on are the last digits of the place, and the rest is what stands before them
abbrev pub AreDigits : List ℕ → List ℕ → ℕ → ℕ → ℕ → Type 0
AreDigits sizes entries k rest place =
    IsBelow (drop k entries) (drop k sizes) × (rest * product_of (drop k sizes) + place_of (drop k sizes) (drop k entries) ≡ place)

-- no size is 0 where there are vectors
pub size-pos : (sizes : List ℕ) (k : ℕ) → 0 < product_of sizes → k < length sizes → 0 < get_or sizes k 0
size-pos [] k h w = absurd (omega arith)
size-pos (s ∷ sizes) zero h w = (factors-pos s (product_of sizes) h).0
size-pos (s ∷ sizes) (suc k) h w = size-pos sizes k (factors-pos s (product_of sizes) h).1 (omega arith)

-- one digit of the rest put in front of those that stand
digit_more : (s n rest front : ℕ) → (rest / s) * (s * n) + ((rest % s) * n + front) ≡ rest * n + front
digit_more s n rest front =
    let grouped : (rest / s) * (s * n) + ((rest % s) * n + front) ≡ (rest / s * s + rest % s) * n + front = omega arith in
    grind arith

pub digits-more : (sizes entries : List ℕ) (k next rest place : ℕ) → next ≡ k + 1 → 0 < product_of sizes → k < length sizes → length entries ≡ length sizes
    → AreDigits sizes entries next rest place
    → AreDigits sizes (set entries k (rest % get_or sizes k 0)) k (rest / get_or sizes k 0) place
digits-more sizes entries k next rest place after some h e behind =
    let digits : AreDigits sizes entries (k + 1) rest place = subst (λ j. AreDigits sizes entries j rest place) after behind in
    let s = get_or sizes k 0 in
    let x = rest % s in
    let n = product_of (drop (k + 1) sizes) in
    let here : drop k sizes ≡ s ∷ drop (k + 1) sizes = at_drop_more (λ xs. xs) sizes k 0 h in
    search (rules, drop-set, mod_below, size-pos, digit_more, here)

-- all of them are the vector at the place
pub digits-all : (sizes entries : List ℕ) (k rest place : ℕ) → k ≡ 0 → place < product_of sizes → AreDigits sizes entries k rest place
    → slice_get (box sizes) place ≡ Some entries
digits-all sizes entries k rest place zero_left within digits =
    let whole : AreDigits sizes entries 0 rest place = subst (λ j. AreDigits sizes entries j rest place) zero_left digits in
    let none : rest ≡ 0 = no_rest rest (product_of sizes) (place_of sizes entries) place within whole.1 in
    let same : place_of sizes entries ≡ place = omega (arith, whole.1, ap (λ m. m * product_of sizes) none) in
    ap (slice_get (box sizes)) (sym same) ∙ slice_get-place_of sizes entries whole.0
  where
    no_rest : (r n front p : ℕ) → p < n → r * n + front ≡ p → r ≡ 0
    no_rest zero n front p h e = refl
    no_rest (suc r) n front p h e = grind (arith)
