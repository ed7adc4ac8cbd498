-- The table of pairs of subsets: its places, and the cells that are turned so far.
use Rattle.std.proofs.Common.{◌≡◌, ℕ, zero, suc, ◌+◌, ◌-◌, ◌*◌, ◌/◌, ◌%◌, ◌^◌, ◌<◌, ◌≤◌, max, List, [], ◌∷◌, length, refl, sym, ap, ap₂, subst, ◌∙◌, arith, get_or, drop, replicate, set, inl, inr, mul_comm}
use Rattle.std.proofs.lemmas.Bool.{cases_lt}
use Rattle.std.proofs.lemmas.List.{drop_more, get_or-set_same, get_or-set_other}
use Rattle.std.proofs.lemmas.Nat.{div-mul-add, mod-mul-add, mul-add-lt, mul-le}
use Rattle.std.proofs.Math.Nat.{add-mul}
use Rattle.sgb_gen.specs.inner.SubsetsPairs.{AreSummed, HasCounts, IsTurned, cell_count, pairs_below, pairs_of_sums, pairs_up_to, place_of_pairs}
use Rattle.sgb_gen.proofs.SubsetsPairs.{below-cell, ended-none}

-- ---- the places

pub place-within : (total most f s c : ℕ) → f ≤ total → s ≤ total → c ≤ most → place_of_pairs total most f s c < cell_count total most
place-within total most f s c first second few =
    let t = total + 1 in
    let w = most + 1 in
    let pair : f * t + s < t * t = mul-add-lt f t s t (omega (arith, first)) (omega (arith, second)) in
    omega (arith, mul-add-lt (f * t + s) w c (t * t) pair (omega (arith, few)), mul_comm w (t * t))

-- no two cells have one place
place-apart : (total most f s c g t d : ℕ) → s ≤ total → c ≤ most → t ≤ total → d ≤ most → place_of_pairs total most f s c ≡ place_of_pairs total most g t d → (f ≡ g) × (s ≡ t) × (c ≡ d)
place-apart total most f s c g t d second few other fewer same =
    let h = total + 1 in
    let w = most + 1 in
    let pair : f * h + s ≡ g * h + t =
    sym (div-mul-add (f * h + s) w c (omega (arith, few))) ∙ ap (λ n. n / w) same ∙ div-mul-add (g * h + t) w d (omega (arith, fewer)) in (
      sym (div-mul-add f h s (omega (arith, second))) ∙ ap (λ n. n / h) pair ∙ div-mul-add g h t (omega (arith, other)),
      sym (mod-mul-add f h s (omega (arith, second))) ∙ ap (λ n. n % h) pair ∙ mod-mul-add g h t (omega (arith, other)),
      sym (mod-mul-add (f * h + s) w c (omega (arith, few))) ∙ ap (λ n. n % w) same ∙ mod-mul-add (g * h + t) w d (omega (arith, fewer)),
    )

-- lesser sums with some more in common stand before
pub place-before : (total most f s c i j m : ℕ) → i ≤ f → j + m ≤ s → place_of_pairs total most i j (c + m) ≤ place_of_pairs total most f s c
place-before total most f s c i j m first second =
    let h = total + 1 in
    let w = most + 1 in
    let pair : i * h + j + m ≤ f * h + s = omega (arith, mul-le i h f h first (omega arith), second) in
    omega (arith, mul-le (i * h + j + m) w (f * h + s) w pair (omega arith), add-mul (i * h + j) m w, mul-le m 1 m w (omega arith) (omega arith))

-- so those of other sums with as much
pub place-less : (total most f s c i j : ℕ) → i ≤ f → j ≤ s → s ≤ total → c ≤ most → i + j < f + s → place_of_pairs total most i j c < place_of_pairs total most f s c
place-less total most f s c i j first second within few less =
    elim (cases_lt (place_of_pairs total most i j c) (place_of_pairs total most f s c)) [
      | inl before ↦ before
      | inr after ↦
          let below : place_of_pairs total most i j c ≤ place_of_pairs total most f s c =
          subst (λ d. place_of_pairs total most i j d ≤ place_of_pairs total most f s c) (omega arith) (place-before total most f s c i j 0 first (omega (arith, second))) in
          let same = place-apart total most i j c f s c (omega (arith, second, within)) few within few (omega (arith, below, after)) in
          absurd (omega (arith, same.0, same.1, less))
    ]

pub place-end : (total most : ℕ) → place_of_pairs total most (total + 1) 0 0 ≡ cell_count total most
place-end total most = let h = total + 1 in omega (arith, ap (λ n. n * (most + 1)) {x = h * h + 0} {y = h * h} (omega arith))

-- ---- cells that are turned

-- after the last cell of two sums comes the first of the next two, and after the last of one sum the first of the next
pub place-next : (total most f s : ℕ) → place_of_pairs total most f (s + 1) 0 ≡ place_of_pairs total most f s (most + 1)
place-next total most f s = omega arith

pub place-next_row : (total most f : ℕ) → place_of_pairs total most (f + 1) 0 0 ≡ place_of_pairs total most f (total + 1) 0
place-next_row total most f = omega arith

pub turned-before_end : (total most n : ℕ) (low high : ℕ → ℕ → ℕ → ℕ) (table : List ℕ) → n ≡ cell_count total most → IsTurned total most n low high table → HasCounts total most low table
turned-before_end total most n low high table all so f s c within few =
    so.before f s c within few (omega (arith, all, place-within total most f s c (omega (arith, within)) (omega (arith, within)) few))

pub turned-all : (total most n : ℕ) (low high : ℕ → ℕ → ℕ → ℕ) (table : List ℕ) → n ≡ cell_count total most → HasCounts total most low table → IsTurned total most n low high table
turned-all total most n low high table all has = record {
  before = λ f s c within few h. has f s c within few;
  from = λ f s c within few h. absurd (omega (arith, all, h, place-within total most f s c (omega (arith, within)) (omega (arith, within)) few));
}

pub turned-none : (total most n : ℕ) (low high : ℕ → ℕ → ℕ → ℕ) (table : List ℕ) → n ≡ 0 → HasCounts total most high table → IsTurned total most n low high table
turned-none total most n low high table none has = record {
  before = λ f s c within few h. absurd (omega (arith, none, h));
  from = λ f s c within few h. has f s c within few;
}

pub turned-from_start : (total most n : ℕ) (low high : ℕ → ℕ → ℕ → ℕ) (table : List ℕ) → n ≡ 0 → IsTurned total most n low high table → HasCounts total most high table
turned-from_start total most n low high table none so f s c within few = so.from f s c within few (omega (arith, none))

-- past a cell that is not used
pub turned-past_up : (total most f s c : ℕ) (low high : ℕ → ℕ → ℕ → ℕ) (table : List ℕ) → s ≤ total → c ≤ most → total < max f s + c
    → IsTurned total most (place_of_pairs total most f s c) low high table → IsTurned total most (place_of_pairs total most f s c + 1) low high table
turned-past_up total most f s c low high table second few outside so = record {
  before = λ g t d within fewer earlier.
      elim (cases_lt (place_of_pairs total most g t d) (place_of_pairs total most f s c)) [
        | inl less ↦ so.before g t d within fewer less
        | inr here ↦
            let one = place-apart total most f s c g t d second few (omega (arith, within)) fewer (omega (arith, here, earlier)) in
            absurd (omega (arith, one.0, one.1, one.2, outside, within))
      ];
  from = λ g t d within fewer later. so.from g t d within fewer (omega (arith, later));
}

pub turned-past_down : (total most f s c : ℕ) (low high : ℕ → ℕ → ℕ → ℕ) (table : List ℕ) → s ≤ total → c ≤ most → total < max f s + c
    → IsTurned total most (place_of_pairs total most f s c + 1) low high table → IsTurned total most (place_of_pairs total most f s c) low high table
turned-past_down total most f s c low high table second few outside so = record {
  before = λ g t d within fewer earlier. so.before g t d within fewer (omega (arith, earlier));
  from = λ g t d within fewer later.
      elim (cases_lt (place_of_pairs total most f s c) (place_of_pairs total most g t d)) [
        | inl less ↦ so.from g t d within fewer (omega (arith, less))
        | inr here ↦
            let one = place-apart total most f s c g t d second few (omega (arith, within)) fewer (omega (arith, here, later)) in
            absurd (omega (arith, one.0, one.1, one.2, outside, within))
      ];
}

-- the cell of a place, where it is set
cell-set : (total most place count f s c g t d : ℕ) (counts : ℕ → ℕ → ℕ → ℕ) (table : List ℕ) → place < length table → place ≡ place_of_pairs total most f s c → s ≤ total → c ≤ most → t ≤ total → d ≤ most
    → count ≡ counts f s c % 2 ^ 64 → place ≡ place_of_pairs total most g t d → get_or (set table place count) (place_of_pairs total most g t d) 0 ≡ counts g t d % 2 ^ 64
cell-set total most place count f s c g t d counts table inside place_is second few other fewer is there =
    let one = place-apart total most f s c g t d second few other fewer (sym place_is ∙ there) in
    let same : counts f s c % 2 ^ 64 ≡ counts g t d % 2 ^ 64 = rw (one.0, one.1, one.2) refl in
    ap (λ i. get_or (set table place count) i 0) (sym there) ∙ get_or-set_same table place count 0 inside ∙ is ∙ same

-- a cell more, upwards and downwards
pub turned-up : (total most place count f s c : ℕ) (low high : ℕ → ℕ → ℕ → ℕ) (table : List ℕ) → place < length table → place ≡ place_of_pairs total most f s c → s ≤ total → c ≤ most
    → count ≡ low f s c % 2 ^ 64
    → IsTurned total most (place_of_pairs total most f s c) low high table → IsTurned total most (place_of_pairs total most f s c + 1) low high (set table place count)
turned-up total most place count f s c low high table inside place_is second few is so = record {
  before = λ g t d within fewer earlier.
      elim (cases_lt (place_of_pairs total most g t d) place) [
        | inl less ↦
            get_or-set_other table place (place_of_pairs total most g t d) count 0 (λ same. omega (arith, same, less)) ∙ so.before g t d within fewer (omega (arith, less, place_is))
        | inr here ↦ cell-set total most place count f s c g t d low table inside place_is second few (omega (arith, within)) fewer is (omega (arith, here, earlier, place_is))
      ];
  from = λ g t d within fewer later.
      get_or-set_other table place (place_of_pairs total most g t d) count 0 (λ same. omega (arith, same, later, place_is)) ∙ so.from g t d within fewer (omega (arith, later));
}

pub turned-down : (total most place count f s c : ℕ) (low high : ℕ → ℕ → ℕ → ℕ) (table : List ℕ) → place < length table → place ≡ place_of_pairs total most f s c → s ≤ total → c ≤ most
    → count ≡ high f s c % 2 ^ 64
    → IsTurned total most (place_of_pairs total most f s c + 1) low high table → IsTurned total most (place_of_pairs total most f s c) low high (set table place count)
turned-down total most place count f s c low high table inside place_is second few is so = record {
  before = λ g t d within fewer earlier.
      get_or-set_other table place (place_of_pairs total most g t d) count 0 (λ same. omega (arith, same, earlier, place_is)) ∙ so.before g t d within fewer (omega (arith, earlier));
  from = λ g t d within fewer later.
      elim (cases_lt place (place_of_pairs total most g t d)) [
        | inl less ↦
            get_or-set_other table place (place_of_pairs total most g t d) count 0 (λ same. omega (arith, same, less)) ∙ so.from g t d within fewer (omega (arith, less, place_is))
        | inr here ↦ cell-set total most place count f s c g t d high table inside place_is second few (omega (arith, within)) fewer is (omega (arith, here, later, place_is))
      ];
}

-- what stands before a cell, with some more in common, is summed
pub summed-before : (total most n f s c m x y d sb bound : ℕ) (bs table : List ℕ) → n ≡ place_of_pairs total most f s c + 1 → max f s + c ≤ total → m ≤ f → m ≤ s → c + m ≤ most → x ≡ f - m + 1 → y ≡ s - m + 1 → d ≡ c + m
    → IsTurned total most n (pairs_up_to sb bs) (pairs_of_sums sb (bound ∷ bs)) table → AreSummed total most sb bs x y d table
summed-before total most n f s c m x y d sb bound bs table n_is used first second few x_is y_is d_is so = λ i j low high.
    let before : place_of_pairs total most i j d ≤ place_of_pairs total most f s c =
    subst (λ e. place_of_pairs total most i j e ≤ place_of_pairs total most f s c) (sym d_is) (place-before total most f s c i j m (omega (arith, low, x_is)) (omega (arith, high, y_is, second))) in
    so.before i j d (omega (arith, low, high, x_is, y_is, d_is, used, first, second)) (omega (arith, d_is, few)) (omega (arith, n_is, before))

-- so with as much in common, upwards
pub summed-less : (total most f s c x y sb : ℕ) (bs table : List ℕ) → max f s + c ≤ total → c ≤ most → x ≤ f + 1 → y ≤ s + 1 → x + y < f + s + 2
    → IsTurned total most (place_of_pairs total most f s c) (pairs_up_to sb bs) (pairs_of_sums sb bs) table → AreSummed total most sb bs x y c table
summed-less total most f s c x y sb bs table used few first second less so = λ i j low high.
    so.before i j c (omega (arith, low, high, first, second, used)) few (place-less total most f s c i j (omega (arith, low, first)) (omega (arith, high, second)) (omega (arith, used)) few (omega (arith, low, high, less)))

-- the cell itself
pub summed-cell : (total most f s c old cell row column both : ℕ) (sb : ℕ) (bs table : List ℕ) → max f s + c ≤ total → c ≤ most → cell < 2 ^ 64
    → IsTurned total most (place_of_pairs total most f s c) (pairs_up_to sb bs) (pairs_of_sums sb bs) table
    → old ≡ get_or table (place_of_pairs total most f s c) 0
    → row ≡ pairs_below sb bs f (s + 1) c % 2 ^ 64 → column ≡ pairs_below sb bs (f + 1) s c % 2 ^ 64 → both ≡ pairs_below sb bs f s c % 2 ^ 64
    → (cell + both) % 2 ^ 64 ≡ (old + row + column) % 2 ^ 64 → cell ≡ pairs_up_to sb bs f s c % 2 ^ 64
summed-cell total most f s c old cell row column both sb bs table used few fits so old_is row_is column_is both_is is =
    omega (arith, fits, old_is, so.from f s c used few (omega arith), row_is, column_is, both_is, is, below-cell sb f s c bs)

-- ---- no bounds

zeros : (n i : ℕ) → ◌≡◌ {A = ℕ} (get_or (replicate n 0) i 0) 0
zeros zero i = refl
zeros (suc n) zero = refl
zeros (suc n) (suc i) = zeros n i

-- the cells so far
pub record HasEndedPairs (sb n : ℕ) (table : List ℕ) : Type 0 where
  pub done : (c : ℕ) → c < n → get_or table c 0 ≡ pairs_of_sums sb [] 0 0 c % 2 ^ 64
  pub left : (p : ℕ) → n ≤ p → get_or table p 0 ≡ 0

pub ended_pairs-none : (sb n : ℕ) (table : List ℕ) → table ≡ replicate n 0 → HasEndedPairs sb 0 table
ended_pairs-none sb n table is = record {
  done = λ c low. absurd (omega (arith, low));
  left = λ p high. ap (λ xs. get_or xs p 0) is ∙ zeros n p;
}

pub ended_pairs-more : (sb n count : ℕ) (table : List ℕ) → n < length table → count ≡ pairs_of_sums sb [] 0 0 n % 2 ^ 64 → HasEndedPairs sb n table → HasEndedPairs sb (n + 1) (set table n count)
ended_pairs-more sb n count table within is so = record {
  done = λ c low.
      elim (cases_lt c n) [
        | inl earlier ↦ get_or-set_other table n c count 0 (λ same. omega (arith, same, earlier)) ∙ so.done c earlier
        | inr late ↦
            let here : n ≡ c = omega (arith, low, late) in
            ap (λ i. get_or (set table n count) i 0) (sym here) ∙ get_or-set_same table n count 0 within ∙ is ∙ ap (λ d. pairs_of_sums sb [] 0 0 d % 2 ^ 64) here
      ];
  left = λ p high. get_or-set_other table n p count 0 (λ same. omega (arith, same, high)) ∙ so.left p (omega (arith, high));
}

past_first : (total most f s c n : ℕ) → n ≡ most + 1 → 0 < f + s → n ≤ place_of_pairs total most f s c
past_first total most f s c n all some =
    let h = total + 1 in
    let w = most + 1 in
    let pair : 1 ≤ f * h + s = omega (arith, mul-le f 1 f h (omega arith) (omega arith), some) in
    omega (arith, all, mul-le 1 w (f * h + s) w pair (omega arith))

pub ended_pairs-all : (sb total most n : ℕ) (table : List ℕ) → n ≡ most + 1 → HasEndedPairs sb n table → HasCounts total most (pairs_of_sums sb []) table
ended_pairs-all sb total most n table all so zero zero c within few =
    ap (λ p. get_or table p 0) {y = c} (omega arith) ∙ so.done c (omega (arith, all, few))
ended_pairs-all sb total most n table all so zero (suc s) c within few =
    so.left (place_of_pairs total most zero (suc s) c) (past_first total most zero (suc s) c n all (omega arith)) ∙ ap (λ n. n % 2 ^ 64) (ended-none sb zero (suc s) c (omega arith))
ended_pairs-all sb total most n table all so (suc f) s c within few =
    so.left (place_of_pairs total most (suc f) s c) (past_first total most (suc f) s c n all (omega arith)) ∙ ap (λ n. n % 2 ^ 64) (ended-none sb (suc f) s c (omega arith))

-- ---- all bounds

pub counts-one_in : (sb total most k bound : ℕ) (bounds table : List ℕ) → 0 < k → k ≤ length bounds → bound ≡ get_or bounds (k - 1) 0 → HasCounts total most (pairs_of_sums sb (bound ∷ drop k bounds)) table → HasCounts total most (pairs_of_sums sb (drop (k - 1) bounds)) table
counts-one_in sb total most k bound bounds table some within bound_is has =
    let next : k - 1 + 1 ≡ k = omega (arith, some) in
    let first : drop (k - 1) bounds ≡ bound ∷ drop k bounds =
    drop_more bounds (k - 1) 0 (omega (arith, some, within)) ∙ ap₂ (λ h n. h ∷ drop n bounds) (sym bound_is) next in
    subst (λ bs. HasCounts total most (pairs_of_sums sb bs) table) (sym first) has
