-- Pairs of subsets counted by the first entries of both vectors.
use Rattle.std.proofs.Common.{◌≡◌, ℕ, zero, suc, ◌+◌, ◌-◌, ◌*◌, ◌<◌, ◌≤◌, ◌⊎◌, min, max, Bool, cond, List, [], ◌∷◌, ◌++◌, length, map, reverse, refl, sym, ap, ap₂, ◌∙◌, arith, inl, inr}
use Rattle.std.proofs.lemmas.Bool.{cases_lt}
use Rattle.sgb_vec.specs.Boxes.{box}
use Rattle.sgb_vec.specs.Limits.{most_vertices}
use Rattle.sgb_vec.specs.Sums.{bounded_sums}
use Rattle.sgb_vec.proofs.Lists.{reverse-first}
use Rattle.sgb_gen.specs.Subsets.{is_wanted_size}
use Rattle.sgb_gen.specs.inner.Descents.{row, rows}
use Rattle.sgb_gen.specs.inner.SubsetsCounts.{HasNoneAbove}
use Rattle.sgb_gen.specs.inner.SubsetsPairs.{HasMost, added, pairs_among, pairs_below, pairs_of_sums}
use Rattle.sgb_gen.proofs.Descents.{row-within, rows-end, rows-first, sums-past, sums-rows}
use Rattle.sgb_gen.proofs.SubsetsCounts.{among-append, among-most, among-none, among-reverse, among-row, among-zeros}

-- ---- pairs of two lists

pairs-first : (sb c : ℕ) (us ws vs : List (List ℕ)) → pairs_among sb c (us ++ ws) vs ≡ pairs_among sb c us vs + pairs_among sb c ws vs
pairs-first sb c [] ws vs = omega arith
pairs-first sb c (u ∷ us) ws vs = omega (arith, pairs-first sb c us ws vs)

pub pairs-second : (sb c : ℕ) (us vs ws : List (List ℕ)) → pairs_among sb c us (vs ++ ws) ≡ pairs_among sb c us vs + pairs_among sb c us ws
pairs-second sb c [] vs ws = omega arith
pairs-second sb c (u ∷ us) vs ws = omega (arith, among-append sb c u vs ws, pairs-second sb c us vs ws)

pairs-none : (sb c : ℕ) (us : List (List ℕ)) → 0 ≡ pairs_among sb c us []
pairs-none sb c [] = refl
pairs-none sb c (u ∷ us) = omega (arith, pairs-none sb c us)

-- in the other order they are as many
pairs-reverse_first : (sb c : ℕ) (us vs : List (List ℕ)) → pairs_among sb c (reverse us) vs ≡ pairs_among sb c us vs
pairs-reverse_first sb c [] vs = refl
pairs-reverse_first sb c (u ∷ us) vs = grind (arith, reverse-first, pairs-first, reverse, pairs-reverse_first sb c us vs)

pairs-reverse_second : (sb c : ℕ) (us vs : List (List ℕ)) → pairs_among sb c us (reverse vs) ≡ pairs_among sb c us vs
pairs-reverse_second sb c [] vs = refl
pairs-reverse_second sb c (u ∷ us) vs = ap₂ (λ m n. m + n) (among-reverse sb c u vs) (pairs-reverse_second sb c us vs)

-- there are few
pub pairs-few : (sb c : ℕ) (us vs : List (List ℕ)) → length vs ≤ most_vertices → pairs_among sb c us vs ≤ length us * most_vertices
pairs-few sb c [] vs few = omega arith
pairs-few sb c (u ∷ us) vs few = omega (arith, few, among-most sb c u vs, pairs-few sb c us vs few)

-- ---- by the first entries

-- vectors that begin with x, and those that begin with y: they have the lesser one of the two more in common
pairs-beginning : (sb c x y r : ℕ) (bs : List ℕ) (us : List (List ℕ)) → y ≤ r → pairs_among sb c (map (λ u. x ∷ u) us) (row r bs y) ≡ pairs_among sb (c + min x y) us (reverse (bounded_sums (r - y) bs))
pairs-beginning sb c x y r bs [] within = refl
pairs-beginning sb c x y r bs (u ∷ us) within =
    ap₂ (λ m n. m + n) (sym (among-row sb c r x y bs u within)) (pairs-beginning sb c x y r bs us within)

-- all vectors with one bound more
rows-of_all : (r b : ℕ) (bs : List ℕ) → rows r bs 0 (min r b + 1) ≡ reverse (bounded_sums r (b ∷ bs))
rows-of_all r b bs =
    ap (rows r bs 0) {y = min r b + 1 - 0} (omega arith)
    ∙ sym (rows-end r bs 0 b (omega arith))
    ∙ ap (rows r bs 0) {y = b + 1} (omega arith)
    ∙ sym (sums-rows r b bs)

pairs-all : (sb c q r b : ℕ) (bs : List ℕ) → pairs_among sb c (rows q bs 0 (min q b + 1)) (rows r bs 0 (min r b + 1)) ≡ pairs_of_sums sb (b ∷ bs) q r c
pairs-all sb c q r b bs = grind (arith, rows-of_all, pairs-reverse_first, reverse, pairs-reverse_second)

-- one first entry of each
pairs-entries : (sb c x y q r : ℕ) (bs : List ℕ) → x ≤ q → y ≤ r → pairs_among sb c (row q bs x) (row r bs y) ≡ pairs_of_sums sb bs (q - x) (r - y) (c + min x y)
pairs-entries sb c x y q r bs first second =
    ap (λ us. pairs_among sb c us (row r bs y)) (row-within q x bs first)
    ∙ pairs-beginning sb c x y r bs (reverse (bounded_sums (q - x) bs)) second
    ∙ pairs-reverse_first sb (c + min x y) (bounded_sums (q - x) bs) (reverse (bounded_sums (r - y) bs))
    ∙ pairs-reverse_second sb (c + min x y) (bounded_sums (q - x) bs) (bounded_sums (r - y) bs)

-- ---- by the lesser first entry

-- the first vector begins with m, and the second one with one of k entries from m on
along_row : (sb c q r m k : ℕ) (bs : List ℕ) → m ≤ q → m + k ≤ r + 1
    → pairs_among sb c (row q bs m) (rows r bs m k) + added (r + 1 - m - k) (λ j. pairs_of_sums sb bs (q - m) j (c + m)) ≡ added (r + 1 - m) (λ j. pairs_of_sums sb bs (q - m) j (c + m))
along_row sb c q r m zero bs first within =
    omega (arith, pairs-none sb c (row q bs m), ap (λ n. added n (λ j. pairs_of_sums sb bs (q - m) j (c + m))) {x = r + 1 - m - 0} {y = r + 1 - m} (omega arith))
along_row sb c q r m (suc k) bs first within =
    let f : ℕ → ℕ = λ j. pairs_of_sums sb bs (q - m) j (c + m) in
    let y = r - (m + k) in
    let here : pairs_among sb c (row q bs m) (row r bs (m + k)) ≡ f y =
    pairs-entries sb c m (m + k) q r bs first (omega (arith, within)) ∙ ap (pairs_of_sums sb bs (q - m) y) (omega arith) in
    let one : added (r + 1 - m - k) f ≡ added y f + f y = ap (λ n. added n f) {y = suc y} (omega (arith, within)) in
    let less : added (r + 1 - m - suc k) f ≡ added y f = ap (λ n. added n f) (omega (arith, within)) in
    omega (arith, here, one, less, pairs-second sb c (row q bs m) (row r bs (m + k)) (rows r bs m k), along_row sb c q r m k bs first (omega (arith, within)))

-- the second vector begins with m, and the first one with one of k greater entries
along_column : (sb c q r m k : ℕ) (bs : List ℕ) → m ≤ r → m + k ≤ q
    → pairs_among sb c (rows q bs (m + 1) k) (row r bs m) + added (q - m - k) (λ i. pairs_of_sums sb bs i (r - m) (c + m)) ≡ added (q - m) (λ i. pairs_of_sums sb bs i (r - m) (c + m))
along_column sb c q r m zero bs second within =
    omega (arith, ap (λ n. added n (λ i. pairs_of_sums sb bs i (r - m) (c + m))) {x = q - m - 0} {y = q - m} (omega arith))
along_column sb c q r m (suc k) bs second within =
    let f : ℕ → ℕ = λ i. pairs_of_sums sb bs i (r - m) (c + m) in
    let x = q - (m + 1 + k) in
    let here : pairs_among sb c (row q bs (m + 1 + k)) (row r bs m) ≡ f x =
    pairs-entries sb c (m + 1 + k) m q r bs (omega (arith, within)) second ∙ ap (pairs_of_sums sb bs x (r - m)) (omega arith) in
    let one : added (q - m - k) f ≡ added x f + f x = ap (λ n. added n f) {y = suc x} (omega (arith, within)) in
    let less : added (q - m - suc k) f ≡ added x f = ap (λ n. added n f) (omega (arith, within)) in
    omega (arith, here, one, less, pairs-first sb c (row q bs (m + 1 + k)) (rows q bs (m + 1) k) (row r bs m), along_column sb c q r m k bs second (omega (arith, within)))

-- both vectors begin with entries from m on: one of them with m, or both with greater ones
peeled : (sb c q r m k l : ℕ) (bs : List ℕ)
    → pairs_among sb c (rows q bs m (suc k)) (rows r bs m (suc l)) ≡ pairs_among sb c (rows q bs (m + 1) k) (rows r bs (m + 1) l) + (pairs_among sb c (rows q bs (m + 1) k) (row r bs m) + pairs_among sb c (row q bs m) (rows r bs m (suc l)))
peeled sb c q r m k l bs =
    let us = rows q bs (m + 1) k in
    let vs = rows r bs m (suc l) in
    omega (
      arith,
      ap (λ ws. pairs_among sb c ws vs) (rows-first q bs m k),
      pairs-first sb c us (row q bs m) vs,
      ap (pairs_among sb c us) (rows-first r bs m l),
      pairs-second sb c us (rows r bs (m + 1) l) (row r bs m),
    )

-- ---- running sums

pub added-both : (n : ℕ) (f g : ℕ → ℕ) → added n (λ i. f i + g i) ≡ added n f + added n g
added-both zero f g = refl
added-both (suc n) f g = omega (arith, added-both n f g)

pub added-none : (n : ℕ) → 0 ≡ added n (λ i. 0)
added-none zero = refl
added-none (suc n) = omega (arith, added-none n)

-- no sum is below 0
pub below-none : (sb x y c : ℕ) (bs : List ℕ) → (x ≡ 0) ⊎ (y ≡ 0) → 0 ≡ pairs_below sb bs x y c
below-none sb x y c bs (inl none) = ap (λ n. pairs_below sb bs n y c) {x = 0} (sym none)
below-none sb x y c bs (inr none) = added-none x ∙ ap (λ n. pairs_below sb bs x n c) {x = 0} (sym none)

-- one sum of the first vector more, and one of the second
below-row : (sb x y c : ℕ) (bs : List ℕ) → pairs_below sb bs (x + 1) y c ≡ pairs_below sb bs x y c + added y (λ j. pairs_of_sums sb bs x j c)
below-row sb x y c bs = ap (λ n. pairs_below sb bs n y c) {y = suc x} (omega arith)

below-column : (sb x y c : ℕ) (bs : List ℕ) → pairs_below sb bs x (y + 1) c ≡ pairs_below sb bs x y c + added x (λ i. pairs_of_sums sb bs i y c)
below-column sb x y c bs =
    ap (λ n. pairs_below sb bs x n c) {y = suc y} (omega arith)
    ∙ added-both x (λ i. added y (λ j. pairs_of_sums sb bs i j c)) (λ i. pairs_of_sums sb bs i y c)

-- the last cell of a running sum
pub below-cell : (sb x y c : ℕ) (bs : List ℕ) → pairs_below sb bs (x + 1) (y + 1) c + pairs_below sb bs x y c ≡ pairs_of_sums sb bs x y c + pairs_below sb bs x (y + 1) c + pairs_below sb bs (x + 1) y c
below-cell sb x y c bs =
    let f : ℕ → ℕ = λ j. pairs_of_sums sb bs x j c in
    let one : added (y + 1) f ≡ added y f + f y = ap (λ n. added n f) {y = suc y} (omega arith) in
    omega (arith, one, below-row sb x y c bs, below-row sb x (y + 1) c bs)

-- ---- a bound more

-- the pairs of which both vectors begin with entries from m on
abbrev pub pairs_from : ℕ → ℕ → List ℕ → ℕ → ℕ → ℕ → ℕ → ℕ
pairs_from sb b bs q r c m = pairs_among sb c (rows q bs m (min q b + 1 - m)) (rows r bs m (min r b + 1 - m))

-- at first all
pub from-start : (sb b c q r : ℕ) (bs : List ℕ) → pairs_from sb b bs q r c 0 ≡ pairs_of_sums sb (b ∷ bs) q r c
from-start sb b c q r bs =
    let first : min q b + 1 - 0 ≡ min q b + 1 = omega arith in
    let second : min r b + 1 - 0 ≡ min r b + 1 = omega arith in
    ap₂ (λ i j. pairs_among sb c (rows q bs 0 i) (rows r bs 0 j)) first second ∙ pairs-all sb c q r b bs

-- those where the lesser entry is m, by six running sums
pub from-next : (sb b c q r m x y p s d : ℕ) (bs : List ℕ) → m ≤ min q b → m ≤ min r b → x ≡ q - m → y ≡ r - m → p ≡ q - min q b → s ≡ r - min r b → d ≡ c + m
    → pairs_from sb b bs q r c m + (pairs_below sb bs (x + 1) s d + pairs_below sb bs p (y + 1) d + pairs_below sb bs x y d)
    ≡ pairs_from sb b bs q r c (m + 1) + (pairs_below sb bs (x + 1) (y + 1) d + pairs_below sb bs x s d + pairs_below sb bs p y d)
from-next sb b c q r m x y p s d bs first second x_is y_is p_is s_is d_is =
    let k = min q b - m in
    let l = min r b - m in
    let f : ℕ → ℕ = λ j. pairs_of_sums sb bs (q - m) j (c + m) in
    let g : ℕ → ℕ = λ i. pairs_of_sums sb bs i (r - m) (c + m) in
    let many_first : min q b + 1 - m ≡ suc k = omega (arith, first) in
    let many_second : min r b + 1 - m ≡ suc l = omega (arith, second) in
    let fewer_first : min q b + 1 - (m + 1) ≡ k = omega (arith, first) in
    let fewer_second : min r b + 1 - (m + 1) ≡ l = omega (arith, second) in
    let all : pairs_from sb b bs q r c m ≡ pairs_among sb c (rows q bs m (suc k)) (rows r bs m (suc l)) =
    ap₂ (λ i j. pairs_among sb c (rows q bs m i) (rows r bs m j)) many_first many_second in
    let rest : pairs_from sb b bs q r c (m + 1) ≡ pairs_among sb c (rows q bs (m + 1) k) (rows r bs (m + 1) l) =
    ap₂ (λ i j. pairs_among sb c (rows q bs (m + 1) i) (rows r bs (m + 1) j)) fewer_first fewer_second in
    let end_is : r + 1 - m - suc l ≡ s = omega (arith, second, s_is) in
    let far_is : r + 1 - m ≡ y + 1 = omega (arith, second, y_is) in
    let low_is : q - m - k ≡ p = omega (arith, first, p_is) in
    let row_end : added (r + 1 - m - suc l) f ≡ added s f = ap (λ n. added n f) end_is in
    let row_all : added (r + 1 - m) f ≡ added (y + 1) f = ap (λ n. added n f) far_is in
    let column_end : added (q - m - k) g ≡ added p g = ap (λ n. added n g) low_is in
    let column_all : added (q - m) g ≡ added x g = ap (λ n. added n g) (sym x_is) in
    let at_x : (n : ℕ) → added n (λ j. pairs_of_sums sb bs x j d) ≡ added n f = λ n. ap₂ (λ i e. added n (λ j. pairs_of_sums sb bs i j e)) x_is d_is in
    let at_y : (n : ℕ) → added n (λ i. pairs_of_sums sb bs i y d) ≡ added n g = λ n. ap₂ (λ j e. added n (λ i. pairs_of_sums sb bs i j e)) y_is d_is in
    omega (
      arith,
      all,
      rest,
      peeled sb c q r m k l bs,
      along_row sb c q r m (suc l) bs (omega (arith, first)) (omega (arith, second)),
      along_column sb c q r m k bs (omega (arith, second)) (omega (arith, first)),
      row_end,
      row_all,
      column_end,
      column_all,
      at_x s,
      at_x (y + 1),
      at_y p,
      at_y x,
      below-row sb x s d bs,
      below-row sb x (y + 1) d bs,
      below-column sb x y d bs,
      below-column sb p y d bs,
    )

-- none have too much in common
pairs-unwanted : (sb most c : ℕ) (us vs : List (List ℕ)) → HasNoneAbove sb most → most < c → pairs_among sb c us vs ≡ 0
pairs-unwanted sb most c [] vs none more = refl
pairs-unwanted sb most c (u ∷ us) vs none more = omega (arith, among-none sb most c u vs none more, pairs-unwanted sb most c us vs none more)

row-unwanted : (sb most c q r x m l : ℕ) (bs : List ℕ) → HasNoneAbove sb most → most < c + m → m ≤ x → x ≤ q → m + l ≤ r + 1 → pairs_among sb c (row q bs x) (rows r bs m l) ≡ 0
row-unwanted sb most c q r x m zero bs none more from first within = sym (pairs-none sb c (row q bs x))
row-unwanted sb most c q r x m (suc l) bs none more from first within =
    let y = m + l in
    omega (
      arith,
      pairs-second sb c (row q bs x) (row r bs y) (rows r bs m l),
      pairs-entries sb c x y q r bs first (omega (arith, within)),
      pairs-unwanted sb most (c + min x y) (bounded_sums (q - x) bs) (bounded_sums (r - y) bs) none (omega (arith, more, from)),
      row-unwanted sb most c q r x m l bs none more from first (omega (arith, within)),
    )

rows-unwanted : (sb most c q r m k l : ℕ) (bs : List ℕ) → HasNoneAbove sb most → most < c + m → m + k ≤ q + 1 → m + l ≤ r + 1 → pairs_among sb c (rows q bs m k) (rows r bs m l) ≡ 0
rows-unwanted sb most c q r m zero l bs none more first second = refl
rows-unwanted sb most c q r m (suc k) l bs none more first second =
    omega (
      arith,
      pairs-first sb c (row q bs (m + k)) (rows q bs m k) (rows r bs m l),
      row-unwanted sb most c q r (m + k) m l bs none more (omega arith) (omega (arith, first)) second,
      rows-unwanted sb most c q r m k l bs none more (omega (arith, first)) second,
    )

-- none are left
pub from-end : (sb total most b c q r m : ℕ) (bs : List ℕ) → HasMost sb total most → max q r + c ≤ total → c ≤ most → m ≡ min (min (min q r) b) (most - c) + 1 → pairs_from sb b bs q r c m ≡ 0
from-end sb total most b c q r m bs none within few m_is =
    elim (cases_lt (min q b) m) [
      | inl past ↦ ap (λ n. pairs_among sb c (rows q bs m n) (rows r bs m (min r b + 1 - m))) {y = 0} (omega (arith, past))
      | inr first ↦
          elim (cases_lt (min r b) m) [
            | inl past ↦
                ap (λ n. pairs_among sb c (rows q bs m (min q b + 1 - m)) (rows r bs m n)) {y = 0} (omega (arith, past))
                ∙ sym (pairs-none sb c (rows q bs m (min q b + 1 - m)))
            | inr second ↦
                rows-unwanted sb most c q r m (min q b + 1 - m) (min r b + 1 - m) bs (none (omega (arith, within, few, m_is, first, second))) (omega (arith, few, m_is, first, second)) (omega (arith, first)) (omega (arith, second))
          ]
    ]

-- ---- no bounds

pub pairs-ended : (sb c : ℕ) (wanted : Bool) → is_wanted_size sb c ≡ wanted → cond wanted 1 0 ≡ pairs_of_sums sb [] 0 0 c
unfolding bounded_sums box
pairs-ended sb c wanted is =
    let one : bounded_sums 0 [] ≡ [] ∷ [] = refl in
    let vs = bounded_sums 0 [] in
    ap (λ (b : Bool). cond b 1 0) (sym is)
    ∙ among-zeros sb c 0 [] [] refl
    ∙ among-reverse sb c [] vs
    ∙ omega (arith, ap (λ us. pairs_among sb c us vs) one)

pub ended-none : (sb f s c : ℕ) → 0 < f + s → 0 ≡ pairs_of_sums sb [] f s c
ended-none sb (suc f) s c some = sym (ap (λ us. pairs_among sb c us (bounded_sums s [])) (sums-past (suc f) [] (omega arith)))
ended-none sb zero s c some =
    pairs-none sb c (bounded_sums 0 []) ∙ sym (ap (λ vs. pairs_among sb c (bounded_sums 0 []) vs) (sums-past s [] (omega (arith, some))))
