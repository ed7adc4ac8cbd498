-- The arcs of a board's vector that are handed out one by one.
use Rattle.std.proofs.Common.{◌≡◌, ℕ, ◌+◌, ◌-◌, ◌<◌, ◌≤◌, ℤ, pos, nat_abs, false, cond, List, [], ◌∷◌, ◌++◌, length, map, reverse, take, get_or, Some, sym, ap, subst, ◌∙◌, arith}
use Rattle.std.specs.List.{All, range_with_len, slice_get}
use Rattle.std.proofs.lemmas.List.{take_more}
use Rattle.std.proofs.lemmas.List.Elements.{All-append, All-cons, All-nil}
use Rattle.std.proofs.lemmas.List.FromFn.{length-map-range_with_len}
use Rattle.std.proofs.lemmas.Nat.{mul-le}
use Rattle.std.proofs.lemmas.Option.{get_or_from_slice_get, slice_get_within}
use Rattle.sgb_vec.specs.Boxes.{box}
use Rattle.sgb_vec.specs.Lexicographic.{IsBelow}
use Rattle.sgb_gen.specs.Boards.{BoardData}
use Rattle.sgb_gen.specs.LocalLists.{LocalArc}
use Rattle.sgb_moves.specs.MovedCoordinates.{parts_of}
use Rattle.sgb_moves.specs.Moves.{opposite, sides_of}
use Rattle.sgb_gen.specs.Spans.{arc_along}
use Rattle.sgb_gen.specs.inner.Spans.{arcs_along}
use Rattle.sgb_gen.specs.inner.LocalBoards.{arcs_onward, moves_by}
use Rattle.sgb_gen.specs.inner.StraightLists.{GoesAroundOnce, IsInOrder, NeedsNoSort, arcs_back, arcs_by_all, arcs_from}
use Rattle.sgb_gen.proofs.RunsOfLists.{last_first}

-- ---- by lengths

-- none are left
pub lengths-none : (f : ℕ → LocalArc) (from n : ℕ) → n ≡ 0 → map f (range_with_len from n) ≡ []
lengths-none f from n none = ap (λ i. map f (range_with_len from i)) none

-- ---- by displacements, the last one apart

pub last_apart : (b : BoardData) (x : List ℕ) (ts : List (List ℤ)) (k : ℕ) (t : List ℤ) → 0 < k → slice_get ts (k - 1) ≡ Some t
    → arcs_by_all b x (take k ts) ≡ reverse (arcs_onward b.directed x (moves_by (sides_of b.sizes b.wrap) b.piece (box b.sizes) t)) ++ arcs_by_all b x (take (k - 1) ts)
last_apart b x ts k t some at =
    ap (λ n. arcs_by_all b x (take n ts)) {x = k} {y = k - 1 + 1} (omega (arith, some))
    ∙ cc (take_more ts (k - 1) t (slice_get_within ts (k - 1) t at), get_or_from_slice_get ts (k - 1) t t at, last_first b x (take (k - 1) ts) t)

-- ---- the moves back, where no sort is needed

-- those of all lengths lead to vectors before x
pub none_around : (arc : ℕ → LocalArc) (own back all : List LocalArc) (n : ℕ) → all ≡ own ++ back → back ≡ map arc (range_with_len 1 n) → all ≡ (map arc (range_with_len (n + 1) (n - n)) ++ own) ++ map arc (range_with_len 1 n)
none_around arc own back all n is back_is =
    is ∙ ap (λ r. own ++ r) back_is ∙ ap (λ l. (l ++ own) ++ map arc (range_with_len 1 n)) (sym (lengths-none arc (n + 1) (n - n) (omega arith)))

count_behind : (b : BoardData) (x : List ℕ) (t : List ℤ) (n : ℕ) → b.directed ≡ false → arcs_back b x t ≡ arcs_along b.sizes b.wrap x (parts_of t) n → length (arcs_from b x t) ≡ n
count_behind b x t n edges is =
    let same : arcs_back b x t ≡ arcs_from b x t = ap (λ c. cond c [] (arcs_from b x t)) edges in
    ap length (sym same ∙ is) ∙ length-map-range_with_len (arc_along b.sizes b.wrap x (parts_of t)) 1 n

-- where no vector wants a sort, this one wants none
pub kept_in_order : (b : BoardData) (x : List ℕ) (t : List ℤ) (n : ℕ) → IsBelow x b.sizes → NeedsNoSort b t
    → arcs_back b x (opposite t) ≡ arcs_along b.sizes b.wrap x (parts_of (opposite t)) n → IsInOrder b t n
kept_in_order b x t n below sorted is edges around = (
  (sorted edges around).0,
  subst (GoesAroundOnce b.sizes (get_or (parts_of t) 0 (0, pos 0))) (count_behind b x (opposite t) n edges is) ((sorted edges around).1 x below),
)

-- where so many do, fewer do
pub around_fewer : (sizes : List ℕ) (p : ℕ × ℤ) (m n : ℕ) → n ≤ m → GoesAroundOnce sizes p m → GoesAroundOnce sizes p n
around_fewer sizes p m n few once = (once.0, once.1, omega (arith, mul-le n (nat_abs p.1) m (nat_abs p.1) few (omega arith), once.2))

-- ---- what the displacements of a table have so far

pub taken_more : (P : List ℤ → Type 0) (ts : List (List ℤ)) (k : ℕ) (t : List ℤ) → slice_get ts k ≡ Some t → All P (take k ts) → P t → All P (take (k + 1) ts)
taken_more P ts k t at all is =
    subst (All P) (sym (take_more ts k t (slice_get_within ts k t at) ∙ ap (λ u. take k ts ++ u ∷ []) (get_or_from_slice_get ts k t t at)))
    (All-append P (take k ts) (t ∷ []) all (All-cons P t [] is (All-nil P)))
