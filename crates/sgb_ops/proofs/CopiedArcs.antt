-- The arcs of a copy: the vertices that a list leads to, in order and each once.
use Rattle.sgb_vec.proofs.Common.{Less, ◌≡◌, ℕ, ◌+◌, ◌<◌, ◌≤◌, ◌==◌, Bool, true, false, zero, suc, ◌&&◌, ◌||◌, cond, ◌++◌, List, [], ◌∷◌, filter, map, pos, refl, ap, subst, ◌∙◌, sym, arith, All, AllByRecursion, dedup, dedup_from, list_any, range_with_len, nat_tests, All-nil, All-cons, All-head, All-tail, filter_agree}
use Rattle.std.specs.List.Sorted.{IsStrictlySortedBy}
use Rattle.std.specs.Ordering.{nat_cmp}
use Rattle.sgb_graph.specs.Events.{Event}
use Rattle.sgb_graph.specs.Graphs.{GraphData}
use Rattle.sgb_graph.specs.Vertices.{order_of}
use Rattle.sgb_graph.specs.declared.fields.Link.{Link}
use Rattle.sgb_ops.specs.inner.Complement.{AreFrom, complement_events_from, events_to, has_arc, is_wanted_where}

-- whether w is one of them
abbrev pub is_among : ℕ → List ℕ → Bool
is_among w = list_any (λ t. t == w)

-- of equal ones that follow one another the first stays
module _ (same : ℕ → ℕ → Bool) (ties : (x y : ℕ) → same x y ≡ (x == y)) (w : ℕ) where
  pub among_from : (k : ℕ) (ts : List ℕ) → is_among w (dedup_from same k ts) ≡ (k == w || is_among w ts)
  among_from k [] = refl
  among_from k (t ∷ ts) = grind (arith, nat_tests, cond, ties, among_from k ts, among_from t ts)

  pub among_deduped : (ts : List ℕ) → is_among w (dedup same ts) ≡ is_among w ts
  among_deduped [] = refl
  among_deduped (t ∷ ts) = among_from t ts

-- a place below all is none of them
pub none_below : (k w : ℕ) (ts : List ℕ) → AreFrom k ts → w < k → is_among w ts ≡ false
none_below k w [] h below = refl
none_below k w (t ∷ ts) h below = grind (arith, nat_tests, none_below (t + 1) w ts h.1 (omega (arith, h.0)), h.0)

-- the first place is none of them, or the first of them
pub first_place : (among wanted : ℕ → Bool) (n k : ℕ) (ts : List ℕ) → among k ≡ false
    → filter (λ w. among w && wanted w) (k ∷ range_with_len (k + 1) n) ≡ filter (λ w. among w && wanted w) (range_with_len (k + 1) n)
first_place among wanted n k ts h = rw h refl

pub is_first : (among wanted : ℕ → Bool) (k : ℕ) (places ts : List ℕ) → among k ≡ true → filter (λ w. among w && wanted w) places ≡ filter wanted ts
    → filter (λ w. among w && wanted w) (k ∷ places) ≡ filter wanted (k ∷ ts)
is_first among wanted k places ts h same = rw (h, same) refl

-- place k is the first of them, or comes before them all
pub at_place : (among wanted : ℕ → Bool) (n k t : ℕ) (ts : List ℕ) → k ≤ t → AreFrom (t + 1) ts → among k ≡ is_among k (t ∷ ts)
    → (t ≡ k → filter (λ w. among w && wanted w) (range_with_len (k + 1) n) ≡ filter wanted ts)
    → (k < t → filter (λ w. among w && wanted w) (range_with_len (k + 1) n) ≡ filter wanted (t ∷ ts))
    → filter (λ w. among w && wanted w) (k ∷ range_with_len (k + 1) n) ≡ filter wanted (t ∷ ts)
at_place among wanted n k t ts le from is first after = step (t == k) refl where
  step : (b : Bool) → (t == k) ≡ b → filter (λ w. among w && wanted w) (k ∷ range_with_len (k + 1) n) ≡ filter wanted (t ∷ ts)
  step true e =
      subst (λ x. filter (λ w. among w && wanted w) (k ∷ range_with_len (k + 1) n) ≡ filter wanted (x ∷ ts)) (sym (grind (e, arith, nat_tests)))
      (is_first among wanted k (range_with_len (k + 1) n) ts (grind (arith, nat_tests, is, e)) (first (grind (e, arith, nat_tests))))
  step false e =
      let past : k < t = grind (e, le, arith, nat_tests) in
      first_place among wanted n k (t ∷ ts) (is ∙ none_below (k + 1) k (t ∷ ts) (omega (arith, past), from) (omega arith)) ∙ after past

-- of n places from k on those that are among them and wanted are, in order, those of them that are wanted
pub picked : (among wanted : ℕ → Bool) (n k : ℕ) (ts : List ℕ) → AreFrom k ts → ((w : ℕ) → k ≤ w → w < k + n → among w ≡ is_among w ts)
    → ((w : ℕ) → is_among w ts ≡ true → w < k + n)
    → filter (λ w. among w && wanted w) (range_with_len k n) ≡ filter wanted ts
picked among wanted zero k [] from is below = refl
picked among wanted zero k (t ∷ ts) from is below = absurd (omega (arith, from.0, below t (grind (arith, nat_tests))))
picked among wanted (suc n) k [] from is below =
    first_place among wanted n k [] (is k (omega arith) (omega arith))
    ∙ picked among wanted n (k + 1) [] tt (λ w a b. is w (omega (arith, a)) (omega (arith, b))) (λ w h. absurd (grind (h, arith)))
picked among wanted (suc n) k (t ∷ ts) from is below =
    at_place among wanted n k t ts from.0 from.1 (is k (omega arith) (omega arith))
    (λ e. picked among wanted n (k + 1) ts (subst (λ x. AreFrom (x + 1) ts) e from.1)
    (λ w a b. is w (omega (arith, a)) (omega (arith, b)) ∙ grind (arith, nat_tests, a, e))
    (λ w h. omega (arith, below w (grind (arith, nat_tests, h)))))
    (λ past. picked among wanted n (k + 1) (t ∷ ts) (omega (arith, past), from.1) (λ w a b. is w (omega (arith, a)) (omega (arith, b))) (λ w h. omega (arith, below w h)))

-- numbers that are sorted, each once, rise
rises_after : (k : ℕ) (ts : List ℕ) → AllByRecursion (λ t. nat_cmp k t ≡ Less) ts → IsStrictlySortedBy nat_cmp ts → AreFrom (k + 1) ts
unfolding IsStrictlySortedBy
rises_after k [] above sorted = tt
rises_after k (t ∷ ts) above sorted = (grind (arith, nat_tests, above.0), rises_after t ts sorted.0 sorted.1)

pub rises : (ts : List ℕ) → IsStrictlySortedBy nat_cmp ts → AreFrom 0 ts
unfolding IsStrictlySortedBy
rises [] sorted = tt
rises (t ∷ ts) sorted = (omega arith, rises_after t ts sorted.0 sorted.1)

-- a list leads to w where w is among its tips
pub among_tips : (w : ℕ) (links : List Link) → is_among w (map (λ l. l.tip) links) ≡ list_any (λ l. l.tip == w) links
among_tips w [] = refl
among_tips w (l ∷ links) = rw (among_tips w links) refl

-- what holds of each link's tip holds of all that are among them
pub all_among : (n : ℕ) (ts : List ℕ) → ((w : ℕ) → is_among w ts ≡ true → w < n) → All (λ t. t < n) ts
all_among n [] h = All-nil (λ t. t < n)
all_among n (t ∷ ts) h = All-cons (λ t. t < n) t ts (h t (grind (arith, nat_tests))) (all_among n ts (λ w e. h w (grind (arith, e))))

pub tip_within : (n w : ℕ) (links : List Link) → All (λ l. l.tip < n) links → list_any (λ l. l.tip == w) links ≡ true → w < n
tip_within n w [] all h = absurd (grind (arith, h))
tip_within n w (l ∷ links) all h = step (l.tip == w) refl (tip_within n w links (All-tail (λ l. l.tip < n) l links all)) where
  step : (b : Bool) → (l.tip == w) ≡ b → (list_any (λ l. l.tip == w) links ≡ true → w < n) → w < n
  step true e rest = grind (e, arith, nat_tests, All-head (λ l. l.tip < n) l links all)
  step false e rest = rest (grind (arith, h, e))

pub among_within : (n w : ℕ) (ts : List ℕ) → All (λ t. t < n) ts → is_among w ts ≡ true → w < n
among_within n w [] all h = absurd (grind (arith, h))
among_within n w (t ∷ ts) all h = step (t == w) refl (among_within n w ts (All-tail (λ x. x < n) t ts all)) where
  step : (b : Bool) → (t == w) ≡ b → (is_among w ts ≡ true → w < n) → w < n
  step true e rest = grind (e, arith, nat_tests, All-head (λ x. x < n) t ts all)
  step false e rest = rest (grind (arith, h, e))

-- a copy has an arc where the operand has one and an arc that it has is wanted
pub wanted_copy : (self directed : Bool) (u w : ℕ) (b : Bool) → is_wanted_where b true self directed u w ≡ (b && is_wanted_where true true self directed u w)
wanted_copy self directed u w true = refl
wanted_copy self directed u w false = refl

-- so the wanted arcs to the tips of u, in order and each once, are those of the copy from u
pub copied_from : (g : GraphData) (copy self directed : Bool) (u : ℕ) (ts : List ℕ) → copy ≡ true → AreFrom 0 ts
    → ((w : ℕ) → is_among w ts ≡ has_arc g u w) → ((w : ℕ) → is_among w ts ≡ true → w < order_of g)
    → events_to copy self directed u ts ≡ complement_events_from g copy self directed u
copied_from g copy self directed u ts copies from same below =
    let wanted = is_wanted_where true true self directed u in
    let to : ℕ → Event = λ w. record { from = u; to = w; len = pos 1 } in
    let all : filter (λ w. is_wanted_where (has_arc g u w) true self directed u w) (range_with_len 0 (order_of g)) ≡ filter wanted ts =
    filter_agree (λ w. is_wanted_where (has_arc g u w) true self directed u w) (λ w. has_arc g u w && wanted w) (λ w. wanted_copy self directed u w (has_arc g u w)) (range_with_len 0 (order_of g))
    ∙ picked (has_arc g u) wanted (order_of g) 0 ts from (λ w a b. sym (same w)) (λ w h. omega (arith, below w h)) in
    rw copies (ap (map to) (sym all))

-- the first of them comes first, if it is wanted
pub first_to : (copy self directed : Bool) (u w : ℕ) (ws : List ℕ)
    → events_to copy self directed u (w ∷ ws) ≡ cond (is_wanted_where true copy self directed u w) (record { from = u; to = w; len = pos 1 } ∷ []) [] ++ events_to copy self directed u ws
first_to copy self directed u w ws = grind (arith, filter, cond)
