-- Where the moves by a displacement lead among the vectors of a box: equal strides on, where no side is crossed that wraps around.
use borrow.Author.Differences.{down, neg_is, up}
use Rattle.std.proofs.Common.{◌≡◌, ◌∙◌, ◌&&◌, ℕ, nat_abs, get_or, zero, suc, ◌+◌, ◌-◌, ◌*◌, ◌/◌, ◌%◌, ◌^◌, ◌<◌, ◌≤◌, ℤ, pos, negsuc, neg_ℤ, ◌+ℤ◌, ◌*ℤ◌, Bool, true, false, cond, List, [], ◌∷◌, ◌++◌, length, map, reverse, take, drop, Some, None, refl, sym, ap, ap₂, subst, arith, true≢false}
use Rattle.std.specs.Prelude.{◌||◌, ◌==◌, IfNone, IfSome, Option}
use Rattle.std.specs.Bool.{OnTrue}
use Rattle.std.specs.List.{All, slice_get}
use Rattle.std.proofs.lemmas.Int.{ints}
use Rattle.std.proofs.lemmas.List.{at_drop_more, get_or-map, length-map, map-append, take_more}
use Rattle.std.proofs.lemmas.Nat.{div_below, pow_pos}
use Rattle.std.proofs.lemmas.Option.{get_or_from_slice_get, slice_get_within}
use Rattle.sgb_vec.specs.Boxes.{box, product_of}
use Rattle.sgb_vec.specs.Lexicographic.{IsBelow}
use Rattle.sgb_vec.specs.Limits.{most_vertices}
use Rattle.sgb_vec.proofs.Lists.{reverse-first}
use Rattle.sgb_vec.proofs.BoxPlaces.{StandsAt-from_slice_get, place_of, place_of-below, slice_get-place_of}
use Rattle.sgb_gen.specs.Boards.{BoardData}
use Rattle.sgb_moves.specs.MovedCoordinates.{parts_of, parts_put}
use Rattle.sgb_moves.specs.Moves.{coordinate_on, in_front, is_bit_set, opposite, place, sides_from_bit, sides_of, within_size}
use Rattle.sgb_gen.specs.inner.Spans.{LeadBack, LeadOn}
use Rattle.sgb_gen.specs.VectorGraphs.{vertex_among}
use Rattle.sgb_moves.specs.inner.MovedCoordinates.{IsInside, parts_stay}
use Rattle.sgb_moves.specs.inner.Moves.{longest_move}
use Rattle.sgb_gen.specs.inner.StraightLists.{IsLeaper}
use Rattle.sgb_gen.specs.inner.Strides.{IsFlatFrom, LeadsByStride, stride_of}
use Rattle.sgb_gen.proofs.Destinations.{place-below}
use Rattle.sgb_gen.proofs.InsideRuns.{place_alike}
use Rattle.sgb_gen.proofs.InsideVertices.{opposite_within}
use Rattle.sgb_moves.proofs.MovedCoordinates.{place_by_parts}
use Rattle.sgb_gen.proofs.Reaches.{sizes_of_sides}
use Rattle.sgb_gen.proofs.RunsOfLists.{at_has}
use Rattle.sgb_moves.proofs.TurnedMoves.{in_front-parts}
use Rattle.sgb_gen.proofs.Vertices.{vertex_in_box}

-- ---- places on sides that do not wrap around

-- no bit of 0 is set
pub no_bit : (k : ℕ) → is_bit_set (pos 0) k ≡ false
no_bit k =
    let some = pow_pos k in
    let below : 0 / 2 ^ k < 1 = div_below 0 (2 ^ k) 1 some (omega (arith, some)) in
    let none : 0 / 2 ^ k ≡ 0 = omega (arith, below) in
    ap (λ (n : ℕ). n % 2 == 1) none

-- a coordinate within a side is what it is
pub within_is : (n y : ℕ) (z : ℤ) → within_size n z ≡ Some y → pos y ≡ z
within_is n y (pos a) e = grind (arith)
within_is n y (negsuc a) e = absurd (cc)

flat_is : (b : Bool) (n y : ℕ) (z : ℤ) → b ≡ false → coordinate_on (record { size = n; wraps = b }) z ≡ Some y → pos y ≡ z
flat_is b n y z flat e = within_is n y z (rw flat at e)

-- one side more
one_side : (q p a b n : ℕ) (s u : ℤ) (l : ℕ) → pos q ≡ pos p +ℤ pos l *ℤ s → pos b ≡ pos a +ℤ pos l *ℤ u
    → pos (b * n + q) ≡ pos (a * n + p) +ℤ pos l *ℤ (u *ℤ pos n +ℤ s)
one_side q p a b n s u l rest first =
    let c = u *ℤ pos n +ℤ s in
    let head : b + l * down u ≡ a + l * up u = omega (arith, ints, first) in
    let tail : q + l * down s ≡ p + l * up s = omega (arith, ints, rest) in
    let both : up c + down u * n + down s ≡ down c + up u * n + up s = omega (arith, ints) in
    omega (arith, ints, tail, ap (λ m. m * n) head, ap (λ m. l * m) both)

-- a coordinate in front is some coordinate
not_empty : (o : Option ℕ) (p : Option (List ℕ)) → in_front o p ≡ Some [] → ⊥
not_empty o p e = grind (arith)

-- the place there is as many strides on
stride_on : (k : ℕ) (sizes x y : List ℕ) (t : List ℤ) (l : ℕ) → place (sides_from_bit k sizes (pos 0)) x t l ≡ Some y
    → pos (place_of sizes y) ≡ pos (place_of sizes x) +ℤ pos l *ℤ stride_of sizes t
stride_on k (n ∷ sizes) (a ∷ x) (b ∷ y) (u ∷ t) l e =
    let parts = in_front-parts (coordinate_on (record { size = n; wraps = is_bit_set (pos 0) k }) (pos a +ℤ pos l *ℤ u)) (place (sides_from_bit (k + 1) sizes (pos 0)) x t l) b y e in
    one_side (place_of sizes y) (place_of sizes x) a b (product_of sizes) (stride_of sizes t) u l (stride_on (k + 1) sizes x y t l parts.1)
    (flat_is (is_bit_set (pos 0) k) n b (pos a +ℤ pos l *ℤ u) (no_bit k) parts.0)
stride_on k [] x y t l e = omega (arith, ints)
stride_on k (n ∷ sizes) [] y t l e = absurd (cc)
stride_on k (n ∷ sizes) (a ∷ x) y [] l e = absurd (cc)
stride_on k (n ∷ sizes) (a ∷ x) [] (u ∷ t) l e =
    absurd (not_empty (coordinate_on (record { size = n; wraps = is_bit_set (pos 0) k }) (pos a +ℤ pos l *ℤ u)) (place (sides_from_bit (k + 1) sizes (pos 0)) x t l) e)

-- one side more of the opposite
neg_side : (u s r : ℤ) (n : ℕ) → r ≡ neg_ℤ s → neg_ℤ u *ℤ pos n +ℤ r ≡ neg_ℤ (u *ℤ pos n +ℤ s)
neg_side u s r n is = omega (arith, ints, is, ap (λ m. m * n) (neg_is u).0, ap (λ m. m * n) (neg_is u).1)

-- the opposite leads back by the same stride
pub stride_back : (sizes : List ℕ) (t : List ℤ) → stride_of sizes (opposite t) ≡ neg_ℤ (stride_of sizes t)
stride_back (n ∷ sizes) (u ∷ t) = neg_side u (stride_of sizes t) (stride_of sizes (opposite t)) (product_of sizes) (stride_back sizes t)
stride_back [] t = refl
stride_back (n ∷ sizes) [] = refl

-- as numbers
on_is : (q p l s : ℕ) (z : ℤ) → pos q ≡ pos p +ℤ pos l *ℤ z → pos s ≡ z → q ≡ p + l * s
on_is q p l s z e is = omega (arith, ints, e, ap (λ w. pos l *ℤ w) is)

back_is : (q p l s : ℕ) (z w : ℤ) → pos q ≡ pos p +ℤ pos l *ℤ w → w ≡ neg_ℤ z → pos s ≡ z → q + l * s ≡ p
back_is q p l s z w e turned is =
    let back : pos q ≡ pos p +ℤ pos l *ℤ neg_ℤ (pos s) = e ∙ ap (λ v. pos p +ℤ pos l *ℤ v) (turned ∙ ap neg_ℤ (sym is)) in
    omega (arith, ints, back, ap (λ m. l * m) (neg_is (pos s)).0, ap (λ m. l * m) (neg_is (pos s)).1)

-- ---- the tips of the arcs by a displacement

module _ (b : BoardData) (x : List ℕ) (t : List ℤ) (below : IsBelow x b.sizes) (long : length t ≡ length b.sizes) (flat : IsFlatFrom b x t) where
  -- where the one of length l leads
  abbrev tip : ℕ → List ℕ
  tip l = parts_put b.sizes b.wrap x l (parts_of t) x

  module _ (l : ℕ) (some : 0 < l) (most : l ≤ longest_move (sides_of b.sizes b.wrap) b.piece) (stay : parts_stay b.sizes b.wrap x l (parts_of t) ≡ true) where
    placed : place (sides_of b.sizes b.wrap) x t l ≡ Some (tip l)
    placed = place_by_parts b.sizes b.wrap x t l below long ∙ ap (λ c. cond c (Some (tip l)) None) stay

    tip_below : IsBelow (tip l) b.sizes
    tip_below =
        subst (IsBelow (tip l)) (sizes_of_sides 0 b.sizes b.wrap)
        (place-below (sides_of b.sizes b.wrap) x t l (tip l) (subst (IsBelow x) (sym (sizes_of_sides 0 b.sizes b.wrap)) below) placed)

    tip_is : vertex_among (box b.sizes) (tip l) ≡ place_of b.sizes (tip l)
    tip_is = vertex_in_box b.sizes (tip l) (place_of b.sizes (tip l)) (slice_get-place_of b.sizes (tip l) tip_below)

    pub tip_within : vertex_among (box b.sizes) (tip l) < product_of b.sizes
    tip_within = omega (arith, tip_is, place_of-below b.sizes (tip l) tip_below)

    pub tip_on : (v : ℕ) → slice_get (box b.sizes) v ≡ Some x → pos (vertex_among (box b.sizes) (tip l)) ≡ pos v +ℤ pos l *ℤ stride_of b.sizes t
    tip_on v there =
        ap pos tip_is ∙ stride_on 0 b.sizes x (tip l) t l (sym (flat l some most) ∙ placed)
        ∙ ap (λ p. pos p +ℤ pos l *ℤ stride_of b.sizes t) (StandsAt-from_slice_get b.sizes x v there).place

-- what is known of the arcs of the lengths up to n
abbrev pub StayUpTo : BoardData → List ℕ → List ℤ → ℕ → Type 0
StayUpTo b x t n = (l : ℕ) → 0 < l → l ≤ n → parts_stay b.sizes b.wrap x l (parts_of t) ≡ true

module _ (b : BoardData) (x : List ℕ) (v n : ℕ) (below : IsBelow x b.sizes) (there : slice_get (box b.sizes) v ≡ Some x) (most : n ≤ longest_move (sides_of b.sizes b.wrap) b.piece) where
  module _ (t : List ℤ) (s : ℕ) (long : length t ≡ length b.sizes) (flat : IsFlatFrom b x t) (stay : StayUpTo b x t n) (is : pos s ≡ stride_of b.sizes t) where
    pub ahead_at : (l : ℕ) → 0 < l → l ≤ n → vertex_among (box b.sizes) (parts_put b.sizes b.wrap x l (parts_of t) x) ≡ v + l * s
    ahead_at l some few = on_is _ v l s (stride_of b.sizes t) (tip_on b x t below long flat l some (omega (arith, few, most)) (stay l some few) v there) is

    pub ahead_within : (l : ℕ) → 0 < l → l ≤ n → v + l * s < product_of b.sizes
    ahead_within l some few = omega (arith, ahead_at l some few, tip_within b x t below long flat l some (omega (arith, few, most)) (stay l some few))

  module _ (t u : List ℤ) (s : ℕ) (long : length t ≡ length b.sizes) (turned : u ≡ opposite t) (long_back : length u ≡ length b.sizes) (flat : IsFlatFrom b x u) (stay : StayUpTo b x u n) (is : pos s ≡ stride_of b.sizes t) where
    back_at : (l : ℕ) → 0 < l → l ≤ n → vertex_among (box b.sizes) (parts_put b.sizes b.wrap x l (parts_of u) x) + l * s ≡ v
    back_at l some few =
        back_is _ v l s (stride_of b.sizes t) (stride_of b.sizes u) (tip_on b x u below long_back flat l some (omega (arith, few, most)) (stay l some few) v there)
        (ap (stride_of b.sizes) turned ∙ stride_back b.sizes t) is

pub map-reverse : {X Y : Type 0} (f : X → Y) (xs : List X) → map f (reverse xs) ≡ reverse (map f xs)
map-reverse f [] = refl
map-reverse f (x ∷ xs) =
    ap (map f) (reverse-first x xs) ∙ map-append f (reverse xs) (x ∷ []) ∙ ap (λ ys. ys ++ f x ∷ []) (map-reverse f xs) ∙ sym (reverse-first (f x) (map f xs))

-- ---- when no side is crossed

-- on a board with no side that wraps around
pub flat_board : (b : BoardData) (x : List ℕ) (t : List ℤ) → b.wrap ≡ pos 0 → IsFlatFrom b x t
flat_board b x t none l some most = ap (λ w. place (sides_of b.sizes w) x t l) none

-- of a leaper from where no side is near
pub flat_inside : (b : BoardData) (x : List ℕ) (t : List ℤ) (d : ℕ) → IsLeaper b → IsInside d b.sizes x → All (λ e. nat_abs e ≤ d) t → IsFlatFrom b x t
flat_inside b x t d leaper inside small l some most =
    let short : longest_move (sides_of b.sizes b.wrap) b.piece ≡ 1 = ap (longest_move (sides_of b.sizes b.wrap)) leaper in
    let one : l ≡ 1 = omega (arith, some, most, short) in
    rw one (place_alike b.wrap (pos 0) d 0 b.sizes x t inside small)

-- so where lists are had by strides
pub all_by_strides : (b : BoardData) (x : List ℕ) (ts : List (List ℤ)) (d : ℕ) (straight flat leaping near : Bool) → ((straight && flat) || (leaping && near)) ≡ true
    → OnTrue flat (b.wrap ≡ pos 0) → OnTrue leaping (IsLeaper b) → OnTrue near (IsInside d b.sizes x) → All (All (λ e. nat_abs e ≤ d)) ts
    → All (LeadsByStride b x) ts
all_by_strides b x ts d true true leaping near have none leaper inside small =
    λ k e h. (flat_board b x (get_or ts k e) none, flat_board b x (opposite (get_or ts k e)) none)
all_by_strides b x ts d straight flat true true have none leaper inside small =
    λ k e h. (flat_inside b x (get_or ts k e) d leaper inside (small k e h), flat_inside b x (opposite (get_or ts k e)) d leaper inside (opposite_within d (get_or ts k e) (small k e h)))
all_by_strides b x ts d straight flat leaping near have none leaper inside small = grind (arith, true≢false)

-- ---- the spans of a displacement and its opposite, where its stride is known

-- ahead
pub span_on : (b : BoardData) (x : List ℕ) (t : List ℤ) (n : ℕ) (stride : Option ℕ) → IsBelow x b.sizes → length t ≡ length b.sizes → product_of b.sizes ≤ most_vertices
    → n ≤ longest_move (sides_of b.sizes b.wrap) b.piece → StayUpTo b x t n → IfSome stride (λ s. pos s ≡ stride_of b.sizes t) → IfSome stride (λ s. LeadsByStride b x t)
    → IfSome stride (LeadOn b.sizes b.wrap x (parts_of t) n)
span_on b x t n (Some s) below long few most stay is leads = λ v l there some within. (
  ahead_at b x v n below there most t s long leads.0 stay is l some within,
  omega (arith, few, ahead_within b x v n below there most t s long leads.0 stay is l some within),
)
span_on b x t n None below long few most stay is leads = tt

-- back
pub span_back : (b : BoardData) (x : List ℕ) (t u : List ℤ) (n : ℕ) (stride : Option ℕ) → IsBelow x b.sizes → length t ≡ length b.sizes → u ≡ opposite t
    → n ≤ longest_move (sides_of b.sizes b.wrap) b.piece → StayUpTo b x u n → IfSome stride (λ s. pos s ≡ stride_of b.sizes t) → IfSome stride (λ s. LeadsByStride b x t)
    → IfSome stride (LeadBack b.sizes b.wrap x (parts_of u) n)
span_back b x t u n (Some s) below long turned most stay is leads = λ v l there some within.
    back_at b x v n below there most t u s long turned (ap length turned ∙ length-map t neg_ℤ ∙ long) (subst (IsFlatFrom b x) (sym turned) leads.1) stay is l some within
span_back b x t u n None below long turned most stay is leads = tt

-- the stride that is kept of a displacement
pub stride_at : (sizes : List ℕ) (ss : List ℕ) (ts : List (List ℤ)) (k : ℕ) (t : List ℤ) → map pos ss ≡ map (stride_of sizes) ts → slice_get ts k ≡ Some t → (k < length ss) × (pos (get_or ss k 0) ≡ stride_of sizes t)
stride_at sizes ss ts k t kept at =
    let within = slice_get_within ts k t at in
    let as_many : length ss ≡ length ts = sym (length-map ss pos) ∙ ap length kept ∙ length-map ts (stride_of sizes) in
    let inside : k < length ss = omega (arith, within, as_many) in
    (inside, sym (get_or-map pos ss k 0 (pos 0) inside) ∙ ap (λ zs. get_or zs k (pos 0)) kept ∙ get_or-map (stride_of sizes) ts k t (pos 0) within ∙ ap (stride_of sizes) (get_or_from_slice_get ts k t t at))

-- the same where strides are known
pub stride_known : {X : Type 0} (items : X → List ℕ) (kept : Option X) (stride : Option ℕ) (sizes : List ℕ) (ts : List (List ℤ)) (k : ℕ) (t : List ℤ)
    → IfSome kept (λ s. map pos (items s) ≡ map (stride_of sizes) ts) → slice_get ts k ≡ Some t → IfSome stride (λ r. IfSome kept (λ s. slice_get (items s) k ≡ Some r))
    → IfNone kept (stride ≡ None) → IfSome stride (λ r. pos r ≡ stride_of sizes t)
stride_known items kept None sizes ts k t all at one none = tt
stride_known items None (Some r) sizes ts k t all at one none = absurd (cc)
stride_known items (Some s) (Some r) sizes ts k t all at one none =
    ap pos (sym (get_or_from_slice_get (items s) k r 0 one)) ∙ (stride_at sizes (items s) ts k t all at).1

pub lead_known : {X : Type 0} (b : BoardData) (x : List ℕ) (kept : Option X) (stride : Option ℕ) (ts : List (List ℤ)) (k : ℕ) (t : List ℤ)
    → IfSome kept (λ s. All (LeadsByStride b x) ts) → slice_get ts k ≡ Some t → IfNone kept (stride ≡ None) → IfSome stride (λ r. LeadsByStride b x t)
lead_known b x kept None ts k t all at none = tt
lead_known b x None (Some r) ts k t all at none = absurd (cc)
lead_known b x (Some s) (Some r) ts k t all at none = at_has (LeadsByStride b x) ts k t all at

-- what is kept of all displacements of a table, where it is handed on
pub strides_handed : {X Y : Type 0} (items : X → List ℕ) (own : Y → List ℕ) (kept : Option X) (handed : Option Y) (zs : List ℤ)
    → IfSome kept (λ s. map pos (items s) ≡ zs) → IfSome handed (λ h. IfSome kept (λ s. own h ≡ items s)) → IfNone kept (handed ≡ None) → IfSome handed (λ h. map pos (own h) ≡ zs)
strides_handed items own kept None zs all same none = tt
strides_handed items own None (Some h) zs all same none = absurd (cc)
strides_handed items own (Some s) (Some h) zs all same none = ap (map pos) same ∙ all

pub leads_handed : {Y P : Type 0} (handed : Option Y) (have : Bool) → IfSome handed (λ h. have ≡ true) → (have ≡ true → P) → IfSome handed (λ h. P)
leads_handed (Some h) have is leads = leads is
leads_handed None have is leads = tt

-- ---- a stride, entry by entry

-- one entry more
entry_more : (places next e rest whole : ℤ) (s n : ℕ) → places *ℤ pos (s * n) +ℤ (e *ℤ pos n +ℤ rest) ≡ whole → next ≡ places *ℤ pos s +ℤ e → next *ℤ pos n +ℤ rest ≡ whole
entry_more places next e rest whole s n so_far is =
    let head : up next + down places * s + down e ≡ down next + up places * s + up e = omega (arith, ints, is) in
    omega (arith, ints, so_far, ap (λ m. m * n) head)

pub stride_more : (sizes : List ℕ) (t : List ℤ) (k : ℕ) (places next : ℤ) → places *ℤ pos (product_of (drop k sizes)) +ℤ stride_of (drop k sizes) (drop k t) ≡ stride_of sizes t
    → k < length sizes → length t ≡ length sizes → next ≡ places *ℤ pos (get_or sizes k 0) +ℤ get_or t k (pos 0)
    → next *ℤ pos (product_of (drop (k + 1) sizes)) +ℤ stride_of (drop (k + 1) sizes) (drop (k + 1) t) ≡ stride_of sizes t
stride_more sizes t k places next so_far within long is =
    let s = get_or sizes k 0 in
    let n = product_of (drop (k + 1) sizes) in
    let product : product_of (drop k sizes) ≡ s * n = at_drop_more product_of sizes k 0 within in
    let stride : stride_of (drop k sizes) (drop k t) ≡ get_or t k (pos 0) *ℤ pos n +ℤ stride_of (drop (k + 1) sizes) (drop (k + 1) t) =
    at_drop_more (λ ss. stride_of ss (drop k t)) sizes k 0 within ∙ at_drop_more (stride_of (s ∷ drop (k + 1) sizes)) t k (pos 0) (omega (arith, within, long)) in
    entry_more places next (get_or t k (pos 0)) (stride_of (drop (k + 1) sizes) (drop (k + 1) t)) (stride_of sizes t) s n
    (sym (ap₂ (λ m r. places *ℤ pos m +ℤ r) product stride) ∙ so_far) is

-- one displacement more
pub strides_more : (sizes : List ℕ) (ts : List (List ℤ)) (k : ℕ) (t : List ℤ) (s : ℕ) (now after : List ℕ) → slice_get ts k ≡ Some t → map (λ (n : ℕ). pos n) now ≡ map (stride_of sizes) (take k ts)
    → pos s ≡ stride_of sizes t → after ≡ now ++ s ∷ [] → map (λ (n : ℕ). pos n) after ≡ map (stride_of sizes) (take (k + 1) ts)
strides_more sizes ts k t s now after at so_far is put =
    let more : take (k + 1) ts ≡ take k ts ++ t ∷ [] = take_more ts k t (slice_get_within ts k t at) ∙ ap (λ u. take k ts ++ u ∷ []) (get_or_from_slice_get ts k t t at) in
    ap (map (λ (n : ℕ). pos n)) put ∙ map-append (λ (n : ℕ). pos n) now (s ∷ []) ∙ ap₂ (λ zs z. zs ++ z ∷ []) so_far is ∙ sym (map-append (stride_of sizes) (take k ts) (t ∷ []))
    ∙ ap (map (stride_of sizes)) (sym more)
