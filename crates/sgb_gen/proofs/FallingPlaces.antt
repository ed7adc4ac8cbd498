-- Where a displacement leads back around the first side on which it moves once at most: the vectors fall, first before the
-- vector itself, and then after it.
use borrow.Author.Differences.{neg_is}
use Rattle.std.proofs.Common.{◌≡◌, ℕ, zero, suc, ◌+◌, ◌-◌, ◌*◌, ◌/◌, ◌<◌, ◌≤◌, min, ℤ, pos, negsuc, ◌+ℤ◌, ◌*ℤ◌, neg_ℤ, nat_abs, Bool, true, false, List, [], ◌∷◌, ◌++◌, length, map, reverse, take, drop, get_or, Some, refl, sym, ap, ap₂, subst, subst₂, ◌∙◌, arith}
use Rattle.std.proofs.Math.Nat.{div-mul-le_self, lt-div-mul-add, mod-eq_of_lt}
use Rattle.std.specs.Int.{int_rem_euclid}
use Rattle.std.specs.List.{All, Contains, range_with_len}
use Rattle.std.proofs.lemmas.Int.{int_rem_euclid_is, ints}
use Rattle.std.proofs.lemmas.List.{drop-map, get_or-drop, get_or-map, get_or-take, length-drop, length-map, length-take-le, reverse-append, reverse-reverse, take-append-drop, take-map}
use Rattle.std.proofs.lemmas.List.Elements.{AllZip-get_or, length_all_zip}
use Rattle.std.proofs.lemmas.List.FromFn.{get_or-map-range_with_len, length-map-range_with_len, take-map-range_with_len}
use Rattle.std.proofs.lemmas.Nat.{mul-le}
use Rattle.sgb_vec.specs.Boxes.{box}
use Rattle.sgb_vec.specs.Lexicographic.{IsBelow}
use Rattle.sgb_vec.proofs.BoxPlaces.{IsBelow-from_Contains}
use Rattle.sgb_vec.proofs.FamilyLaws.{box_vectors_rise}
use Rattle.sgb_gen.specs.Boards.{BoardData}
use Rattle.sgb_gen.specs.LocalLists.{LocalArc}
use Rattle.sgb_moves.specs.MovedCoordinates.{parts_from, parts_of}
use Rattle.sgb_moves.specs.Moves.{Side, coordinate_on, is_bit_set, opposite, place, sides_from_bit, sides_of}
use Rattle.sgb_gen.specs.Spans.{arc_along}
use Rattle.sgb_gen.specs.inner.Spans.{arcs_along}
use Rattle.sgb_moves.specs.VectorMoves.{Move}
use Rattle.sgb_gen.specs.VectorGraphs.{vertex_among}
use Rattle.sgb_gen.specs.inner.LocalBoards.{arcs_onward, move_arc, moves_by}
use Rattle.sgb_gen.specs.inner.StraightLists.{GoesAroundOnce, arcs_from}
use Rattle.sgb_gen.proofs.AroundStarts.{Falls, Leads, ahead, around_in_order, behind}
use Rattle.sgb_gen.proofs.MovesInOrder.{all_lead, vertices_in_order}
use Rattle.sgb_gen.proofs.OnwardMoves.{some_length}
use Rattle.sgb_gen.proofs.OrderedLists.{before_at}
use Rattle.sgb_gen.proofs.StrideTips.{within_is}
use Rattle.sgb_gen.proofs.TouchingMoves.{below, vector_there}
use Rattle.sgb_moves.proofs.TurnedMoves.{in_front-parts, side_itself}

-- ---- a place by its coordinates

-- a coordinate of the place there
pub coordinate_there : (k : ℕ) (sizes : List ℕ) (wrap : ℤ) (x : List ℕ) (t : List ℤ) (l : ℕ) (y : List ℕ) (i : ℕ) → place (sides_from_bit k sizes wrap) x t l ≡ Some y → i < length sizes
    → coordinate_on (record { size = get_or sizes i 0; wraps = is_bit_set wrap (k + i) }) (pos (get_or x i 0) +ℤ pos l *ℤ get_or t i (pos 0)) ≡ Some (get_or y i 0)
coordinate_there k [] wrap x t l y i e h = absurd (omega (arith, h))
coordinate_there k (n ∷ sizes) wrap [] t l y i e h = absurd (cc)
coordinate_there k (n ∷ sizes) wrap (a ∷ x) [] l y i e h = absurd (cc)
coordinate_there k (n ∷ sizes) wrap (a ∷ x) (u ∷ t) l [] i e h = grind (arith)
coordinate_there k (n ∷ sizes) wrap (a ∷ x) (u ∷ t) l (b ∷ y) zero e h =
    subst (λ j. coordinate_on (record { size = n; wraps = is_bit_set wrap j }) (pos a +ℤ pos l *ℤ u) ≡ Some b) {x = k} {y = k + 0} (omega arith) (in_front-parts _ _ b y e).0
coordinate_there k (n ∷ sizes) wrap (a ∷ x) (u ∷ t) l (b ∷ y) (suc i) e h =
    subst (λ j. coordinate_on (record { size = get_or sizes i 0; wraps = is_bit_set wrap j }) (pos (get_or x i 0) +ℤ pos l *ℤ get_or t i (pos 0)) ≡ Some (get_or y i 0)) {x = k + 1 + i} {y = k + suc i} (omega arith)
    (coordinate_there (k + 1) sizes wrap x t l y i (in_front-parts _ _ b y e).1 (omega (arith, h)))

-- the first coordinate that a displacement moves
abbrev first_part : ℕ → List ℤ → ℕ × ℤ
first_part k t = get_or (parts_from k t) 0 (0, pos 0)

-- it is that of its entry, and those before it are 0
pub record IsFirst (k : ℕ) (t : List ℤ) (d : ℕ) : Type 0 where
  pub within : d < length t
  pub number : (first_part k t).0 ≡ k + d
  pub entry : get_or t d (pos 0) ≡ (first_part k t).1
  pub zeros : (i : ℕ) → i < d → get_or t i (pos 0) ≡ pos 0

first_at : (k : ℕ) (t : List ℤ) → 0 < length (parts_from k t) → (d : ℕ) × IsFirst k t d
first_at k [] some = absurd (omega (arith, some))
first_at k (pos zero ∷ t) some =
    let rest = first_at (k + 1) t some in
    let is = rest.1 in (
      suc rest.0,
      record {
        within = omega (arith, is.within);
        number = is.number ∙ omega arith;
        entry = is.entry;
        zeros = zeros_more t rest.0 is.zeros;
      },
    )
  where
    zeros_more : (t : List ℤ) (d : ℕ) → ((i : ℕ) → i < d → get_or t i (pos 0) ≡ pos 0) → (i : ℕ) → i < suc d → get_or (pos 0 ∷ t) i (pos 0) ≡ pos 0
    zeros_more t d zeros zero h = refl
    zeros_more t d zeros (suc i) h = zeros i (omega (arith, h))
first_at k (pos (suc c) ∷ t) some = (0, record { within = omega arith; number = omega arith; entry = refl; zeros = λ i h. absurd (omega (arith, h)) })
first_at k (negsuc c ∷ t) some = (0, record { within = omega arith; number = omega arith; entry = refl; zeros = λ i h. absurd (omega (arith, h)) })

-- ---- one coordinate

-- where so many steps back lead that go around the side k times
pub around_at : (w : Bool) (n a s k d r : ℕ) → d < n → d + s ≡ a + k * n → coordinate_on (record { size = n; wraps = w }) (pos a +ℤ neg_ℤ (pos s)) ≡ Some r → r ≡ d
around_at true n a s k d r less sum e =
    let is : (pos a +ℤ neg_ℤ (pos s)) +ℤ pos (k * n) ≡ pos d = omega (arith, ints, sum) in
    let rest : nat_abs (int_rem_euclid (pos a +ℤ neg_ℤ (pos s)) (pos n)) ≡ d = ap nat_abs (int_rem_euclid_is (pos a +ℤ neg_ℤ (pos s)) (pos n) n k d (omega (arith, less)) refl is) ∙ mod-eq_of_lt less in
    grind (arith, rest)
around_at false n a s zero d r less sum e = omega (arith, ints, sum, within_is n r (pos a +ℤ neg_ℤ (pos s)) e)
around_at false n a s (suc k) d r less sum e = absurd (omega (arith, ints, less, sum, within_is n r (pos a +ℤ neg_ℤ (pos s)) e))

-- so many steps back
pub back_by : (a l c : ℕ) (u : ℤ) → u ≡ pos c → pos a +ℤ pos l *ℤ neg_ℤ u ≡ pos a +ℤ neg_ℤ (pos (l * c))
back_by a l c u is = rw is omega (arith, ints, ap (λ m. l * m) (neg_is (pos c)).0, ap (λ m. l * m) (neg_is (pos c)).1, (neg_is (pos (l * c))).0, (neg_is (pos (l * c))).1)

-- a coordinate that is not moved
unmoved : (a l : ℕ) (u : ℤ) → u ≡ pos 0 → pos a +ℤ pos l *ℤ neg_ℤ u ≡ pos a
unmoved a l u is = rw is omega (arith, ints)

-- ---- numbers in a row

drop-range : (a n k : ℕ) → k ≤ n → drop k (range_with_len a n) ≡ range_with_len (a + k) (n - k)
drop-range a n zero le = ap₂ range_with_len {x = a} {y = a + 0} (omega arith) (omega arith)
drop-range a zero (suc k) le = absurd (omega (arith, le))
drop-range a (suc n) (suc k) le = drop-range (a + 1) n k (omega (arith, le)) ∙ ap₂ range_with_len {x = a + 1 + k} {y = a + suc k} (omega arith) (omega arith)

-- ---- the moves back from x

module _ (b : BoardData) (t : List ℤ) (x : List ℕ) (there : Contains (box b.sizes) x) (long : length t ≡ length b.sizes) (n q : ℕ) (some : 0 < length (parts_of t))
    (once : GoesAroundOnce b.sizes (get_or (parts_of t) 0 (0, pos 0)) n) (all : arcs_from b x (opposite t) ≡ arcs_along b.sizes b.wrap x (parts_of (opposite t)) n)
    (turn : q ≡ min n (get_or x (get_or (parts_of t) 0 (0, pos 0)).0 0 / nat_abs (get_or (parts_of t) 0 (0, pos 0)).1)) where
  abbrev j : ℕ
  j = (first_part 0 t).0

  abbrev c : ℕ
  c = nat_abs (first_part 0 t).1

  abbrev a : ℕ
  a = get_or x j 0

  abbrev size : ℕ
  size = get_or b.sizes j 0

  abbrev sides : List Side
  sides = sides_of b.sizes b.wrap

  abbrev vectors : List (List ℕ)
  vectors = box b.sizes

  abbrev u : ℕ
  u = vertex_among (box b.sizes) x

  abbrev moves : List Move
  moves = behind b t x there

  below_x : IsBelow x b.sizes
  below_x = IsBelow-from_Contains b.sizes x there

  long_x : length x ≡ length b.sizes
  long_x = length_all_zip (λ y s. y < s) x b.sizes below_x

  at_first : (d : ℕ) × IsFirst 0 t d
  at_first = first_at 0 t some

  first_is : at_first.0 ≡ j
  first_is = omega (arith, at_first.1.number)

  within : j < length b.sizes
  within = omega (arith, first_is, at_first.1.within, long)

  entry : get_or t j (pos 0) ≡ pos c
  entry = ap (λ i. get_or t i (pos 0)) (sym first_is) ∙ at_first.1.entry ∙ once.0

  zeros : (i : ℕ) → i < j → get_or t i (pos 0) ≡ pos 0
  zeros i h = at_first.1.zeros i (omega (arith, h, first_is))

  inside : (i : ℕ) → i < length b.sizes → get_or x i 0 < get_or b.sizes i 0
  inside i h = AllZip-get_or (λ y s. y < s) x b.sizes i 0 0 below_x (omega (arith, h, long_x))

  -- a coordinate of the place behind
  there_at : (l : ℕ) (y : List ℕ) (i : ℕ) → place sides x (opposite t) l ≡ Some y → i < length b.sizes
      → coordinate_on (record { size = get_or b.sizes i 0; wraps = is_bit_set b.wrap i }) (pos (get_or x i 0) +ℤ pos l *ℤ neg_ℤ (get_or t i (pos 0))) ≡ Some (get_or y i 0)
  there_at l y i e h =
      let at : coordinate_on (record { size = get_or b.sizes i 0; wraps = is_bit_set b.wrap (0 + i) }) (pos (get_or x i 0) +ℤ pos l *ℤ get_or (opposite t) i (pos 0)) ≡ Some (get_or y i 0) = coordinate_there 0 b.sizes b.wrap x (opposite t) l y i e h in
      let same : 0 + i ≡ i = omega arith in
      subst₂ (λ k w. coordinate_on (record { size = get_or b.sizes i 0; wraps = is_bit_set b.wrap k }) (pos (get_or x i 0) +ℤ pos l *ℤ w) ≡ Some (get_or y i 0)) same (get_or-map neg_ℤ t i (pos 0) (pos 0) (omega (arith, h, long))) at

  -- those before the first that is moved stay
  before_stays : (l : ℕ) (y : List ℕ) (i : ℕ) → place sides x (opposite t) l ≡ Some y → i < j → get_or y i 0 ≡ get_or x i 0
  before_stays l y i e h =
      let h2 : i < length b.sizes = omega (arith, h, within) in
      let side : coordinate_on (record { size = get_or b.sizes i 0; wraps = is_bit_set b.wrap i }) (pos (get_or x i 0)) ≡ Some (get_or x i 0) = side_itself (is_bit_set b.wrap i) (get_or b.sizes i 0) (get_or x i 0) (inside i h2) in
      let e2 = there_at l y i e h2 in
      let z = unmoved (get_or x i 0) l (get_or t i (pos 0)) (zeros i h) in
      cc (side, e2, z)

  -- the first falls by equal steps, and rises by the side where it goes around
  first_falls : (k l : ℕ) (y : List ℕ) → place sides x (opposite t) l ≡ Some y → l * c ≤ a + k * size → a + k * size < l * c + size → get_or y j 0 + l * c ≡ a + k * size
  first_falls k l y e most far =
      let d = a + k * size - l * c in
      let at : coordinate_on (record { size = size; wraps = is_bit_set b.wrap j }) (pos a +ℤ neg_ℤ (pos (l * c))) ≡ Some (get_or y j 0) =
      subst (λ z. coordinate_on (record { size = size; wraps = is_bit_set b.wrap j }) z ≡ Some (get_or y j 0)) (back_by a l c (get_or t j (pos 0)) entry) (there_at l y j e within) in
      omega (arith, most, around_at (is_bit_set b.wrap j) size a (l * c) k d (get_or y j 0) (omega (arith, most, far)) (omega (arith, most)) at)

  -- ---- their order

  -- a move back of a length
  abbrev Back : Move → Type 0
  Back m = Leads b t x there (opposite t) m

  on_sides : IsBelow x (map (λ s. s.size) (sides_of b.sizes b.wrap))
  on_sides = below b t x there x there

  long_to : (m : Move) → Back m → length m.to ≡ length b.sizes
  long_to m lead =
      length_all_zip (λ y s. y < s) m.to b.sizes (IsBelow-from_Contains b.sizes m.to (vector_there b t x there (opposite t) m.to m.len lead.1))

  some_steps : (m : Move) → Back m → 0 < m.len
  some_steps m lead = some_length sides b.piece x (opposite t) m.len m.to on_sides lead.1

  in_order : (v w : List ℕ) → Contains vectors v → Contains vectors w → length v ≡ length b.sizes → length w ≡ length b.sizes
      → ((i : ℕ) → i < j → get_or v i 0 ≡ get_or w i 0) → get_or v j 0 < get_or w j 0 → vertex_among vectors v < vertex_among vectors w
  in_order v w in_v in_w long_v long_w alike less =
      vertices_in_order vectors v w (box_vectors_rise b.sizes) in_v in_w (before_at v w j alike less (omega (arith, within, long_v)) (omega (arith, within, long_w)))

  vector_of : (m : Move) → Back m → Contains vectors m.to
  vector_of m lead = vector_there b t x there (opposite t) m.to m.len lead.1

  -- by the first coordinates
  to_before : (m : Move) → Back m → m.len * c ≤ a → vertex_among vectors m.to < u
  to_before m lead near =
      let first = first_falls 0 m.len m.to lead.1.1 (omega (arith, near)) (omega (arith, inside j within)) in
      let far = mul-le 1 1 m.len c (omega (arith, some_steps m lead)) (omega (arith, once.1)) in
      in_order m.to x (vector_of m lead) there (long_to m lead) long_x (λ i h. before_stays m.len m.to i lead.1.1 h) (omega (arith, first, far))

  to_after : (m : Move) → Back m → a < m.len * c → m.len * c < size → u < vertex_among vectors m.to
  to_after m lead far less =
      let first = first_falls 1 m.len m.to lead.1.1 (omega (arith, less)) (omega (arith, far)) in
      in_order x m.to there (vector_of m lead) long_x (long_to m lead) (λ i h. sym (before_stays m.len m.to i lead.1.1 h)) (omega (arith, first, less))

  -- of two that go around equally often, the farther leads to the earlier vector
  farther_falls : (k : ℕ) (m o : Move) → Back m → Back o → m.len < o.len → o.len * c ≤ a + k * size → a + k * size < m.len * c + size → vertex_among vectors o.to < vertex_among vectors m.to
  farther_falls k m o lead_m lead_o less most far =
      let step : m.len * c + c ≤ o.len * c = omega (arith, mul-le (m.len + 1) c o.len c (omega (arith, less)) (omega arith)) in
      let one = first_falls k o.len o.to lead_o.1.1 most (omega (arith, far, step)) in
      let other = first_falls k m.len m.to lead_m.1.1 (omega (arith, most, step)) far in
      in_order o.to m.to (vector_of o lead_o) (vector_of m lead_m) (long_to o lead_o) (long_to m lead_m)
      (λ i h. before_stays o.len o.to i lead_o.1.1 h ∙ sym (before_stays m.len m.to i lead_m.1.1 h)) (omega (arith, one, other, step, once.1))

  -- ---- their lengths

  abbrev arc : ℕ → LocalArc
  arc l = arc_along b.sizes b.wrap x (parts_of (opposite t)) l

  count : length moves ≡ n
  count = sym (length-map moves move_arc) ∙ ap length all ∙ length-map-range_with_len arc 1 n

  len_at : (i : ℕ) (d : Move) → i < length moves → (get_or moves i d).len ≡ i + 1
  len_at i d h =
      let arcs : get_or (map move_arc moves) i (move_arc d) ≡ arc (i + 1) = ap (λ ls. get_or ls i (move_arc d)) all ∙ get_or-map-range_with_len arc 1 n i (i + 1) (move_arc d) (omega (arith, h, count)) (omega arith) in
      let lens : pos (get_or moves i d).len ≡ pos (i + 1) = ap (λ l. l.len) (sym (get_or-map move_arc moves i d (move_arc d) h) ∙ arcs) in
      ap nat_abs lens

  abbrev near : List Move
  near = take q moves

  abbrev far : List Move
  far = drop q moves

  few : q ≤ n
  few = omega (arith, turn)

  near_steps : (l : ℕ) → l ≤ q → l * c ≤ a
  near_steps l h =
      let most : q ≤ a / c = omega (arith, turn) in
      omega (arith, mul-le l c (a / c) c (omega (arith, h, most)) (omega arith), div-mul-le_self a c)

  far_steps : (l : ℕ) → q < l → l ≤ n → a < l * c
  far_steps l h le =
      let next : a / c + 1 ≤ l = omega (arith, turn, h, le) in
      omega (arith, mul-le (a / c + 1) c l c next (omega arith), lt-div-mul-add {a = a} {b = c} once.1)

  all_steps : (l : ℕ) → l ≤ n → l * c < size
  all_steps l h = omega (arith, mul-le l c n c h (omega arith), once.2)

  back_at : (i : ℕ) (d : Move) → i < length moves → Back (get_or moves i d)
  back_at i d h = all_lead sides b.piece (opposite t) x i d h

  -- moves from a place on, all of which go around k times
  abbrev IsPart : ℕ → ℕ → List Move → Type 0
  IsPart k from ms =
      (i : ℕ) (d : Move) → i < length ms → (get_or ms i d ≡ get_or moves (from + i) d) × (from + i < length moves) × ((from + i + 1) * c ≤ a + k * size) × (a + k * size < (from + i + 1) * c + size)

  near_part : IsPart 0 0 near
  near_part i d h =
      let size_is : length near ≡ q = length-take-le q moves (omega (arith, few, count)) in
      let steps : (0 + i + 1) * c ≤ a = near_steps (0 + i + 1) (omega (arith, h, size_is)) in
      (get_or-take q moves i d (omega (arith, h, size_is)) ∙ ap (λ k. get_or moves k d) {x = i} {y = 0 + i} (omega arith), omega (arith, h, size_is, few, count), omega (arith, steps), omega (arith, inside j within))

  far_part : IsPart 1 q far
  far_part i d h =
      let here : q + i < length moves = omega (arith, h, length-drop q moves) in
      let le : q + i + 1 ≤ n = omega (arith, here, count) in
      (get_or-drop q moves i d, here, omega (arith, all_steps (q + i + 1) le), omega (arith, far_steps (q + i + 1) (omega arith) le))

  part_falls : (k from : ℕ) (ms : List Move) → IsPart k from ms → Falls b t x there ms
  part_falls k from ms part =
      λ i h d less within.
      let one = part i d (omega (arith, less, within)) in
      let two = part h d within in
      let m = get_or moves (from + i) d in
      let o = get_or moves (from + h) d in
      let len_m : m.len ≡ from + i + 1 = len_at (from + i) d one.1 in
      let len_o : o.len ≡ from + h + 1 = len_at (from + h) d two.1 in
      rw (one.0, two.0) (farther_falls k m o (back_at (from + i) d one.1) (back_at (from + h) d two.1) (omega (arith, len_m, len_o, less))
      (subst (λ l. l * c ≤ a + k * size) (sym len_o) two.2) (subst (λ l. a + k * size < l * c + size) (sym len_m) one.3))

  all_before : All (λ m. vertex_among vectors m.to < u) near
  all_before =
      λ i d h.
      let at = near_part i d h in
      let m = get_or moves (0 + i) d in
      let len : m.len ≡ 0 + i + 1 = len_at (0 + i) d at.1 in
      let steps : m.len * c ≤ a = subst (λ l. l * c ≤ a) (sym len) (omega (arith, at.2)) in
      subst (λ m. vertex_among vectors m.to < u) (sym at.0) (to_before m (back_at (0 + i) d at.1) steps)

  all_after : All (λ m. u < vertex_among vectors m.to) far
  all_after =
      λ i d h.
      let at = far_part i d h in
      let m = get_or moves (q + i) d in
      let len : m.len ≡ q + i + 1 = len_at (q + i) d at.1 in
      let le : m.len ≤ n = omega (arith, len, at.1, count) in
      subst (λ m. u < vertex_among vectors m.to) (sym at.0) (to_after m (back_at (q + i) d at.1) (far_steps m.len (omega (arith, len)) le) (all_steps m.len le))

  -- ---- their arcs

  near_arcs : map move_arc near ≡ map arc (range_with_len 1 q)
  near_arcs = sym (take-map move_arc q moves) ∙ ap (take q) all ∙ take-map-range_with_len arc 1 n q few

  far_arcs : map move_arc far ≡ map arc (range_with_len (q + 1) (n - q))
  far_arcs =
      sym (drop-map move_arc q moves) ∙ ap (drop q) all ∙ drop-map arc q (range_with_len 1 n)
      ∙ ap (map arc) (drop-range 1 n q few ∙ ap (λ k. range_with_len k (n - q)) {x = 1 + q} {y = q + 1} (omega arith))

  -- the arcs of x by the edges of t: those to vectors after it, those from it, the longer first, and those to vectors before it
  pub around_arcs : reverse (arcs_onward false x (moves_by sides b.piece vectors t)) ≡ (map arc (range_with_len (q + 1) (n - q)) ++ reverse (arcs_from b x t)) ++ map arc (range_with_len 1 q)
  around_arcs =
      let ns = map move_arc near in
      let os = map move_arc (ahead b t x there) in
      let fs = map move_arc far in
      ap reverse (around_in_order b t x there near far (sym (take-append-drop q moves)) all_before all_after (part_falls 0 0 near near_part) (part_falls 1 q far far_part))
      ∙ reverse-append (reverse ns) (os ++ reverse fs)
      ∙ ap₂ (λ p r. p ++ r) (reverse-append os (reverse fs) ∙ ap (λ p. p ++ reverse os) (reverse-reverse fs ∙ far_arcs)) (reverse-reverse ns ∙ near_arcs)
