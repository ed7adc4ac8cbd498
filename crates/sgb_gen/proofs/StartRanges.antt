-- The starts of the edges that touch a vector, by the range that they are within.
use Rattle.std.proofs.Common.{◌≡◌, ℕ, zero, suc, ◌+◌, ◌<◌, ◌≤◌, ◌⊎◌, ℤ, Bool, true, false, not, cond, List, ◌++◌, length, reverse, get_or, sym, ap, subst, ◌∙◌, inl, inr, arith, true≢false, []}
use Rattle.std.specs.Prelude.{◌==◌}
use Rattle.std.specs.List.{All, Contains, filter, flat_map, range_with_len}
use Rattle.std.proofs.lemmas.Bool.{eq-eqb}
use Rattle.std.proofs.lemmas.Bool.Decides.{nat_tests}
use Rattle.std.proofs.lemmas.Grind.{flat_map-append}
use Rattle.std.proofs.lemmas.List.{reverse-append}
use Rattle.std.proofs.lemmas.List.Elements.{All-append, All-cons, All-contains, All-contains_itself, All-filter, All-map, All-nil, Contains-append_left, Contains-append_right, filter_passes}
use Rattle.std.proofs.lemmas.List.Kept.{AllPairs-filter}
use Rattle.sgb_vec.specs.Boxes.{box}
use Rattle.sgb_vec.proofs.FamilyLaws.{box_vectors_rise}
use Rattle.sgb_vec.proofs.Lists.{AllPairs-append, Contains-passing, filter-all, filter-none}
use Rattle.sgb_gen.specs.Boards.{BoardData}
use Rattle.sgb_gen.specs.LocalLists.{LocalArc}
use Rattle.sgb_moves.specs.Moves.{LeadsTo, moves_from, opposite, sides_of}
use Rattle.sgb_moves.specs.VectorMoves.{Move}
use Rattle.sgb_gen.specs.VectorGraphs.{vertex_among}
use Rattle.sgb_moves.specs.declared.start_ranges.StartRange.{StartRange}
use Rattle.sgb_gen.specs.inner.LocalBoards.{arcs_of_starts, arcs_onward, edge_arcs, moves_by, other_starts, own_starts, starts_of}
use Rattle.sgb_moves.specs.inner.Moves.{destination}
use Rattle.sgb_moves.specs.inner.Starts.{AreHalves, IsOne, is_within}
use Rattle.sgb_gen.specs.inner.Starts.{arcs_within, starts_within}
use Rattle.sgb_gen.proofs.BoardWalks.{longest}
use Rattle.sgb_gen.proofs.MovesInOrder.{all_lead, all_until}
use Rattle.sgb_gen.proofs.Reaches.{moves_from-until}
use Rattle.sgb_gen.proofs.SortedStarts.{passing_one}
use Rattle.sgb_gen.proofs.TouchingMoves.{IsEarlier, first_less, onward_by_touching, same_in_order, second_less, touching, touching_found, touching_rise, vector_there}
use Rattle.sgb_gen.proofs.VectorVertices.{vertex_within}

-- ---- what it is to be within a range

pub within_is : (r : StartRange) (s : ℕ × ℕ) → is_within r s ≡ true → (r.low ≤ s.0) × (s.0 < r.high) × (r.from < s.1) × (s.1 ≤ r.to)
within_is r s e = grind (arith, nat_tests)

pub is_within_of : (r : StartRange) (s : ℕ × ℕ) → r.low ≤ s.0 → s.0 < r.high → r.from < s.1 → s.1 ≤ r.to → is_within r s ≡ true
is_within_of r s low high from to = grind (arith, nat_tests)

-- those of one vertex, where it is not in the range, and those of others, where no other is
pub own_outside : (r : StartRange) (u : ℕ) (ms : List Move) → ((l : ℕ) → is_within r (u, l) ≡ false) → filter (is_within r) (own_starts u ms) ≡ []
own_outside r u ms out = filter-none (is_within r) (own_starts u ms) (All-map (λ s. is_within r s ≡ false) (λ m. (u, m.len)) ms (λ k d h. out (get_or ms k d).len))

pub others_outside : (r : StartRange) (vectors : List (List ℕ)) (u : ℕ) (ms : List Move) → ((w l : ℕ) → (w ≡ u → ⊥) → is_within r (w, l) ≡ false) → filter (is_within r) (other_starts vectors u ms) ≡ []
others_outside r vectors u ms out =
    let far : Move → Bool = λ m. not (vertex_among vectors m.to == u) in
    let differs : (v : ℕ) → not (v == u) ≡ true → v ≡ u → ⊥ = λ v e same. true≢false (sym e ∙ ap not (eq-eqb v u same)) in
    filter-none (is_within r) (other_starts vectors u ms)
    (All-map (λ s. is_within r s ≡ false) (λ m. (vertex_among vectors m.to, m.len)) (filter far ms)
    (λ k d h. let m = get_or (filter far ms) k d in out (vertex_among vectors m.to) m.len (differs (vertex_among vectors m.to) (filter_passes far ms k d h))))

module _ (b : BoardData) (t : List ℤ) (x : List ℕ) (there : Contains (box b.sizes) x) where
  abbrev moves : List (ℕ × ℕ)
  moves = touching b t x there

  earlier_of : (s r : ℕ × ℕ) → (s.0 < r.0) ⊎ ((s.0 ≡ r.0) × (s.1 < r.1)) → IsEarlier s r
  earlier_of s r (inl less) = first_less s r less
  earlier_of s r (inr less) = second_less s r less.0 less.1

  -- those of one half, and those of the other
  halves_apart : (r a c : StartRange) → AreHalves r a c → filter (is_within r) moves ≡ filter (is_within a) moves ++ filter (is_within c) moves
  halves_apart r a c halves =
      let whole = filter (is_within r) moves in
      let first = filter (is_within a) moves in
      let second = filter (is_within c) moves in
      let rise = touching_rise b t x there in
      let is_among : (p : ℕ × ℕ → Bool) → All (Contains moves) (filter p moves) = λ p. All-filter p (Contains moves) moves (All-contains_itself moves) in
      same_in_order whole (first ++ second) (AllPairs-filter IsEarlier (is_within r) moves rise)
      (AllPairs-append IsEarlier first second (AllPairs-filter IsEarlier (is_within a) moves rise) (AllPairs-filter IsEarlier (is_within c) moves rise)
      (λ k d h i e g. earlier_of (get_or first k d) (get_or second i e) (halves.before (get_or first k d) (get_or second i e) (filter_passes (is_within a) moves k d h) (filter_passes (is_within c) moves i e g))))
      (λ k d h.
      let s = get_or whole k d in
      elim (halves.either s (filter_passes (is_within r) moves k d h)) [
        | inl in_first ↦ Contains-append_left first second s (Contains-passing (is_within a) moves s in_first (is_among (is_within r) k d h))
        | inr in_second ↦ Contains-append_right first second s (Contains-passing (is_within c) moves s in_second (is_among (is_within r) k d h))
      ])
      (All-append (Contains whole) first second
      (λ k d h. Contains-passing (is_within r) moves (get_or first k d) (halves.first (get_or first k d) (filter_passes (is_within a) moves k d h)) (is_among (is_within a) k d h))
      (λ k d h. Contains-passing (is_within r) moves (get_or second k d) (halves.second (get_or second k d) (filter_passes (is_within c) moves k d h)) (is_among (is_within c) k d h)))

  -- so are their arcs, those of the later ones first
  pub arcs_apart : (r a c : StartRange) → AreHalves r a c → arcs_within b x t r ≡ arcs_within b x t c ++ arcs_within b x t a
  arcs_apart r a c halves =
      let edge : ℕ × ℕ → List LocalArc = λ s. edge_arcs x s.1 (destination (sides_of b.sizes b.wrap) b.piece x (cond (s.0 == vertex_among (box b.sizes) x) t (opposite t)) s.1) in
      ap (λ ss. reverse (flat_map edge ss)) (halves_apart r a c halves)
      ∙ ap reverse (flat_map-append edge (filter (is_within a) moves) (filter (is_within c) moves))
      ∙ reverse-append (flat_map edge (filter (is_within a) moves)) (flat_map edge (filter (is_within c) moves))

  -- a range that is not cut in two has no two of them
  pub not_two : (r : StartRange) → IsOne r → 1 < length (starts_within b x t r) → ⊥
  not_two r one many =
      passing_one b t x there (is_within r) r.low (r.from + 1)
      (λ s e. let w = within_is r s e in (omega (arith, w.0, w.1, one.0), omega (arith, w.2, w.3, one.1))) many

  -- ---- all of them

  -- the lengths of moves
  lengths_within : (u : List ℤ) → All (λ m. (0 < m.len) × (m.len ≤ longest b)) (moves_from (sides_of b.sizes b.wrap) b.piece x u)
  lengths_within u =
      subst (All (λ (m : Move). (0 < m.len) × (m.len ≤ longest b))) (sym (moves_from-until (sides_of b.sizes b.wrap) b.piece x u))
      (all_until (λ l. (0 < l) × (l ≤ longest b)) x _ (range_with_len 1 (longest b)) (in_range 1 (longest b) (omega arith) (omega arith)))
    where
      in_range : (from n : ℕ) → 0 < from → from + n ≤ longest b + 1 → All (λ l. (0 < l) × (l ≤ longest b)) (range_with_len from n)
      in_range from zero some few = All-nil (λ (l : ℕ). (0 < l) × (l ≤ longest b))
      in_range from (suc n) some few = All-cons (λ (l : ℕ). (0 < l) × (l ≤ longest b)) from (range_with_len (from + 1) n) (some, omega arith) (in_range (from + 1) n (omega arith) (omega arith))

  abbrev all_range : StartRange
  all_range = record { low = 0; high = length (box b.sizes); from = 0; to = longest b }

  all_starts_within : All (λ s. is_within all_range s ≡ true) (starts_of (sides_of b.sizes b.wrap) b.piece (box b.sizes) x t)
  all_starts_within =
      let vectors = box b.sizes in
      let u = vertex_among vectors x in
      let own = moves_from (sides_of b.sizes b.wrap) b.piece x t in
      let back = moves_from (sides_of b.sizes b.wrap) b.piece x (opposite t) in
      let far : Move → Bool = λ m. not (vertex_among vectors m.to == u) in
      All-append (λ s. is_within all_range s ≡ true) (own_starts u own) (other_starts vectors u back)
      (All-map (λ s. is_within all_range s ≡ true) (λ m. (u, m.len)) own
      (λ k d h.
      let l = lengths_within t k d h in
      is_within_of all_range (u, (get_or own k d).len) (omega arith) (vertex_within vectors x (box_vectors_rise b.sizes) there) l.0 l.1))
      (All-map (λ s. is_within all_range s ≡ true) (λ m. (vertex_among vectors m.to, m.len)) (filter far back)
      (λ k d h.
      let m = get_or (filter far back) k d in
      let l = All-filter far (λ n. (0 < n.len) × (n.len ≤ longest b)) back (lengths_within (opposite t)) k d h in
      let lead = All-filter far (λ n. (n.from ≡ x) × LeadsTo (sides_of b.sizes b.wrap) b.piece x (opposite t) n.len n.to) back (all_lead (sides_of b.sizes b.wrap) b.piece (opposite t) x) k d h in
      is_within_of all_range (vertex_among vectors m.to, m.len) (omega arith) (vertex_within vectors m.to (box_vectors_rise b.sizes) (vector_there b t x there (opposite t) m.to m.len lead.1)) l.0 l.1))

  -- the range of all vertices and lengths has all arcs
  pub all_within : arcs_within b x t all_range ≡ reverse (arcs_onward false x (moves_by (sides_of b.sizes b.wrap) b.piece (box b.sizes) t))
  all_within =
      let all : All (λ s. is_within all_range s ≡ true) moves = λ k d h. All-contains (λ s. is_within all_range s ≡ true) (starts_of (sides_of b.sizes b.wrap) b.piece (box b.sizes) x t) (get_or moves k d) all_starts_within (touching_found b t x there k d h) in
      ap (λ ss. reverse (arcs_of_starts (sides_of b.sizes b.wrap) b.piece (vertex_among (box b.sizes) x) x t (opposite t) ss)) (filter-all (is_within all_range) moves all)
      ∙ ap reverse (sym (onward_by_touching b t x there))
