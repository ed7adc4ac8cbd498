-- The moves by one displacement in order: by the vectors where they start, and then by their lengths.
use Rattle.std.proofs.Common.{◌≡◌, ℕ, ◌<◌, ◌⊎◌, ℤ, List, [], ◌∷◌, length, get_or, Option, Some, None, refl, sym, ap, subst, subst₂, inl, inr, arith}
use Rattle.std.specs.List.{All, AllPairs, Contains, cons_option, filter_map, flat_map, slice_get}
use Rattle.std.specs.Option.{option_map, option_map_or}
use Rattle.std.proofs.lemmas.Bool.{cases_lt}
use Rattle.std.proofs.lemmas.List.Elements.{All-cons, All-contains, All-contains_itself, All-head, All-nil, All-tail}
use Rattle.std.proofs.lemmas.List.Kept.{AllPairs-cons}
use Rattle.std.proofs.lemmas.Option.{slice_get_read}
use Rattle.sgb_vec.specs.Lexicographic.{IsBefore, IsRising}
use Rattle.sgb_moves.specs.Moves.{LeadsTo, Side, moves_from, place, reach}
use Rattle.sgb_moves.specs.VectorMoves.{Move}
use Rattle.sgb_gen.specs.VectorGraphs.{vertex_among}
use Rattle.sgb_vec.proofs.Lists.{All-flat_map, AllPairs-append, AllPairs-first, AllPairs-follows, AllPairs-none, AllPairs-others, Contains-cases, Contains-first, Contains-other, range-rises}
use Rattle.sgb_gen.proofs.OrderedLists.{before_none, before_trans}
use Rattle.sgb_gen.proofs.Reaches.{move, moves_from-until, moves_until}
use Rattle.sgb_gen.proofs.RisingVectors.{before_later, vertex_in_rising}

-- ---- what is made of those elements that something is made of

all_made : {X Y : Type 0} (Q : Y → Type 0) (h : X → Option Y) (xs : List X) → ((x : X) (y : Y) → Contains xs x → h x ≡ Some y → Q y) → All Q (filter_map h xs)
all_made Q h [] each = All-nil Q
all_made Q h (x ∷ xs) each = with_first (h x) refl (all_made Q h xs (λ z y there made. each z y (Contains-other x z xs there) made))
  where
    with_first : (o : Option _) → h x ≡ o → All Q (filter_map h xs) → All Q (cons_option o (filter_map h xs))
    with_first o e rest = grind (arith, All-cons, Contains-first)

pub made_there : {X Y : Type 0} (h : X → Option Y) (xs : List X) (x : X) (y : Y) → Contains xs x → h x ≡ Some y → Contains (filter_map h xs) y
made_there h [] x y there made = absurd (omega (arith, there.1))
made_there h (z ∷ xs) x y there made = elim (Contains-cases z x xs there) [
  | inl same ↦ grind (arith, Contains-first)
  | inr later ↦ behind (h z) (made_there h xs x y later made)
]
  where
    behind : (o : Option _) → Contains (filter_map h xs) y → Contains (cons_option o (filter_map h xs)) y
    behind None is = is
    behind (Some first) is = Contains-other first y (filter_map h xs) is

-- ---- the moves from one vector

-- where each of the moves from y leads
pub all_lead : (sides : List Side) (piece : ℤ) (t : List ℤ) (y : List ℕ) → All (λ m. (m.from ≡ y) × LeadsTo sides piece y t m.len m.to) (moves_from sides piece y t)
all_lead sides piece t y =
    all_made (λ m. (m.from ≡ y) × LeadsTo sides piece y t m.len m.to) (λ l. option_map (λ z. move y l z) (place sides y t l)) (reach sides piece y t)
    (λ l m there made. led l m (place sides y t l) refl there made)
  where
    led : (l : ℕ) (m : Move) (o : Option (List ℕ)) → place sides y t l ≡ o → Contains (reach sides piece y t) l → option_map (λ z. move y l z) o ≡ Some m → (m.from ≡ y) × LeadsTo sides piece y t m.len m.to
    led l m o e there made = grind (arith, move)

-- and where a move leads, it is there
pub move_there : (sides : List Side) (piece : ℤ) (t : List ℤ) (y z : List ℕ) (l : ℕ) → LeadsTo sides piece y t l z → Contains (moves_from sides piece y t) (move y l z)
move_there sides piece t y z l leads =
    made_there (λ k. option_map (λ x. move y k x) (place sides y t k)) (reach sides piece y t) l (move y l z) leads.0 (ap (option_map (λ x. move y l x)) leads.1)

-- the lengths of moves are among those that are tried, and rise with them
pub all_until : (Q : ℕ → Type 0) (x : List ℕ) (leads : ℕ → Option (List ℕ)) (ls : List ℕ) → All Q ls → All (λ m. Q m.len) (moves_until x leads ls)
all_until Q x leads [] h = All-nil (λ (m : Move). Q m.len)
all_until Q x leads (l ∷ ls) h = next (leads l) (all_until Q x leads ls (All-tail Q l ls h))
  where
    next : (o : Option (List ℕ)) → All (λ m. Q m.len) (moves_until x leads ls) → All (λ m. Q m.len) (option_map_or (λ y. move x l y ∷ moves_until x leads ls) o [])
    next None rest = All-nil (λ (m : Move). Q m.len)
    next (Some y) rest = All-cons (λ (m : Move). Q m.len) (move x l y) (moves_until x leads ls) (All-head Q l ls h) rest

rise_until : (x : List ℕ) (leads : ℕ → Option (List ℕ)) (ls : List ℕ) → AllPairs (λ a b. a < b) ls → AllPairs (λ m n. m.len < n.len) (moves_until x leads ls)
rise_until x leads [] h = AllPairs-none (λ (m n : Move). m.len < n.len)
rise_until x leads (l ∷ ls) h =
    next (leads l) (all_until (λ k. l < k) x leads ls (AllPairs-first (λ a b. a < b) l ls h)) (rise_until x leads ls (AllPairs-others (λ a b. a < b) l ls h))
  where
    Less : Move → Move → Type 0
    Less m n = m.len < n.len

    next : (o : Option (List ℕ)) → All (λ m. l < m.len) (moves_until x leads ls) → AllPairs (λ m n. m.len < n.len) (moves_until x leads ls) → AllPairs (λ m n. m.len < n.len) (option_map_or (λ y. move x l y ∷ moves_until x leads ls) o [])
    next o above rest = grind (arith, AllPairs-none, AllPairs-cons, move, moves_until)

pub lengths_rise : (sides : List Side) (piece : ℤ) (t : List ℤ) (y : List ℕ) → AllPairs (λ m n. m.len < n.len) (moves_from sides piece y t)
lengths_rise sides piece t y = grind (arith, moves_from-until, rise_until, range-rises)

-- ---- those from all vectors

-- a move starts at an earlier vector, or at the same and is shorter
abbrev pub ComesBefore : Move → Move → Type 0
ComesBefore m n = IsBefore m.from n.from ⊎ ((m.from ≡ n.from) × (m.len < n.len))

module _ (sides : List Side) (piece : ℤ) (t : List ℤ) where
  -- they start at the vectors
  pub all_start : (vectors : List (List ℕ)) → All (λ m. Contains vectors m.from) (flat_map (λ y. moves_from sides piece y t) vectors)
  all_start vectors =
      let Starts = λ (m : Move). Contains vectors m.from in
      All-flat_map Starts (λ y. moves_from sides piece y t) vectors
      (λ k d within i e inside.
      let y = get_or vectors k d in
      let from = (all_lead sides piece t y i e inside).0 in
      subst (Contains vectors) (sym from) (All-contains_itself vectors k d within))

  from_here : (y : List ℕ) → AllPairs ComesBefore (moves_from sides piece y t)
  from_here y = grind (arith, AllPairs-follows, all_lead, lengths_rise)

  pub moves_in_order : (vectors : List (List ℕ)) → IsRising vectors → AllPairs ComesBefore (flat_map (λ y. moves_from sides piece y t) vectors)
  moves_in_order [] rise = AllPairs-none ComesBefore
  moves_in_order (y ∷ vectors) rise =
      let own = moves_from sides piece y t in
      let rest = flat_map (λ z. moves_from sides piece z t) vectors in
      let later = AllPairs-first IsBefore y vectors rise in
      AllPairs-append ComesBefore own rest (from_here y) (moves_in_order vectors (AllPairs-others IsBefore y vectors rise))
      (λ k d within i e inside.
      let m = get_or own k d in
      let n = get_or rest i e in
      let from : m.from ≡ y = (all_lead sides piece t y k d within).0 in
      let there : Contains vectors n.from = all_start vectors i e inside in
      inl (subst (λ v. IsBefore v n.from) (sym from) (All-contains (IsBefore y) vectors n.from later there)))

-- of vectors in order, the vertices are in order
pub vertices_in_order : (vectors : List (List ℕ)) (v w : List ℕ) → IsRising vectors → Contains vectors v → Contains vectors w → IsBefore v w → vertex_among vectors v < vertex_among vectors w
vertices_in_order vectors v w rise (i, in_v, at_v) (j, in_w, at_w) before =
    let here : slice_get vectors i ≡ Some v = slice_get_read vectors (length vectors) i v refl in_v (sym at_v) in
    let there : slice_get vectors j ≡ Some w = slice_get_read vectors (length vectors) j w refl in_w (sym at_w) in
    subst₂ (λ a b. a < b) (sym (vertex_in_rising vectors i v rise here)) (sym (vertex_in_rising vectors j w rise there))
    (elim (cases_lt i j) [
      | inl less ↦ less
      | inr more ↦
          elim (cases_lt j i) [
            | inl less ↦ absurd (before_none v (before_trans v w v before (before_later vectors j i w v rise less there here)))
            | inr equal ↦ grind (arith, before_none)
          ]
    ])
