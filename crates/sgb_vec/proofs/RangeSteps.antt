-- The vectors from one to another of a rising list: with one more or one less at either end.
use Rattle.sgb_vec.proofs.Common.{rules, ◌≡◌, ◌≢◌, ℕ, ◌+◌, ◌-◌, ◌<◌, Bool, true, false, List, [], ◌∷◌, ◌++◌, length, get_or, take, drop, nat_eq, Some, refl, sym, ap, ◌∙◌, inl, inr, arith, IsTrue, OnTrue, OnFalse, Contains, slice_get, pointwise, bytes_decides, cases_Bool, cases_order, get_or-append_seam, take-append_seam, length_push, drop_more, take_more, drop_all, drop-append-le, drop-take, take-append-drop, take_all, length-take-le, get_or-take, position_or_len_is, passes_at_first, slice_get_within, slice_get_read, get_or_from_slice_get}
use Rattle.sgb_vec.specs.Lexicographic.{IsBefore, IsRising}
use Rattle.sgb_vec.specs.Order.{IsFirst, IsFinal, IsNext, IsLast, IsPrevious, HasNoneBefore}
use Rattle.sgb_vec.specs.Ranges.{ComeAfter}
use Rattle.sgb_vec.specs.inner.Ranges.{place_among, from_to, from_to_if, AreEnds}
use Rattle.sgb_vec.proofs.RisingLists.{place-once}
use Rattle.sgb_vec.proofs.SumSuccessors.{IsBefore-asymmetric}

-- the same vector
abbrev is_same : List ℕ → List ℕ → Bool
is_same v w = pointwise nat_eq v w

-- the last of a list is the one that comes after all others
last_of : (xs others : List (List ℕ)) (v : List ℕ) → xs ≡ others ++ v ∷ [] → IsFinal xs v
last_of xs others v is =
    let long = length_push others v in
    let at : length (others ++ v ∷ []) - 1 ≡ length others = omega arith in
    rw (is, at) (slice_get_read (others ++ v ∷ []) (length (others ++ v ∷ [])) (length others) v refl (omega arith) (sym (get_or-append_seam others v [] v)))

module _ (vs : List (List ℕ)) (rise : IsRising vs) where
  -- a vector that stands at a place has that place
  place_at : (v : List ℕ) (i : ℕ) → slice_get vs i ≡ Some v → place_among vs v ≡ i
  place_at v i at =
      let within = slice_get_within vs i v at in
      position_or_len_is (is_same v) vs i v (omega arith) others
      (λ _. (bytes_decides v (get_or vs i v)).1 (sym (get_or_from_slice_get vs i v v at)))
    where
      others : (k : ℕ) → k < i → is_same v (get_or vs k v) ≡ false
      others k less = elim (cases_Bool (is_same v (get_or vs k v))) [
        | inl same ↦
            let within = slice_get_within vs i v at in
            let there : slice_get vs k ≡ Some v = slice_get_read vs (length vs) k v refl (omega arith) ((bytes_decides v (get_or vs k v)).0 same) in
            absurd (omega (arith, place-once IsBefore vs v k i IsBefore-asymmetric rise there at))
        | inr other ↦ other
      ]

  -- a vector that has a place stands there
  stands_there : (v : List ℕ) → place_among vs v < length vs → slice_get vs (place_among vs v) ≡ Some v
  stands_there v within =
      slice_get_read vs (length vs) (place_among vs v) v refl within
      ((bytes_decides v (get_or vs (place_among vs v) v)).0 (passes_at_first (is_same v) vs v within))

  -- the first and the last are the ends of all
  pub ends_of_all : (v w : List ℕ) → IsFirst vs v → IsFinal vs w → AreEnds vs v w × (from_to vs v w ≡ vs)
  ends_of_all v w first final = search (rules, place_at, slice_get_within, take_all)

  -- the same, where it is not known yet whether there are some
  pub all_ends : (some also : Bool) (v w : List ℕ) → OnTrue some (IsFirst vs v) → OnTrue also (IsFinal vs w) → OnFalse also (vs ≡ []) → IsTrue some → AreEnds vs v w
  all_ends true true v w first final none h = (ends_of_all v w first final).0
  all_ends some also v w first final none h = grind arith

  pub all_of_them : (some also : Bool) (v w : List ℕ) → OnTrue some (IsFirst vs v) → OnFalse some (vs ≡ []) → OnTrue also (IsFinal vs w) → OnFalse also (vs ≡ [])
      → from_to_if some vs v w ≡ vs
  all_of_them some also v w first empty final none = grind (arith, ends_of_all)

  -- from a vector to itself there is that one alone
  pub from_itself : (v w : List ℕ) → AreEnds vs v w → v ≡ w → from_to vs v w ≡ v ∷ []
  from_itself v w ends same =
      let place : place_among vs v ≡ place_among vs w = ap (place_among vs) same in
      let within : place_among vs v < length vs = omega (arith, ends.1) in
      let there = get_or_from_slice_get vs (place_among vs v) v v (stands_there v within) in
      rw (← place) (one (place_among vs v) v within there)
    where
      one : (i : ℕ) (x : List ℕ) → i < length vs → get_or vs i x ≡ x → drop i (take (i + 1) vs) ≡ x ∷ []
      one i x within at = grind (arith, drop-take, drop_more)

  -- the last one comes after the others
  from_before : (v w : List ℕ) → AreEnds vs v w → from_to vs v w ≡ drop (place_among vs v) (take (place_among vs w) vs) ++ w ∷ []
  from_before v w ends =
      let j = place_among vs w in
      let here : get_or vs j w ≡ w = get_or_from_slice_get vs j w w (stands_there w ends.1) in
      let longer : take (j + 1) vs ≡ take j vs ++ w ∷ [] = take_more vs j w ends.1 ∙ ap (λ y. take j vs ++ y ∷ []) here in
      grind (arith, drop-append-le, length-take-le)

  -- other ends stand at other places
  apart_ends : (v w : List ℕ) → AreEnds vs v w → v ≢ w → place_among vs v < place_among vs w
  apart_ends v w ends other =
      elim (cases_order (place_among vs v) (place_among vs w)) [
        | inl same ↦
            let at_v = stands_there v (omega (arith, ends.1)) in
            let at_w = stands_there w ends.1 in
            let equal : v ≡ w = sym (get_or_from_slice_get vs (place_among vs v) v v at_v) ∙ get_or_from_slice_get vs (place_among vs v) w v (rw same at_w) in
            absurd (other equal)
        | inr (inl less) ↦ less
        | inr (inr more) ↦ absurd (omega (arith, ends.0))
      ]

  -- the vector after a place, where it is not the last
  next_at : (found : Bool) (v w : List ℕ) (i : ℕ) → OnTrue found (IsNext vs v w) → OnFalse found (IsLast vs v) → slice_get vs i ≡ Some v → i + 1 < length vs → slice_get vs (i + 1) ≡ Some w
  next_at found v w i next last at h = grind (arith)

  -- the first one taken off
  pub front_taken : (found : Bool) (v w next : List ℕ) → OnTrue found (IsNext vs v next) → OnFalse found (IsLast vs v) → AreEnds vs v w → v ≢ w
      → AreEnds vs next w × (from_to vs v w ≡ v ∷ from_to vs next w)
  front_taken found v w next after last ends other =
      let i = place_among vs v in
      let less = apart_ends v w ends other in
      let at_v = stands_there v (omega (arith, ends.1)) in
      let at_next = next_at found v next i after last at_v (omega (arith, ends.1)) in
      let place = place_at next (i + 1) at_next in
      let here : get_or (take (place_among vs w + 1) vs) i v ≡ v = get_or-take (place_among vs w + 1) vs i v (omega arith) ∙ get_or_from_slice_get vs i v v at_v in
      grind (arith, length-take-le, drop_more)

  -- the last one taken off
  pub back_taken : (found : Bool) (v w before : List ℕ) → OnTrue found (IsPrevious vs w before) → OnFalse found (HasNoneBefore vs w) → AreEnds vs v w → v ≢ w
      → AreEnds vs v before × (from_to vs v w ≡ from_to vs v before ++ w ∷ [])
  back_taken found v w before previous first ends other =
      let j = place_among vs w in
      let at_w = stands_there w ends.1 in
      grind (arith, apart_ends, place_at, from_before)

  -- a vector of the list, what stands before it and what comes after it
  around : (v : List ℕ) (i : ℕ) → i < length vs → get_or vs i v ≡ v → vs ≡ take i vs ++ v ∷ drop (i + 1) vs
  around v i within at = sym (take-append-drop i vs) ∙ ap (λ ys. take i vs ++ ys) (drop_more vs i v within ∙ ap (λ y. y ∷ drop (i + 1) vs) at)

  -- what comes after a vector, from the next one on
  pub next_ones : (v next last : List ℕ) → Contains vs v → IsNext vs v next → IsFinal vs last → AreEnds vs next last × ComeAfter vs v (from_to vs next last)
  next_ones v next last (i, within, at) after final =
      let at_v : slice_get vs i ≡ Some v = slice_get_read vs (length vs) i v refl within (sym at) in
      let at_next = after i at_v in
      let first = place_at next (i + 1) at_next in
      let end = place_at last (length vs - 1) final in
      let inside = slice_get_within vs (i + 1) next at_next in
      let all : place_among vs last + 1 ≡ length vs = omega arith in
      let rest : from_to vs next last ≡ drop (i + 1) vs = rw (first, all) (ap (drop (i + 1)) (take_all (length vs) vs (omega arith))) in
      ((omega arith, omega arith), (take i vs, around v i within at ∙ ap (λ ys. take i vs ++ v ∷ ys) (sym rest)))

  -- nothing comes after the last
  pub none_after : (v : List ℕ) → Contains vs v → IsLast vs v → ComeAfter vs v []
  none_after v (i, within, at) last =
      let at_v : slice_get vs i ≡ Some v = slice_get_read vs (length vs) i v refl within (sym at) in
      let end = last i at_v in
      (take i vs, around v i within at ∙ ap (λ ys. take i vs ++ v ∷ ys) (drop_all (i + 1) vs (omega arith)))

  -- the same by what is known of an iterator over them: whether there are more, and which are its ends

  -- each end is among the vectors
  pub front_among : (more : Bool) (v w : List ℕ) → more ≡ true → (IsTrue more → AreEnds vs v w) → Contains vs v
  front_among more v w is ends =
      let both = ends is in
      let within : place_among vs v < length vs = omega (arith, both.0, both.1) in
      (place_among vs v, within, get_or_from_slice_get vs (place_among vs v) v v (stands_there v within))

  -- the front one comes first
  pub front_first : (more : Bool) (v w : List ℕ) → more ≡ true → (IsTrue more → AreEnds vs v w) → slice_get (from_to_if more vs v w) 0 ≡ Some v
  front_first more v w is ends =
      let both = ends is in
      let i = place_among vs v in
      let at_v = stands_there v (omega (arith, both.0, both.1)) in
      let here : get_or (take (place_among vs w + 1) vs) i v ≡ v = get_or-take (place_among vs w + 1) vs i v (omega (arith, both.0)) ∙ get_or_from_slice_get vs i v v at_v in
      grind (arith, length-take-le, drop_more)

  -- the back one comes last
  pub back_last : (more : Bool) (v w : List ℕ) → more ≡ true → (IsTrue more → AreEnds vs v w) → IsFinal (from_to_if more vs v w) w
  back_last more v w is ends = rw is (last_of _ _ w (from_before v w (ends is)))

  pub back_among : (more : Bool) (v w : List ℕ) → more ≡ true → (IsTrue more → AreEnds vs v w) → Contains vs w
  back_among more v w is ends =
      let both = ends is in
      (place_among vs w, both.1, get_or_from_slice_get vs (place_among vs w) w w (stands_there w both.1))

  -- one is left
  pub one_left : (more : Bool) (v w a b : List ℕ) → more ≡ true → (IsTrue more → AreEnds vs v w) → a ≡ v → b ≡ w → true ≡ pointwise nat_eq a b → from_to_if more vs v w ≡ v ∷ []
  one_left more v w a b is ends at_v at_w same = rw is (from_itself v w (ends is) (sym at_v ∙ (bytes_decides a b).0 (sym same) ∙ at_w))

  -- two vectors that a test tells apart
  told_apart : (v w a b : List ℕ) → a ≡ v → b ≡ w → false ≡ pointwise nat_eq a b → v ≢ w
  told_apart v w a b at_v at_w other same = let equal : true ≡ false = sym ((bytes_decides a b).1 (at_v ∙ same ∙ sym at_w)) ∙ sym other in absurd cc

  -- more are left: the front one goes on
  pub front_goes : (more found : Bool) (v w next a b : List ℕ) → more ≡ true → (IsTrue more → AreEnds vs v w) → a ≡ v → b ≡ w → false ≡ pointwise nat_eq a b
      → OnTrue found (IsNext vs v next) → OnFalse found (IsLast vs v)
      → (IsTrue more → AreEnds vs next w) × (from_to_if more vs v w ≡ v ∷ from_to_if more vs next w)
  front_goes more found v w next a b is ends at_v at_w other after last =
      let step = front_taken found v w next after last (ends is) (told_apart v w a b at_v at_w other) in
      (λ _. step.0, rw is step.1)

  -- or the back one
  pub back_goes : (more found : Bool) (v w before a b : List ℕ) → more ≡ true → (IsTrue more → AreEnds vs v w) → a ≡ v → b ≡ w → false ≡ pointwise nat_eq a b
      → OnTrue found (IsPrevious vs w before) → OnFalse found (HasNoneBefore vs w)
      → (IsTrue more → AreEnds vs v before) × (from_to_if more vs v w ≡ from_to_if more vs v before ++ w ∷ [])
  back_goes more found v w before a b is ends at_v at_w other previous first =
      let step = back_taken found v w before previous first (ends is) (told_apart v w a b at_v at_w other) in
      (λ _. step.0, rw is step.1)

  -- what comes after a vector, seen as an iterator
  pub after_it : (more some : Bool) (v next last : List ℕ) → Contains vs v → OnTrue more (IsNext vs v next) → OnFalse more (IsLast vs v)
      → OnTrue some (IsFinal vs last) → OnFalse some (vs ≡ []) → (IsTrue more → AreEnds vs next last) × ComeAfter vs v (from_to_if more vs next last)
  after_it true true v next last member after end final none =
      let both = next_ones v next last member after final in (λ _. both.0, both.1)
  after_it more some v next last member after end final none = grind (arith, none_after)

-- a list with a first element is that one and the others
pub first_and_rest : (xs rest : List (List ℕ)) (v copy : List ℕ) → slice_get xs 0 ≡ Some v → copy ≡ v → rest ≡ drop 1 xs → xs ≡ copy ∷ rest
first_and_rest xs rest v copy first same left = grind arith

-- and a list with a last element the others and that one
pub rest_and_last : (xs rest : List (List ℕ)) (v copy : List ℕ) → IsFinal xs v → copy ≡ v → rest ≡ take (length xs - 1) xs → xs ≡ rest ++ copy ∷ []
rest_and_last xs rest v copy final same left =
    let within = slice_get_within xs (length xs - 1) v final in
    let all : length xs - 1 + 1 ≡ length xs = omega arith in
    sym (take_all (length xs) xs (omega arith)) ∙ ap (λ k. take k xs) (sym all)
    ∙ take_more xs (length xs - 1) v within
    ∙ ap (λ ys. ys ++ get_or xs (length xs - 1) v ∷ []) (sym left)
    ∙ ap (λ y. rest ++ y ∷ []) (get_or_from_slice_get xs (length xs - 1) v v final ∙ sym same)

-- without its last one
pub without_last : (xs others : List (List ℕ)) (v : List ℕ) → xs ≡ others ++ v ∷ [] → others ≡ take (length xs - 1) xs
without_last xs others v is =
    let long = length_push others v in
    let at : length (others ++ v ∷ []) - 1 ≡ length others = omega arith in
    rw (is, at) (sym (take-append_seam others (v ∷ [])))
