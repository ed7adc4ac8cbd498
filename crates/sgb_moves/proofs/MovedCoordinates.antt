-- A place, by the coordinates that a displacement moves.
use Rattle.std.proofs.Common.{◌≡◌, ℕ, zero, suc, ◌+◌, ◌<◌, ℤ, pos, negsuc, ◌+ℤ◌, ◌*ℤ◌, Bool, cond, List, [], ◌∷◌, ◌++◌, length, map, get_or, drop, set, Option, Some, None, refl, sym, ap, ap₂, ◌∙◌, arith, append_assoc, length-append, length-set, get_or-set_other, ◌≢◌, inl, inr}
use Rattle.std.specs.List.{All, AllByRecursion}
use Rattle.std.specs.Option.{option_map_or, unwrap_or}
use Rattle.std.proofs.Math.Seq.{set-append_seam}
use Rattle.std.proofs.lemmas.Int.{ints}
use Rattle.std.proofs.lemmas.Bool.{cases_eq}
use Rattle.std.proofs.lemmas.Grind.{get_or-set_at, same_number_lists}
use Rattle.std.proofs.lemmas.List.{at_drop_more, drop_all, length-map}
use Rattle.std.proofs.lemmas.List.Elements.{All-cons, All-nil, AllZip-get_or, length_all_zip}
use Rattle.sgb_vec.specs.Lexicographic.{IsBelow}
use Rattle.sgb_moves.specs.Moves.{sides_of, in_front, opposite, place}
use Rattle.sgb_moves.specs.MovedCoordinates.{part_at, parts_from, parts_of, parts_put}
use Rattle.sgb_moves.specs.inner.MovedCoordinates.{AgreeBut, parts_stay}
use Rattle.sgb_moves.proofs.Places.{after_known, after_known-none, after_known-push, coordinates_from, coordinates-step}
use Rattle.sgb_moves.proofs.TurnedMoves.{side_itself}

-- a coordinate that is not moved
unmoved : (x l : ℕ) → pos x +ℤ pos l *ℤ pos 0 ≡ pos x
unmoved x l = omega (arith, ints)

-- ---- the parts, one after another

-- the parts put in their places, where all of them lead somewhere
abbrev moved_by : List ℕ → ℤ → List ℕ → ℕ → List (ℕ × ℤ) → List ℕ → Option (List ℕ)
moved_by sizes wrap x l [] there = Some there
moved_by sizes wrap x l (p ∷ parts) there =
    option_map_or (λ c. moved_by sizes wrap x l parts (set there p.0 c)) (part_at sizes wrap x l p) None

abbrev chosen : Bool → List ℕ → Option (List ℕ)
chosen b v = cond b (Some v) None

module _ (sizes : List ℕ) (wrap : ℤ) (x : List ℕ) (l : ℕ) where
  all_put : (parts : List (ℕ × ℤ)) (there : List ℕ) → moved_by sizes wrap x l parts there ≡ chosen (parts_stay sizes wrap x l parts) (parts_put sizes wrap x l parts there)
  all_put [] there = refl
  all_put (p ∷ parts) there = let rest = all_put parts in grind (arith, rest, set)

  -- ---- a place, coordinate by coordinate

  -- where coordinate number k leads to c, that stands in its place
  part_put : (k : ℕ) (known xs : List ℕ) (parts : List (ℕ × ℤ)) (a : ℕ) (o : Option ℕ) (others : Option (List ℕ)) → length known ≡ k
      → ((c : ℕ) → after_known (known ++ c ∷ []) others ≡ moved_by sizes wrap x l parts ((known ++ c ∷ []) ++ xs))
      → after_known known (in_front o others) ≡ option_map_or (λ c. moved_by sizes wrap x l parts (set (known ++ a ∷ xs) k c)) o None
  part_put k known xs parts a o others e rest = grind (arith, after_known-push, append_assoc, set-append_seam)

  next_there : (u : ℤ) (k : ℕ) (known xs : List ℕ) (t : List ℤ) (others : Option (List ℕ)) → length known ≡ k → get_or x k 0 < get_or sizes k 0
      → ((c : ℕ) → after_known (known ++ c ∷ []) others ≡ moved_by sizes wrap x l (parts_from (k + 1) t) ((known ++ c ∷ []) ++ xs))
      → after_known known (in_front (part_at sizes wrap x l (k, u)) others) ≡ moved_by sizes wrap x l (parts_from k (u ∷ t)) (known ++ get_or x k 0 ∷ xs)
  next_there (pos zero) k known xs t others e below rest = grind (arith, unmoved, side_itself, after_known-push, append_assoc)
  next_there (pos (suc c)) k known xs t others e below rest =
      part_put k known xs (parts_from (k + 1) t) (get_or x k 0) (part_at sizes wrap x l (k, pos (suc c))) others e rest
  next_there (negsuc c) k known xs t others e below rest =
      part_put k known xs (parts_from (k + 1) t) (get_or x k 0) (part_at sizes wrap x l (k, negsuc c)) others e rest

  all_there : (t : List ℤ) (n k : ℕ) (known : List ℕ) → k + n ≡ length sizes → length x ≡ length sizes → length t ≡ length sizes → length known ≡ k
      → ((j : ℕ) → j < length sizes → get_or x j 0 < get_or sizes j 0)
      → after_known known (coordinates_from sizes wrap x t l k) ≡ moved_by sizes wrap x l (parts_from k (drop k t)) (known ++ drop k x)
  all_there t zero k known sum long_x long_t e below = grind (arith, drop_all)
  all_there t (suc n) k known sum long_x long_t e below =
      let u = get_or t k (pos 0) in
      let here : k < length sizes = omega (arith, sum) in
      ap (after_known known) (coordinates-step sizes wrap x t l k here (omega (arith, here, long_x)) (omega (arith, here, long_t)))
      ∙ next_there u k known (drop (k + 1) x) (drop (k + 1) t) (coordinates_from sizes wrap x t l (k + 1)) e (below k here)
      (λ c. all_there t n (k + 1) (known ++ c ∷ []) (omega (arith, sum)) long_x long_t (length-append known (c ∷ []) ∙ omega (arith, e)) below)
      ∙ ap₂ (λ ts xs. moved_by sizes wrap x l (parts_from k ts) (known ++ xs))
      (sym (at_drop_more (λ ts. ts) t k (pos 0) (omega (arith, here, long_t)))) (sym (at_drop_more (λ xs. xs) x k 0 (omega (arith, here, long_x))))

-- a place of the board from x on is x with the moved coordinates put in their places, where all of these exist
pub place_by_parts : (sizes : List ℕ) (wrap : ℤ) (x : List ℕ) (t : List ℤ) (l : ℕ) → IsBelow x sizes → length t ≡ length sizes
    → place (sides_of sizes wrap) x t l ≡ cond (parts_stay sizes wrap x l (parts_of t)) (Some (parts_put sizes wrap x l (parts_of t) x)) None
place_by_parts sizes wrap x t l below long =
    let long_x : length x ≡ length sizes = length_all_zip (λ a s. a < s) x sizes below in
    sym (after_known-none (place (sides_of sizes wrap) x t l))
    ∙ all_there sizes wrap x l t (length sizes) 0 [] (omega arith) long_x long refl (λ j h. AllZip-get_or (λ a s. a < s) x sizes j 0 0 below (omega (arith, h, long_x)))
    ∙ all_put sizes wrap x l (parts_of t) x

-- it has as many entries
pub length-put : (sizes : List ℕ) (wrap : ℤ) (x : List ℕ) (l : ℕ) (parts : List (ℕ × ℤ)) (there : List ℕ) → length (parts_put sizes wrap x l parts there) ≡ length there
length-put sizes wrap x l [] there = refl
length-put sizes wrap x l (p ∷ parts) there = simp (set, length-set, length-put sizes wrap x l parts (set there p.0 (unwrap_or (part_at sizes wrap x l p) 0)))

-- ---- a vector that differs in no others

module _ (sizes : List ℕ) (wrap : ℤ) (x : List ℕ) (l : ℕ) where
  put_elsewhere : (parts : List (ℕ × ℤ)) (v : List ℕ) (k : ℕ) → AllByRecursion (λ j. k ≢ j) (map (λ p. p.0) parts) → get_or (parts_put sizes wrap x l parts v) k 0 ≡ get_or v k 0
  put_elsewhere [] v k other = refl
  put_elsewhere (p ∷ parts) v k other =
      let c = unwrap_or (part_at sizes wrap x l p) 0 in put_elsewhere parts (set v p.0 c) k other.1 ∙ get_or-set_other v p.0 k c 0 other.0

  -- it goes on to do so when they are put
  pub agree_put : (parts : List (ℕ × ℤ)) (v w : List ℕ) → AgreeBut (map (λ p. p.0) parts) v w → AgreeBut (map (λ p. p.0) parts) (parts_put sizes wrap x l parts v) w
  agree_put parts v w same =
      let long = length-put sizes wrap x l parts v in (long ∙ same.0, λ k within other. put_elsewhere parts v k other ∙ same.1 k (omega (arith, within, long)) other)

  -- and is then the same
  pub put_over : (parts : List (ℕ × ℤ)) (v w : List ℕ) → AgreeBut (map (λ p. p.0) parts) v w → parts_put sizes wrap x l parts v ≡ parts_put sizes wrap x l parts w
  put_over [] v w same = same_number_lists v w same.0 (λ k within. same.1 k within tt)
  put_over (p ∷ parts) v w same =
      let c = unwrap_or (part_at sizes wrap x l p) 0 in
      put_over parts (set v p.0 c) (set w p.0 c) (
        length-set v p.0 c ∙ same.0 ∙ sym (length-set w p.0 c),
        λ k within other. elim (cases_eq k p.0) [
          | inl here ↦ grind (arith, same.0, get_or-set_at, length-set)
          | inr away ↦ let h = same.1 k (omega (arith, within, length-set v p.0 c)) (away, other) in grind (arith, h, get_or-set_other)
        ],
      )

-- ---- their numbers

-- the opposite displacement moves the same
pub moved_opposite : (n : ℕ) (t : List ℤ) → map (λ p. p.0) (parts_from n (opposite t)) ≡ map (λ p. p.0) (parts_from n t)
moved_opposite n [] = refl
moved_opposite n (pos zero ∷ t) = moved_opposite (n + 1) t
moved_opposite n (pos (suc c) ∷ t) = ap (λ ks. n ∷ ks) (moved_opposite (n + 1) t)
moved_opposite n (negsuc c ∷ t) = ap (λ ks. n ∷ ks) (moved_opposite (n + 1) t)

-- and as many
pub length_parts_opposite : (t : List ℤ) → length (parts_of (opposite t)) ≡ length (parts_of t)
length_parts_opposite t = grind (arith, ap length (moved_opposite 0 t), length-map)

parts-within : (k n : ℕ) (t : List ℤ) → k + length t ≡ n → All (λ p. p.0 < n) (parts_from k t)
parts-within k n [] e = All-nil (λ (p : ℕ × ℤ). p.0 < n)
parts-within k n (pos zero ∷ t) e = parts-within (k + 1) n t (omega (arith, e))
parts-within k n (pos (suc c) ∷ t) e = All-cons (λ (p : ℕ × ℤ). p.0 < n) (k, pos (suc c)) (parts_from (k + 1) t) (omega (arith, e)) (parts-within (k + 1) n t (omega (arith, e)))
parts-within k n (negsuc c ∷ t) e = All-cons (λ (p : ℕ × ℤ). p.0 < n) (k, negsuc c) (parts_from (k + 1) t) (omega (arith, e)) (parts-within (k + 1) n t (omega (arith, e)))

-- each is that of a coordinate
pub parts_within : (t : List ℤ) → All (λ p. p.0 < length t) (parts_of t)
parts_within t = parts-within 0 (length t) t (omega arith)
