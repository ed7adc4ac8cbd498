-- Names in which digits are written over.
use Rattle.std.proofs.Common.{◌≡◌, ◌+◌, ◌-◌, ◌/◌, ◌%◌, ◌<◌, ◌≤◌, ℕ, Bool, true, false, List, [], ◌∷◌, ◌++◌, decimal, nat_lt, length, take, drop, get_or, set, refl, sym, ap, arith, append_assoc, length-append, length-set}
use Rattle.std.proofs.Math.Seq.{set-append_seam}
use Rattle.std.proofs.lemmas.Fmt.{decimal_digit}
use Rattle.std.proofs.lemmas.List.{at_drop_more, drop_at, length-take-le, set-append_right, take_at, take_more}
use Rattle.sgb_vec.specs.Names.{name_of_vector}
use Rattle.sgb.specs.inner.Texts.{entries_text}
use Rattle.sgb_vec.proofs.FewDigits.{two_digits}
use Rattle.sgb.proofs.NameEntries.{name-more, name-parts}

-- what stands before the digit of an entry
abbrev pub dot : Bool → List ℕ
dot true = 46 ∷ []
dot false = []

-- a name up to the digits of an entry
abbrev pub front : List ℕ → List ℕ
front a = name_of_vector a ++ dot (nat_lt 0 (length a))

-- these digits in a name
name-digits : (a rest : List ℕ) (e : ℕ) (digits : List ℕ) → decimal e ≡ digits → name_of_vector (a ++ e ∷ rest) ≡ front a ++ (digits ++ entries_text true rest)
name-digits a rest e digits is =
    let parts = name-parts (a ++ e ∷ rest) (length a) (omega (arith, length-append a (e ∷ rest))) in
    grind (arith, take_at, drop_at, append_assoc)

-- how long it is up to their end
length-digits : (a : List ℕ) (e : ℕ) (digits : List ℕ) → decimal e ≡ digits → length (name_of_vector (a ++ e ∷ [])) ≡ length (front a) + length digits
length-digits a e digits is = grind (arith, name-more, length-append)

-- ---- bytes written over

-- one
over-one : (old a tail : List ℕ) (x y place : ℕ) → place ≡ length old + length a → set (old ++ (a ++ x ∷ tail)) place y ≡ old ++ (a ++ y ∷ tail)
over-one old a tail x y place at =
    let right = set-append_right old (a ++ x ∷ tail) (length old) place y refl (omega (arith, at)) in
    let seam = set-append_seam a x tail y in
    grind (arith)

-- two
over-two : (old a tail : List ℕ) (x z y w place : ℕ) → place ≡ length old + length a → set (set (old ++ (a ++ x ∷ z ∷ tail)) place y) (place + 1) w ≡ old ++ (a ++ y ∷ w ∷ tail)
over-two old a tail x z y w place at =
    let more : (u : ℕ) → old ++ (a ++ y ∷ u ∷ tail) ≡ old ++ ((a ++ y ∷ []) ++ u ∷ tail) = λ u. ap (λ t. old ++ t) (sym (append_assoc a (y ∷ []) (u ∷ tail))) in
    grind (arith, over-one, length-append)

-- two digits
two-digits : (n : ℕ) → 10 ≤ n → n < 100 → decimal n ≡ (48 + n / 10) ∷ (48 + n % 10) ∷ []
two-digits n more few = sym (two_digits [] n more few)

-- the name of this vector, in which the first entries are those of another, stands after what was there
pub record IsTurnedTo (old v other : List ℕ) (k : ℕ) (page : List ℕ) : Type 0 where
  pub text : page ≡ old ++ name_of_vector (take k other ++ drop k v)
  pub fronts : length (name_of_vector (take k other)) ≡ length (name_of_vector (take k v))
  pub size : length page ≡ length old + length (name_of_vector v)

module _ (old v other : List ℕ) (k : ℕ) (page : List ℕ) (width : length other ≡ length v) (within : k < length v) (so : IsTurnedTo old v other k page) where
  abbrev pub entry : ℕ
  entry = get_or other k 0

  abbrev pub before : ℕ
  before = get_or v k 0

  abbrev pub first : List ℕ
  first = take k other

  abbrev pub rest : List ℕ
  rest = drop (k + 1) v

  turned-now : first ++ drop k v ≡ first ++ before ∷ rest
  turned-now = ap (λ l. first ++ l) (at_drop_more (λ l. l) v k 0 within)

  first-more : take (k + 1) other ≡ first ++ entry ∷ []
  first-more = take_more other k 0 (omega (arith, width, within))

  turned-next : take (k + 1) other ++ rest ≡ first ++ entry ∷ rest
  turned-next = grind (arith, first-more, append_assoc)

  long : length first ≡ length (take k v)
  long = grind (arith, length-take-le)

  -- an entry that is the same
  pub turned-same : entry ≡ before → IsTurnedTo old v other (k + 1) page
  turned-same same = grind (arith, turned-now, turned-next, first-more, name-more, length-append, long, take_more v k 0 within)

  -- where the digits of this entry end
  digits-end : (mine : List ℕ) → decimal before ≡ mine → length (name_of_vector (take (k + 1) v)) ≡ length (front first) + length mine
  digits-end mine is = grind (arith, take_more v k 0 within, length-digits, length-append, long)

  digits-before : (mine : List ℕ) → decimal before ≡ mine → page ≡ old ++ (front first ++ (mine ++ entries_text true rest))
  digits-before mine is = grind (arith, turned-now, name-digits)

  -- digits that are written over by as many
  turned-digits : (mine theirs after : List ℕ) → decimal before ≡ mine → decimal entry ≡ theirs → length theirs ≡ length mine
      → length after ≡ length page → after ≡ old ++ (front first ++ (theirs ++ entries_text true rest)) → IsTurnedTo old v other (k + 1) after
  turned-digits mine theirs after is are same size over = grind (arith, turned-next, name-digits, first-more, length-digits, digits-end)

  -- where the digit of this entry ends
  pub digit-end : before < 10 → length (name_of_vector (take (k + 1) v)) ≡ length (front first) + 1
  digit-end few = digits-end ((48 + before) ∷ []) (decimal_digit before few)

  -- a digit that is written over
  pub turned-digit : (start end : ℕ) (after : List ℕ) → before < 10 → entry < 10 → start ≡ length old → end ≡ length (name_of_vector (take (k + 1) v))
      → after ≡ set page (start + end - 1) (48 + entry) → IsTurnedTo old v other (k + 1) after
  turned-digit start end after few less starts ends is =
      let now = digits-before ((48 + before) ∷ []) (decimal_digit before few) in
      turned-digits ((48 + before) ∷ []) ((48 + entry) ∷ []) after (decimal_digit before few) (decimal_digit entry less) refl (grind (arith, length-set)) (grind (arith, over-one, digit-end))

  -- and two digits
  pub two-end : 10 ≤ before → before < 100 → length (name_of_vector (take (k + 1) v)) ≡ length (front first) + 2
  two-end more few = digits-end ((48 + before / 10) ∷ (48 + before % 10) ∷ []) (two-digits before more few)

  pub turned-two : (start end : ℕ) (after : List ℕ) → 10 ≤ before → before < 100 → 10 ≤ entry → entry < 100
      → start ≡ length old → end ≡ length (name_of_vector (take (k + 1) v))
      → after ≡ set (set page (start + end - 2) (48 + entry / 10)) (start + end - 2 + 1) (48 + entry % 10) → IsTurnedTo old v other (k + 1) after
  turned-two start end after more few over less starts ends is =
      let mine = two-digits before more few in
      let now = digits-before ((48 + before / 10) ∷ (48 + before % 10) ∷ []) mine in
      turned-digits _ _ after mine (two-digits entry over less) refl (grind (arith, length-set)) (grind (arith, over-two, two-end))

-- a name with an entry of one digit is not empty
pub name-one : (v : List ℕ) (k : ℕ) → k < length v → get_or v k 0 < 10 → 1 ≤ length (name_of_vector (take (k + 1) v))
name-one v k within few =
    omega (arith, ap (λ w. length (name_of_vector w)) (take_more v k 0 within), length-digits (take k v) (get_or v k 0) _ (decimal_digit (get_or v k 0) few))

-- and that with one of two digits has two bytes
pub name-two : (v : List ℕ) (k : ℕ) → k < length v → 10 ≤ get_or v k 0 → get_or v k 0 < 100 → 2 ≤ length (name_of_vector (take (k + 1) v))
name-two v k within more few =
    omega (arith, ap (λ w. length (name_of_vector w)) (take_more v k 0 within), length-digits (take k v) (get_or v k 0) _ (two-digits (get_or v k 0) more few))
