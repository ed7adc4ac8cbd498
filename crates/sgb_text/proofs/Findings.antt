-- What is found at the beginning of a text, where something is: a value, and the text after it.
use Rattle.std.proofs.Common.{ap, sym, ◌∙◌, ◌⊎◌, arith, ◌≡◌, ◌==◌, ◌++◌, ℕ, zero, suc, List, [], ◌∷◌, length, take, drop, Bool, true, false, Option, Some, None, option_map, if◌then◌else◌, refl, take-append-drop}
use Rattle.std.specs.List.{starts_with}
use Rattle.std.proofs.Math.Seq.{drop-append_seam}
use Rattle.std.proofs.lemmas.Bool.{and_from}
use Rattle.std.proofs.lemmas.Bool.Decides.{Decides-eqb}
use Rattle.std.proofs.lemmas.Slice.Eq.{bytes_eq-Decides}

-- what is found by `next`, given what was found first
abbrev pub given : {X Y : Type 0} → Option X → (X → Option Y) → Option Y
given None next = None
given (Some x) next = next x

-- a value that a text begins with, and the text after it
pub record Found (X : Type 0) : Type 0 where
  pub value : X
  pub rest : List ℕ

-- what was found, as another value
abbrev pub found_as : {X Y : Type 0} → (X → Y) → Option (Found X) → Option (Found Y)
found_as f found = option_map (λ x. record { value = f x.value; rest = x.rest }) found

-- what follows this prefix of a text
abbrev pub after_prefix : List ℕ → List ℕ → Option (List ℕ)
after_prefix prefix text = if starts_with (λ b c. b == c) text prefix then Some (drop (length prefix) text) else None

-- so many values, one after another
unfoldable pub all_at : {X : Type 0} → (List ℕ → Option (Found X)) → ℕ → List ℕ → Option (Found (List X))
all_at one_at zero text = Some (record { value = []; rest = text })
all_at one_at (suc n) text =
    given (one_at text) (λ first.
    found_as (λ others. first.value ∷ others) (all_at one_at n first.rest))

-- what was given, and what was made of it
pub record WasGiven {X Y : Type 0} (o : Option X) (next : X → Option Y) (y : Y) : Type 0 where
  pub first : X
  pub here : o ≡ Some first
  pub made : next first ≡ Some y

pub was_given : {X Y : Type 0} (o : Option X) {next : X → Option Y} {y : Y} → given o next ≡ Some y → WasGiven o next y
was_given None e = absurd cc
was_given (Some x) e = record { first = x; here = refl; made = e }

-- what was mapped
pub record WasMapped {X Y : Type 0} (f : X → Y) (o : Option X) (y : Y) : Type 0 where
  pub first : X
  pub here : o ≡ Some first
  pub same : f first ≡ y

pub was_mapped : {X Y : Type 0} (o : Option X) {f : X → Y} {y : Y} → option_map f o ≡ Some y → WasMapped f o y
was_mapped None e = absurd cc
was_mapped (Some x) e = record { first = x; here = refl; same = cc }

-- what was let through by a test
pub was_let_through : {X : Type 0} (test : Bool) (x y : X) → (if test then Some x else None) ≡ Some y → (test ≡ true) × (x ≡ y)
was_let_through test x y e = grind (arith)

pub was_chosen : {X : Type 0} (test : Bool) {o : Option X} {y : X} → (if test then o else None) ≡ Some y → (test ≡ true) × (o ≡ Some y)
was_chosen test e = grind (arith)

pub was_either : {X : Type 0} (test : Bool) {o p : Option X} {y : X} → (if test then o else p) ≡ Some y → ((test ≡ true) × (o ≡ Some y)) ⊎ ((test ≡ false) × (p ≡ Some y))
was_either test e = grind (arith)

-- a text with a prefix is the prefix and what follows it
pub prefix_is : (prefix text rest : List ℕ) → after_prefix prefix text ≡ Some rest → text ≡ prefix ++ rest
prefix_is prefix text rest e =
    let t = was_let_through (starts_with (λ b c. b == c) text prefix) (drop (length prefix) text) rest e in
    let front : prefix ≡ take (length prefix) text = (bytes_eq-Decides prefix (take (length prefix) text)).0 t.0 in
    sym (take-append-drop (length prefix) text) ∙ ap (λ x. x ++ drop (length prefix) text) (sym front) ∙ ap (λ x. prefix ++ x) t.1

-- what was taken of a list, and what is left after so many elements
pub taken_and_left : {X : Type 0} (k : ℕ) (xs : List X) → take k xs ++ drop (length (take k xs)) xs ≡ xs
taken_and_left zero xs = refl
taken_and_left (suc k) [] = refl
taken_and_left (suc k) (x ∷ xs) = ap (λ ys. x ∷ ys) (taken_and_left k xs)

-- what follows a prefix
starts_so : (p more : List ℕ) → starts_with (λ b c. b == c) (p ++ more) p ≡ true
starts_so [] more = refl
starts_so (b ∷ p) more = and_from (b == b) (starts_with (λ b c. b == c) (p ++ more) p) ((Decides-eqb b b).1 refl) (starts_so p more)

pub prefix_read : (p more : List ℕ) → after_prefix p (p ++ more) ≡ Some more
prefix_read p more = rw (starts_so p more) (ap Some (drop-append_seam p more))
