-- Readers that find the words of a language or nothing: what each finds is said by the text before what it leaves, and each
-- such text is found again; they leave values of any kind, as a text alone.
use Rattle.std.proofs.Common.{ap, sym, subst, ◌∙◌, append_assoc, arith, ◌≡◌, ℕ, zero, suc, Bool, List, [], ◌∷◌, ◌++◌, length, Option, Some, None, option_map, if◌then◌else◌, refl}
use Rattle.sgb_text.proofs.Findings.{given, Found, found_as, after_prefix, all_at, was_given, was_mapped, prefix_is, prefix_read}
use Rattle.sgb_text.specs.Languages.{As, Cons, Each, Fixed, Then}
use Rattle.sgb_text.proofs.Readers.{Anything}

-- a result of a value and of the text that is left
abbrev pub found_with : {X : Type 0} → X → List ℕ → Found X
found_with x rest = record { value = x; rest = rest }

-- the text that is left alone
abbrev pub rest_alone : Unit {0} → List ℕ → List ℕ
rest_alone none rest = rest

-- a text that stands at the front for what was found
pub record StandsIn {X R : Type 0} (make : X → List ℕ → R) (Word : List ℕ → X → Type 0) (text : List ℕ) (result : R) : Type 0 where
  pub value : X
  pub word : List ℕ
  pub rest : List ℕ
  pub says : Word word value
  pub parts : text ≡ word ++ rest
  pub made : make value rest ≡ result

-- a reader of the words of a language: what it finds is said by a word at the front, and it finds each word again where what
-- follows is a tail; a word and a tail are a text that may come next
pub record Finds {X R : Type 0} (make : X → List ℕ → R) (Front Tail : List ℕ → Type 0) (Word : List ℕ → X → Type 0) (read : List ℕ → Option R) : Type 0 where
  pub found : (text : List ℕ) (result : R) → read text ≡ Some result → StandsIn make Word text result
  pub again : (word tail : List ℕ) (value : X) → Word word value → Tail tail → read (word ++ tail) ≡ Some (make value tail)
  pub front : (word tail : List ℕ) (value : X) → Word word value → Tail tail → Front (word ++ tail)

-- a text in three parts, joined from the other end
regrouped : (word a b tail : List ℕ) → word ≡ a ++ b → word ++ tail ≡ a ++ (b ++ tail)
regrouped word a b tail e = ap (λ u. u ++ tail) e ∙ append_assoc a b tail

-- what stands for a first value, and then for a second
then_stands : {X Y R S : Type 0} {make : X → List ℕ → R} {made : Y → List ℕ → S} {First : List ℕ → X → Type 0} {Second : X → List ℕ → Y → Type 0} {text : List ℕ} {r : R} {s : S}
    → (a : StandsIn make First text r) → StandsIn made (Second a.value) a.rest s → StandsIn made (Then First Second) text s
then_stands a b = record {
  value = b.value;
  word = a.word ++ b.word;
  rest = b.rest;
  says = (a.word, b.word, a.value, refl, a.says, b.says);
  parts = a.parts ∙ ap (λ t. a.word ++ t) b.parts ∙ sym (append_assoc a.word b.word b.rest);
  made = b.made;
}

-- one reader and then another
pub finds_then : {X Y R S : Type 0} {make : X → List ℕ → R} {made : Y → List ℕ → S} {Front Middle Tail : List ℕ → Type 0} {First : List ℕ → X → Type 0} {Second : X → List ℕ → Y → Type 0}
    {read : List ℕ → Option R} (next : R → Option S)
    → Finds make Front Middle First read → ((x : X) → Finds made Middle Tail (Second x) (λ text. next (make x text)))
    → Finds made Front Tail (Then First Second) (λ text. given (read text) next)
finds_then {Front = Front} {read = read} next f g = record {
  found = λ text result e.
      let w = was_given (read text) e in
      let a = f.found text w.first w.here in
      then_stands a ((g a.value).found a.rest result (ap next a.made ∙ w.made));
  again = λ word tail value h t.
      let second = g h.2 in
      ap (λ u. given (read u) next) (regrouped word h.0 h.1 tail h.3)
      ∙ ap (λ o. given o next) (f.again h.0 (h.1 ++ tail) h.2 h.4 (second.front h.1 tail value h.5 t))
      ∙ second.again h.1 tail value h.5 t;
  front = λ word tail value h t. subst Front (sym (regrouped word h.0 h.1 tail h.3)) (f.front h.0 (h.1 ++ tail) h.2 h.4 ((g h.2).front h.1 tail value h.5 t));
}

-- a word of a value that this one is made of, if one is
abbrev pub From : {X Y : Type 0} → (X → Option Y) → (List ℕ → X → Type 0) → List ℕ → Y → Type 0
From {X} pick Word word value = (x : X) × Word word x × (pick x ≡ Some value)

-- a reader of other values, where there is one
pub finds_from : {X Y R S : Type 0} {make : X → List ℕ → R} {Front Tail : List ℕ → Type 0} {Word : List ℕ → X → Type 0} {read : List ℕ → Option R}
    (pick : X → Option Y) (made : Y → List ℕ → S) (turn : R → Option S) → ((x : X) (rest : List ℕ) → turn (make x rest) ≡ option_map (λ y. made y rest) (pick x))
    → Finds make Front Tail Word read → Finds made Front Tail (From pick Word) (λ text. given (read text) turn)
finds_from {read = read} pick made turn same r = record {
  found = λ text result e.
      let w = was_given (read text) e in
      let a = r.found text w.first w.here in
      let p = was_mapped (pick a.value) (sym (same a.value a.rest) ∙ ap turn a.made ∙ w.made) in
      record { value = p.first; word = a.word; rest = a.rest; says = (a.value, a.says, p.here); parts = a.parts; made = p.same };
  again = λ word tail value h t. ap (λ o. given o turn) (r.again word tail h.0 h.1 t) ∙ same h.0 tail ∙ ap (option_map (λ y. made y tail)) h.2;
  front = λ word tail value h t. r.front word tail h.0 h.1 t;
}

-- what is there where a test passes
pub tested : {X R : Type 0} (make : X → List ℕ → R) (test : Bool) (x : X) (rest : List ℕ) → (if test then Some (make x rest) else None) ≡ option_map (λ y. make y rest) (if test then Some x else None)
tested make test x rest = grind (arith)

-- a reader of a function's values
finds_map : {X Y R S : Type 0} {make : X → List ℕ → R} {Front Tail : List ℕ → Type 0} {Word : List ℕ → X → Type 0} {read : List ℕ → Option R}
    (f : X → Y) (made : Y → List ℕ → S) (turn : R → S) → ((x : X) (rest : List ℕ) → turn (make x rest) ≡ made (f x) rest)
    → Finds make Front Tail Word read → Finds made Front Tail (As f Word) (λ text. option_map turn (read text))
finds_map {read = read} f made turn same r = record {
  found = λ text result e.
      let w = was_mapped (read text) e in
      let a = r.found text w.first w.here in
      record { value = f a.value; word = a.word; rest = a.rest; says = (a.value, a.says, refl); parts = a.parts; made = sym (same a.value a.rest) ∙ ap turn a.made ∙ w.same };
  again = λ word tail value h t. ap (option_map turn) (r.again word tail h.0 h.1 t) ∙ ap Some (same h.0 tail ∙ ap (λ y. made y tail) (sym h.2));
  front = λ word tail value h t. r.front word tail h.0 h.1 t;
}

pub finds_as : {X Y : Type 0} {Front Tail : List ℕ → Type 0} {Word : List ℕ → X → Type 0} {read : List ℕ → Option (Found X)}
    (f : X → Y) → Finds found_with Front Tail Word read → Finds found_with Front Tail (As f Word) (λ text. found_as f (read text))
finds_as f r = finds_map f found_with (λ x. record { value = f x.value; rest = x.rest }) (λ x rest. refl) r

-- a value and others after it
pub finds_cons : {X : Type 0} {Front Middle Tail : List ℕ → Type 0} {First : List ℕ → X → Type 0} {Others : List ℕ → List X → Type 0} {one : List ℕ → Option (Found X)} {others : List ℕ → Option (Found (List X))}
    → Finds found_with Front Middle First one → Finds found_with Middle Tail Others others
    → Finds found_with Front Tail (Cons First Others) (λ text. given (one text) (λ x. found_as (λ xs. x.value ∷ xs) (others x.rest)))
finds_cons {X} f g = finds_then _ f (λ x. finds_as (λ (xs : List X). x ∷ xs) g)

-- a reader of the same language in other words, after which more may stand
pub finds_is : {X R : Type 0} {make : X → List ℕ → R} {Front More Tail : List ℕ → Type 0} {First Second : List ℕ → X → Type 0} {read : List ℕ → Option R}
    → ((text : List ℕ) → Front text → More text) → ((word : List ℕ) (x : X) → First word x → Second word x) → ((word : List ℕ) (x : X) → Second word x → First word x)
    → Finds make Front Tail First read → Finds make More Tail Second read
finds_is more to from r = record {
  found = λ text result e.
      let a = r.found text result e in
      record { value = a.value; word = a.word; rest = a.rest; says = to a.word a.value a.says; parts = a.parts; made = a.made };
  again = λ word tail value h t. r.again word tail value (from word value h) t;
  front = λ word tail value h t. more (word ++ tail) (r.front word tail value (from word value h) t);
}

-- a fixed text is passed over
pub finds_prefix : {Front : List ℕ → Type 0} (prefix : List ℕ) → ((more : List ℕ) → Front (prefix ++ more)) → Finds rest_alone Front Anything (Fixed tt prefix) (after_prefix prefix)
finds_prefix {Front = Front} prefix begins = record {
  found = λ text rest e. record { value = tt; word = prefix; rest = rest; says = (refl, refl); parts = prefix_is prefix text rest e; made = refl };
  again = λ word tail none h t. ap (λ x. after_prefix prefix (x ++ tail)) h.0 ∙ prefix_read prefix tail;
  front = λ word tail none h t. subst (λ x. Front (x ++ tail)) (sym h.0) (begins tail);
}

-- or stands for a value
pub finds_fixed : {V : Type 0} {Front : List ℕ → Type 0} (value : V) (bytes : List ℕ) → ((more : List ℕ) → Front (bytes ++ more))
    → Finds found_with Front Anything (Fixed value bytes) (λ text. option_map (λ rest. record { value = value; rest = rest }) (after_prefix bytes text))
finds_fixed value bytes begins =
    finds_is (λ text h. h) (λ word v h. (h.1.0, h.2)) (λ word v h. (tt, (h.0, refl), h.1))
    (finds_map (λ none. value) found_with (λ rest. record { value = value; rest = rest }) (λ none rest. refl) (finds_prefix bytes begins))

-- the words of so many values, one after another
abbrev pub AreSoMany : {X : Type 0} → (List ℕ → X → Type 0) → ℕ → List ℕ → List X → Type 0
AreSoMany IsOne n whole xs = (length xs ≡ n) × Each IsOne whole xs

none_left : {X : Type 0} (IsOne : List ℕ → X → Type 0) (xs : List X) (word rest : List ℕ) → AreSoMany IsOne 0 word xs → Some (found_with {X = List X} [] (word ++ rest)) ≡ Some (found_with xs rest)
none_left IsOne [] word rest h = rw h.1 refl
none_left IsOne (x ∷ xs) word rest h = absurd (omega (arith, h.0))

one_more : {X : Type 0} (IsOne : List ℕ → X → Type 0) (n : ℕ) (xs : List X) (word : List ℕ) → AreSoMany IsOne (suc n) word xs → Cons IsOne (AreSoMany IsOne n) word xs
one_more IsOne n [] word h = absurd (omega (arith, h.0))
one_more IsOne n (x ∷ xs) word h = let a = h.1 in (a.0, a.1, x, a.2, a.3, (xs, (omega (arith, h.0), a.4), refl))

pub finds_all : {X : Type 0} (one_at : List ℕ → Option (Found X)) (IsOne : List ℕ → X → Type 0) → Finds found_with Anything Anything IsOne one_at → (n : ℕ) → Finds found_with Anything Anything (AreSoMany IsOne n) (all_at one_at n)
unfolding all_at
finds_all one_at IsOne r zero = grind (arith, none_left)
finds_all {X = X} one_at IsOne r (suc n) =
    finds_is (λ text t. tt) (λ word xs h. let o = h.5 in subst (λ ys. AreSoMany IsOne (suc n) word ys) (sym o.2) (ap suc o.1.0, (h.0, h.1, h.3, h.4, o.1.1))) (λ word xs h. one_more IsOne n xs word h)
    (finds_cons r (finds_all one_at IsOne r n))
