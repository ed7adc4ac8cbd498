-- Readers of languages: what they find, where they stop, and that they find each word again; readers one after
-- another, and one or the other.
use Rattle.std.proofs.Common.{◌≡◌, ℕ, ◌≤◌, ◌⊎◌, List, [], ◌∷◌, ◌++◌, length, min, Option, Some, None, Result, Ok, Err, refl, sym, ◌∙◌, ap, subst, inl, inr, append_assoc, append-nil, arith, length-append}
use Rattle.std.proofs.lemmas.Bool.{cases_lt}
use Rattle.sgb_text.specs.Languages.{Begins, Cons, Then, As, Or}
use Rattle.sgb_text.proofs.Readings.{◌>>=◌, then_read, read_as, either}

-- anything
abbrev pub Anything : List ℕ → Type 0
Anything text = Unit {0}

-- the first byte of a text
abbrev pub next : List ℕ → Option ℕ
next [] = None
next (byte ∷ text) = Some byte

-- a value was found: the text begins with a word of it, and what comes after the word counts by its first byte alone
pub record IsFound {V : Type 0} (Word : List ℕ → V → Type 0) (read : List ℕ → Result (V × List ℕ) ℕ) (text : List ℕ) (value : V) (rest : List ℕ) : Type 0 where
  pub word : List ℕ
  pub whole : text ≡ word ++ rest
  pub is : Word word value
  pub same : (other : List ℕ) → next other ≡ next rest → read (word ++ other) ≡ Ok (value, other)

-- a text cut where so many bytes are left
pub record Cut (text : List ℕ) (left : ℕ) : Type 0 where
  pub good : List ℕ
  pub bad : List ℕ
  pub whole : text ≡ good ++ bad
  pub count : left ≡ length bad

-- the text goes wrong there: what stands before begins a word, and what comes next counts by its first byte alone
pub record Wrong {V : Type 0} (Word : List ℕ → V → Type 0) (read : List ℕ → Result (V × List ℕ) ℕ) (text : List ℕ) (left : ℕ) : Type 0 where
  pub cut : Cut text left
  pub begins : Begins Word cut.good
  pub same : (other : List ℕ) → next other ≡ next cut.bad → read (cut.good ++ other) ≡ Err (length other)

-- a reader of the words, which finds each again before what may follow
pub record Reads {V : Type 0} (Word : List ℕ → V → Type 0) (Tail : List ℕ → Type 0) (read : List ℕ → Result (V × List ℕ) ℕ) : Type 0 where
  pub found : (text : List ℕ) (value : V) (rest : List ℕ) → read text ≡ Ok (value, rest) → IsFound Word read text value rest
  pub wrong : (text : List ℕ) (left : ℕ) → read text ≡ Err left → Wrong Word read text left
  pub again : (word tail : List ℕ) (value : V) → Word word value → Tail tail → read (word ++ tail) ≡ Ok (value, tail)
  pub some : (word : List ℕ) × (value : V) × Word word value

-- a reading that goes on to a value
pub bind_ok : {A B : Type 0} (r : Result A ℕ) (f : A → Result B ℕ) (y : B) → (r >>= f) ≡ Ok y → (x : A) × (r ≡ Ok x) × (f x ≡ Ok y)
bind_ok r f y e = grind (arith)

-- a reading that stops, at once or further on
pub bind_err : {A B : Type 0} (r : Result A ℕ) (f : A → Result B ℕ) (left : ℕ) → (r >>= f) ≡ Err left → (r ≡ Err left) ⊎ ((x : A) × (r ≡ Ok x) × (f x ≡ Err left))
bind_err r f left e = grind (arith)

-- what a reading goes on to
pub bind_of : {A B : Type 0} (r : Result A ℕ) (f : A → Result B ℕ) (x : A) → r ≡ Ok x → (r >>= f) ≡ f x
bind_of {A} {B} r f x e = ap (λ (s : Result A ℕ). s >>= f) e

-- where a reading stops
pub bind_stops : {A B : Type 0} (r : Result A ℕ) (f : A → Result B ℕ) (left : ℕ) → r ≡ Err left → (r >>= f) ≡ Err left
bind_stops {A} {B} r f left e = ap (λ (s : Result A ℕ). s >>= f) e

-- where a reading stops, at once or further on, it stops with more to be read
pub then_stops : {A B C : Type 0} (r : Result A ℕ) (f : A → Result B ℕ) (g : B → Result C ℕ) (left : ℕ) → (r >>= f) ≡ Err left → (r >>= λ x. f x >>= g) ≡ Err left
then_stops r f g left e = grind (arith, bind_stops)

-- a reading does not both stop and succeed
pub no_ok : {A : Type 0} {x : A} {n : ℕ} → ◌≡◌ {A = Result A ℕ} (Err n) (Ok x) → ⊥
no_ok e = cc

-- what is read of a list after these
abbrev pub with_first : {X : Type 0} → List X → Result (List X × List ℕ) ℕ → Result (List X × List ℕ) ℕ
with_first first read = read >>= λ x. Ok (first ++ x.0, x.1)

-- one and others
pub one_more : {X : Type 0} (first : List X) (one : X) (read : Result (List X × List ℕ) ℕ) → with_first first (read >>= λ others. Ok (one ∷ others.0, others.1)) ≡ with_first (first ++ one ∷ []) read
one_more {X} first one (Ok others) = ap (λ (xs : List X). Ok (xs, others.1)) (sym (append_assoc first (one ∷ []) others.0))
one_more first one (Err left) = refl

-- two readings of one value
pub ok_same : {A : Type 0} (x y : A) → ◌≡◌ {A = Result A ℕ} (Ok x) (Ok y) → x ≡ y
ok_same x y e = cc

-- the same byte comes next after the same text
pub next_after : (text a b : List ℕ) → next a ≡ next b → next (text ++ a) ≡ next (text ++ b)
next_after [] a b e = e
next_after (byte ∷ text) a b e = refl

-- a text cut within what stands after a word
abbrev pub cut_after : (word text rest : List ℕ) (left : ℕ) → text ≡ word ++ rest → Cut rest left → Cut text left
cut_after word text rest left whole c = record {
  good = word ++ c.good;
  bad = c.bad;
  whole = whole ∙ ap (λ u. word ++ u) c.whole ∙ sym (append_assoc word c.good c.bad);
  count = c.count;
}

-- what the second finds after the first
then_found : {V W : Type 0} (First : List ℕ → V → Type 0) (Second : V → List ℕ → W → Type 0) (first : List ℕ → Result (V × List ℕ) ℕ) (second : V → List ℕ → Result (W × List ℕ) ℕ)
    (text rest remaining : List ℕ) (v : V) (w : W) → IsFound First first text v rest → IsFound (Second v) (second v) rest w remaining
    → IsFound (Then First Second) (then_read first second) text w remaining
then_found First Second first second text rest remaining v w f g = record {
  word = f.word ++ g.word;
  whole = f.whole ∙ ap (λ u. f.word ++ u) g.whole ∙ sym (append_assoc f.word g.word remaining);
  is = (f.word, g.word, v, refl, f.is, g.is);
  same = grind (arith, next, next_after, then_read, append_assoc, bind_of);
}

-- where the second stops after the first
then_wrong : {V W : Type 0} (First : List ℕ → V → Type 0) (Second : V → List ℕ → W → Type 0) (first : List ℕ → Result (V × List ℕ) ℕ) (second : V → List ℕ → Result (W × List ℕ) ℕ)
    (text rest : List ℕ) (left : ℕ) (v : V) → IsFound First first text v rest → Wrong (Second v) (second v) rest left
    → Wrong (Then First Second) (then_read first second) text left
then_wrong First Second first second text rest left v f g = record {
  cut = cut_after f.word text rest left f.whole g.cut;
  begins = (g.begins.0, g.begins.1, (f.word, g.cut.good ++ g.begins.0, v, append_assoc f.word g.cut.good g.begins.0, f.is, g.begins.2));
  same = grind (arith, next, next_after, then_read, append_assoc, bind_of);
}

-- where the first stops
first_wrong : {V W : Type 0} (First : List ℕ → V → Type 0) (Second : V → List ℕ → W → Type 0) (first : List ℕ → Result (V × List ℕ) ℕ) (second : V → List ℕ → Result (W × List ℕ) ℕ)
    (text : List ℕ) (left : ℕ) → ((v : V) → (word : List ℕ) × (value : W) × Second v word value) → Wrong First first text left
    → Wrong (Then First Second) (then_read first second) text left
first_wrong First Second first second text left some f =
    let b = f.begins in
    let end = some b.1 in record {
      cut = f.cut;
      begins = (b.0 ++ end.0, end.1, (f.cut.good ++ b.0, end.0, b.1, sym (append_assoc f.cut.good b.0 end.0), b.2, end.2));
      same = λ other e. bind_stops (first (f.cut.good ++ other)) (λ x. second x.0 x.1) (length other) (f.same other e);
    }

-- one reader and then another, where each word of the second, and what may follow it, may follow the first
pub reads_then : {V W : Type 0} {First : List ℕ → V → Type 0} {Second : V → List ℕ → W → Type 0} {Tail After : List ℕ → Type 0} {first : List ℕ → Result (V × List ℕ) ℕ} {second : V → List ℕ → Result (W × List ℕ) ℕ}
    → Reads First Tail first → ((v : V) → Reads (Second v) After (second v))
    → ((v : V) (word tail : List ℕ) (value : W) → Second v word value → After tail → Tail (word ++ tail))
    → Reads (Then First Second) After (then_read first second)
reads_then {V} {W} {First} {Second} {Tail} {After} {first} {second} f g follows = record {
  found = λ text w remaining e.
      let x = bind_ok (first text) (λ x. second x.0 x.1) (w, remaining) e in
      then_found First Second first second text x.0.1 remaining x.0.0 w (f.found text x.0.0 x.0.1 x.1) ((g x.0.0).found x.0.1 w remaining x.2);
  wrong = λ text left e. elim (bind_err (first text) (λ x. second x.0 x.1) left e) [
    | inl h ↦ first_wrong First Second first second text left (λ v. (g v).some) (f.wrong text left h)
    | inr x ↦ then_wrong First Second first second text x.0.1 left x.0.0 (f.found text x.0.0 x.0.1 x.1) ((g x.0.0).wrong x.0.1 left x.2)
  ];
  again = λ word tail w is t.
      let here : first (is.0 ++ (is.1 ++ tail)) ≡ Ok (is.2, is.1 ++ tail) = f.again is.0 (is.1 ++ tail) is.2 is.4 (follows is.2 is.1 tail w is.5 t) in
      ap (λ (u : List ℕ). then_read first second (u ++ tail)) is.3 ∙ ap (then_read first second) (append_assoc is.0 is.1 tail)
      ∙ bind_of (first (is.0 ++ (is.1 ++ tail))) (λ x. second x.0 x.1) (is.2, is.1 ++ tail) here
      ∙ (g is.2).again is.1 tail w is.5 t;
  some = let a = f.some in let b = (g a.1).some in (a.0 ++ b.0, b.1, (a.0, b.0, a.1, refl, a.2, b.2));
}

-- a reader of the function's values
pub reads_as : {V W : Type 0} (f : V → W) {Word : List ℕ → V → Type 0} {Tail : List ℕ → Type 0} {read : List ℕ → Result (V × List ℕ) ℕ} → Reads Word Tail read → Reads (As f Word) Tail (read_as f read)
reads_as {V} {W} f {Word} {Tail} {read} r = record {
  found = λ text w rest e.
      let x = bind_ok (read text) (λ x. Ok (f x.0, x.1)) (w, rest) e in
      let h = r.found text x.0.0 x.0.1 x.1 in
      let both : (f x.0.0, x.0.1) ≡ (w, rest) = ok_same (f x.0.0, x.0.1) (w, rest) x.2 in
      let value : f x.0.0 ≡ w = ap (λ (p : W × List ℕ). p.0) both in
      let after : x.0.1 ≡ rest = ap (λ (p : W × List ℕ). p.1) both in record {
        word = h.word;
        whole = h.whole ∙ ap (λ u. h.word ++ u) after;
        is = (x.0.0, h.is, sym value);
        same = λ other e2.
            bind_of (read (h.word ++ other)) (λ x. Ok (f x.0, x.1)) (x.0.0, other) (h.same other (e2 ∙ sym (ap next after)))
            ∙ ap (λ (u : W). Ok (u, other)) value;
      };
  wrong = λ text left e. elim (bind_err (read text) (λ x. Ok (f x.0, x.1)) left e) [
    | inl h ↦ let b = r.wrong text left h in record {
      cut = b.cut;
      begins = (b.begins.0, f b.begins.1, (b.begins.1, b.begins.2, refl));
      same = λ other e2. bind_stops (read (b.cut.good ++ other)) (λ x. Ok (f x.0, x.1)) (length other) (b.same other e2);
    }
    | inr x ↦ absurd (cc (x.2))
  ];
  again = λ word tail w is t.
      bind_of (read (word ++ tail)) (λ x. Ok (f x.0, x.1)) (is.0, tail) (r.again word tail is.0 is.1 t)
      ∙ ap (λ (u : W). Ok (u, tail)) (sym is.2);
  some = let a = r.some in (a.0, f a.1, (a.1, a.2, refl));
}

-- a value and others after it
pub reads_cons : {V : Type 0} {First : List ℕ → V → Type 0} {Others : List ℕ → List V → Type 0} {Tail After : List ℕ → Type 0} {first : List ℕ → Result (V × List ℕ) ℕ} {others : List ℕ → Result (List V × List ℕ) ℕ}
    → Reads First Tail first → Reads Others After others → ((word tail : List ℕ) (values : List V) → Others word values → After tail → Tail (word ++ tail))
    → Reads (Cons First Others) After (then_read first (λ value. read_as (λ values. value ∷ values) others))
reads_cons {V} f g follows = reads_then f (λ value. reads_as (λ (values : List V). value ∷ values) g) (λ value word tail values w t. follows word tail w.0 w.1 t)

-- two cuts of one text, the first no longer than the second
pub cut_in : (a u b v : List ℕ) → a ++ u ≡ b ++ v → length v ≤ length u → (x : List ℕ) × (b ≡ a ++ x) × (u ≡ x ++ v)
cut_in [] u b v e h = (b, refl, e)
cut_in (c ∷ a) u [] v e h = absurd (omega (arith, h, ap length e, length-append (c ∷ a) u))
cut_in (c ∷ a) u (d ∷ b) v e h = grind (arith, cut_in a u b v (cc) h)

-- one reader, and where it stops the other
abbrev pub or_read : {V : Type 0} → (List ℕ → Result (V × List ℕ) ℕ) → (List ℕ → Result (V × List ℕ) ℕ) → List ℕ → Result (V × List ℕ) ℕ
or_read first second text = either (first text) (second text)

-- the first reads
pub either_first : {A : Type 0} (r s : Result A ℕ) (x : A) → r ≡ Ok x → either r s ≡ Ok x
either_first {A} r s x e = ap (λ (t : Result A ℕ). either t s) e

-- the first stops, and the second reads
either_second : {A : Type 0} (r s : Result A ℕ) (left : ℕ) (x : A) → r ≡ Err left → s ≡ Ok x → either r s ≡ Ok x
either_second {A} r s left x e f = ap (λ (t : Result A ℕ). either t s) e ∙ ap (λ (t : Result A ℕ). either (Err left) t) f

-- both stop
pub either_stops : {A : Type 0} (r s : Result A ℕ) (left other : ℕ) → r ≡ Err left → s ≡ Err other → either r s ≡ Err (min left other)
either_stops {A} r s left other e f = ap (λ (t : Result A ℕ). either t s) e ∙ ap (λ (t : Result A ℕ). either (Err left) t) f

-- what one of two readers found
pub data EitherFound {A : Type 0} (r s : Result A ℕ) (x : A) : Type 0 where
  by_first : r ≡ Ok x → EitherFound r s x
  by_second : (left : ℕ) → r ≡ Err left → s ≡ Ok x → EitherFound r s x

pub either_found : {A : Type 0} (r s : Result A ℕ) (x : A) → either r s ≡ Ok x → EitherFound r s x
either_found (Ok y) s x e = by_first e
either_found (Err left) (Ok y) x e = by_second left refl e
either_found (Err left) (Err other) x e = absurd (cc)

-- where both readers stopped
pub either_wrong : {A : Type 0} (r s : Result A ℕ) (left : ℕ) → either r s ≡ Err left → (a b : ℕ) × (r ≡ Err a) × (s ≡ Err b) × (left ≡ min a b)
either_wrong r s left e = grind (arith)

-- both stop, the first no further from the end
wrong_by : {V : Type 0} (Word First Second : List ℕ → V → Type 0) (first second : List ℕ → Result (V × List ℕ) ℕ) (read : List ℕ → Result (V × List ℕ) ℕ) (text : List ℕ) (a b : ℕ)
    → Wrong First first text a → Wrong Second second text b → a ≤ b
    → ((word : List ℕ) (value : V) → First word value → Word word value)
    → ((u : List ℕ) (i j : ℕ) → i ≤ j → first u ≡ Err i → second u ≡ Err j → read u ≡ Err i)
    → Wrong Word read text a
wrong_by {V} Word First Second first second read text a b f g le into both =
    let x = f.cut in
    let y = g.cut in
    let cut = cut_in y.good y.bad x.good x.bad (sym y.whole ∙ x.whole) (omega (arith, le, x.count, y.count)) in record {
      cut = x;
      begins = (f.begins.0, f.begins.1, into (x.good ++ f.begins.0) f.begins.1 f.begins.2);
      same = λ other e.
          let comes : next (cut.0 ++ other) ≡ next y.bad = next_after cut.0 other x.bad e ∙ sym (ap next cut.2) in
          let apart : x.good ++ other ≡ y.good ++ (cut.0 ++ other) = ap (λ u. u ++ other) cut.1 ∙ append_assoc y.good cut.0 other in
          both (x.good ++ other) (length other) (length (cut.0 ++ other)) (omega (arith, length-append cut.0 other))
          (f.same other e) (ap second apart ∙ g.same (cut.0 ++ other) comes);
    }

-- one reader or the other, where the first stops at each word of the second
pub reads_or : {V : Type 0} {First Second : List ℕ → V → Type 0} {Tail After : List ℕ → Type 0} {first second : List ℕ → Result (V × List ℕ) ℕ}
    → Reads First Tail first → Reads Second After second
    → ((word tail : List ℕ) (value : V) → Second word value → (left : ℕ) × (first (word ++ tail) ≡ Err left))
    → ((tail : List ℕ) → After tail → Tail tail)
    → Reads (Or First Second) After (or_read first second)
reads_or {V} {First} {Second} {Tail} {After} {first} {second} f g apart follows = record {
  found = λ text value rest e. elim (either_found (first text) (second text) (value, rest) e) [
    | by_first h ↦ let x = f.found text value rest h in record {
      word = x.word;
      whole = x.whole;
      is = inl x.is;
      same = λ other e2. either_first (first (x.word ++ other)) (second (x.word ++ other)) (value, other) (x.same other e2);
    }
    | by_second left h k ↦ let x = g.found text value rest k in record {
      word = x.word;
      whole = x.whole;
      is = inr x.is;
      same = λ other e2.
          let stops = apart x.word other value x.is in
          either_second (first (x.word ++ other)) (second (x.word ++ other)) stops.0 (value, other) stops.1 (x.same other e2);
    }
  ];
  wrong = λ text left e.
      let h = either_wrong (first text) (second text) left e in
      let a = f.wrong text h.0 h.2 in
      let b = g.wrong text h.1 h.3 in
      elim (cases_lt h.0 h.1) [
        | inl lt ↦
            let same : h.0 ≡ left = omega (arith, h.4, lt) in
            subst (λ (n : ℕ). Wrong (Or First Second) (or_read first second) text n) same
            (wrong_by (Or First Second) First Second first second (or_read first second) text h.0 h.1 a b (omega (arith, lt))
            (λ word value w. inl w)
            (λ u i j le p q. either_stops (first u) (second u) i j p q ∙ ap Err (omega (arith, le))))
        | inr ge ↦
            let same : h.1 ≡ left = omega (arith, h.4, ge) in
            subst (λ (n : ℕ). Wrong (Or First Second) (or_read first second) text n) same
            (wrong_by (Or First Second) Second First second first (or_read first second) text h.1 h.0 b a ge
            (λ word value w. inr w)
            (λ u i j le p q. either_stops (first u) (second u) j i q p ∙ ap Err (omega (arith, le))))
      ];
  again = λ word tail value is t. elim is [
    | inl w ↦ either_first (first (word ++ tail)) (second (word ++ tail)) (value, tail) (f.again word tail value w (follows tail t))
    | inr w ↦
        let stops = apart word tail value w in
        either_second (first (word ++ tail)) (second (word ++ tail)) stops.0 (value, tail) stops.1 (g.again word tail value w t)
  ];
  some = let a = f.some in (a.0, a.1, inl a.2);
}

-- a reader of the same language, in other words
pub reads_is : {V : Type 0} {First Second : List ℕ → V → Type 0} {Tail : List ℕ → Type 0} {read : List ℕ → Result (V × List ℕ) ℕ}
    → ((word : List ℕ) (value : V) → First word value → Second word value) → ((word : List ℕ) (value : V) → Second word value → First word value)
    → Reads First Tail read → Reads Second Tail read
reads_is to from r = record {
  found = λ text value rest e. let f = r.found text value rest e in record { word = f.word; whole = f.whole; is = to f.word value f.is; same = f.same };
  wrong = λ text left e.
      let f = r.wrong text left e in
      let b = f.begins in record { cut = f.cut; begins = (b.0, b.1, to (f.cut.good ++ b.0) b.1 b.2); same = f.same };
  again = λ word tail value is t. r.again word tail value (from word value is) t;
  some = let a = r.some in (a.0, a.1, to a.0 a.1 a.2);
}

-- a reader, where less may follow
pub reads_before : {V : Type 0} {Word : List ℕ → V → Type 0} {Tail Less : List ℕ → Type 0} {read : List ℕ → Result (V × List ℕ) ℕ}
    → ((tail : List ℕ) → Less tail → Tail tail) → Reads Word Tail read → Reads Word Less read
reads_before less r = record { found = r.found; wrong = r.wrong; again = λ word tail value is t. r.again word tail value is (less tail t); some = r.some }

-- where a text goes wrong for whole words: what stands before begins a word, and no word goes on there as the text does
pub record Stops {V : Type 0} (Word : List ℕ → V → Type 0) (text : List ℕ) (left : ℕ) : Type 0 where
  pub cut : Cut text left
  pub begins : Begins Word cut.good
  pub refused : (other : List ℕ) (v : V) → next other ≡ next cut.bad → Word (cut.good ++ other) v → ⊥

-- two rests of one reading
one_rest : {V : Type 0} (r : Result (V × List ℕ) ℕ) (v w : V) (a b : List ℕ) → r ≡ Ok (v, a) → r ≡ Ok (w, b) → a ≡ b
one_rest {V} r v w a b e f = ap (λ (p : V × List ℕ). p.1) (ok_same (v, a) (w, b) (sym e ∙ f))

-- a word is read again as a whole
pub word_again : {V : Type 0} {Word : List ℕ → V → Type 0} {Tail : List ℕ → Type 0} {read : List ℕ → Result (V × List ℕ) ℕ} → Reads Word Tail read → Tail [] → (word : List ℕ) (value : V) → Word word value → read word ≡ Ok (value, [])
word_again {V} {Word} {Tail} {read} r end word value is = ap read (sym (append-nil word)) ∙ r.again word [] value is end

-- a reader that stops
pub stops_within : {V : Type 0} {Word : List ℕ → V → Type 0} {Tail : List ℕ → Type 0} {read : List ℕ → Result (V × List ℕ) ℕ} → Reads Word Tail read → Tail [] → (text : List ℕ) (left : ℕ) → read text ≡ Err left → Stops Word text left
stops_within {V} {Word} {Tail} {read} r end text left e =
    let w = r.wrong text left e in
    record { cut = w.cut; begins = w.begins; refused = λ other v e2 is. no_ok (sym (w.same other e2) ∙ word_again r end (w.cut.good ++ other) v is) }

-- a reader that leaves something
pub stops_after : {V : Type 0} {Word : List ℕ → V → Type 0} {Tail : List ℕ → Type 0} {read : List ℕ → Result (V × List ℕ) ℕ} → Reads Word Tail read → Tail [] → (text : List ℕ) (value : V) (byte : ℕ) (rest : List ℕ) → read text ≡ Ok (value, byte ∷ rest) → Stops Word text (length (byte ∷ rest))
stops_after {V} {Word} {Tail} {read} r end text value byte rest e =
    let f = r.found text value (byte ∷ rest) e in record {
      cut = record { good = f.word; bad = byte ∷ rest; whole = f.whole; count = refl };
      begins = ([], value, subst (λ (u : List ℕ). Word u value) (sym (append-nil f.word)) f.is);
      refused = λ other v e2 is.
          let none = one_rest (read (f.word ++ other)) value v other [] (f.same other e2) (word_again r end (f.word ++ other) v is) in
          nothing_is_next byte (sym (ap next none) ∙ e2);
    }
  where
    nothing_is_next : (byte : ℕ) → ◌≡◌ {A = Option ℕ} None (Some byte) → ⊥
    nothing_is_next byte e = cc
