-- What reading from the beginning of a text returns: a value and the text after it, or how many bytes are left where
-- the text goes wrong.
use Rattle.std.specs.Prelude.{ℕ, ◌==◌, List, [], ◌∷◌, length, min, Result, Ok, Err, if◌then◌else◌}

-- reading goes on with what was read
infixl 10 ◌>>=◌
abbrev pub ◌>>=◌ : {A B : Type 0} → Result A ℕ → (A → Result B ℕ) → Result B ℕ
(Ok x) >>= f = f x
(Err left) >>= f = Err left

-- one reader and then another
abbrev pub then_read : {V W : Type 0} → (List ℕ → Result (V × List ℕ) ℕ) → (V → List ℕ → Result (W × List ℕ) ℕ) → List ℕ → Result (W × List ℕ) ℕ
then_read first second text = first text >>= λ x. second x.0 x.1

-- a reader's value under a function
abbrev pub read_as : {V W : Type 0} → (V → W) → (List ℕ → Result (V × List ℕ) ℕ) → List ℕ → Result (W × List ℕ) ℕ
read_as f read text = read text >>= λ x. Ok (f x.0, x.1)

-- the first of two readings that succeeds, else the place that is further on
abbrev pub either : {A : Type 0} → Result A ℕ → Result A ℕ → Result A ℕ
either (Ok x) r = Ok x
either (Err left) (Ok x) = Ok x
either (Err left) (Err other) = Err (min left other)

-- the first of two readings if it succeeds, else the second
abbrev pub or_else : {A : Type 0} → Result A ℕ → Result A ℕ → Result A ℕ
or_else (Ok x) r = Ok x
or_else (Err left) r = r

-- the text after these bytes, with which the text begins
abbrev pub fixed_at : List ℕ → List ℕ → Result (List ℕ) ℕ
fixed_at [] text = Ok text
fixed_at (byte ∷ bytes) [] = Err 0
fixed_at (byte ∷ bytes) (other ∷ text) = if byte == other then fixed_at bytes text else Err (length (other ∷ text))

-- the same, as the text of a value
abbrev pub fixed_as : {V : Type 0} → V → List ℕ → List ℕ → Result (V × List ℕ) ℕ
fixed_as value bytes text = fixed_at bytes text >>= λ rest. Ok (value, rest)

-- these bytes and then a reader
abbrev pub read_after : {V : Type 0} → List ℕ → (List ℕ → Result (V × List ℕ) ℕ) → List ℕ → Result (V × List ℕ) ℕ
read_after bytes read text = fixed_at bytes text >>= read

-- the value of the word, among these, with which the text begins
abbrev pub word_at : {V : Type 0} → List (List ℕ × V) → List ℕ → Result (V × List ℕ) ℕ
word_at [] text = Err (length text)
word_at (word ∷ words) text = either (fixed_as word.1 word.0 text) (word_at words text)

-- nothing is left
abbrev pub at_end : {V : Type 0} → V → List ℕ → Result V ℕ
at_end value [] = Ok value
at_end value (byte ∷ rest) = Err (length (byte ∷ rest))

-- the value of the word that the whole text is
abbrev pub whole_by : {V : Type 0} → (List ℕ → Result (V × List ℕ) ℕ) → List ℕ → Result V ℕ
whole_by read text = read text >>= λ x. at_end x.0 x.1
