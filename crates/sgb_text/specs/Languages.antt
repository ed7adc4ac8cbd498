-- Languages: which texts are words, and of which values; words one after another; where texts go wrong.
use Rattle.std.specs.Prelude.{◌≡◌, ◌≤◌, ◌<◌, ◌⊎◌, ℕ, List, [], ◌∷◌, ◌++◌, length, take}

-- a word of the first language and then one of the second, which may depend on the first's value
abbrev pub Then : {V W : Type 0} → (List ℕ → V → Type 0) → (V → List ℕ → W → Type 0) → List ℕ → W → Type 0
Then {V} First Second word value = (a b : List ℕ) × (v : V) × (word ≡ a ++ b) × First a v × Second v b value

-- these bytes and then a word
abbrev pub After : {V : Type 0} → List ℕ → (List ℕ → V → Type 0) → List ℕ → V → Type 0
After bytes Word word value = (rest : List ℕ) × (word ≡ bytes ++ rest) × Word rest value

-- words of the function's values
abbrev pub As : {V W : Type 0} → (V → W) → (List ℕ → V → Type 0) → List ℕ → W → Type 0
As {V} f Word word value = (v : V) × Word word v × (value ≡ f v)

-- a word of a list's first value, and then one of its others
abbrev pub Cons : {V : Type 0} → (List ℕ → V → Type 0) → (List ℕ → List V → Type 0) → List ℕ → List V → Type 0
Cons First Others = Then First (λ value. As (λ values. value ∷ values) Others)

-- a word of each value of a list, one after another
abbrev pub Each : {V : Type 0} → (List ℕ → V → Type 0) → List ℕ → List V → Type 0
Each Word text [] = text ≡ []
Each Word text (value ∷ values) = (a b : List ℕ) × (text ≡ a ++ b) × Word a value × Each Word b values

-- the one word of this value
abbrev pub Fixed : {V : Type 0} → V → List ℕ → List ℕ → V → Type 0
Fixed value bytes word v = (word ≡ bytes) × (v ≡ value)

-- a word of either language
abbrev pub Or : {V : Type 0} → (List ℕ → V → Type 0) → (List ℕ → V → Type 0) → List ℕ → V → Type 0
Or First Second word value = First word value ⊎ Second word value

-- the text begins a word: something can follow that makes it one
abbrev pub Begins : {V : Type 0} → (List ℕ → V → Type 0) → List ℕ → Type 0
Begins {V} Word text = (more : List ℕ) × (value : V) × Word (text ++ more) value

-- the first k bytes of the text are its longest prefix that begins some word
pub record IsLongestPrefixOf {V : Type 0} (Word : List ℕ → V → Type 0) (text : List ℕ) (k : ℕ) : Type 0 where
  pub within : k ≤ length text
  pub begins : Begins Word (take k text)
  pub longest : (j : ℕ) → k < j → j ≤ length text → Begins Word (take j text) → ⊥

-- the text is no word
abbrev pub IsNoWord : {V : Type 0} → (List ℕ → V → Type 0) → List ℕ → Type 0
IsNoWord {V} Word text = (value : V) → Word text value → ⊥
