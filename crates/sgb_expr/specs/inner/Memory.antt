-- Where reading may be out of memory.
use Rattle.std.specs.Prelude.{◌≡◌, ◌⊎◌, ℕ, List, Result, Ok}
use Rattle.sgb_expr.specs.Expressions.{TakesMemory}

-- where reading this text so may be out of memory: it is all read, as such a value, or what stands in it takes memory
abbrev pub MayTake : {V : Type 0} → (V → Type 0) → List ℕ → Result (V × List ℕ) ℕ → Type 0
MayTake {V} Is text read = TakesMemory text ⊎ ((value : V) × (rest : List ℕ) × (read ≡ Ok (value, rest)) × Is value)

-- whatever it is
abbrev pub anything : {V : Type 0} → V → Type 0
anything value = Unit {0}
