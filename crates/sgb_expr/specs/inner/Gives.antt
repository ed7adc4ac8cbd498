-- What a reader of the code returns, by what reading gives.
use Rattle.std.specs.Prelude.{◌≡◌, ℕ, Result, Ok, Err}
use Rattle.sgb_expr.specs.declared.wrong.Mismatch.{Mismatch}
use Rattle.sgb_expr.specs.declared.wrong.Wrong.{Wrong}
use Rattle.sgb_expr.specs.declared.wrong.Wrong.TheVariants.{Left, NoRoom}

-- the result, seen by view, is what reading gives
abbrev pub Finds : {X Y : Type 0} → (X → Y) → Result X Mismatch → Result Y ℕ → Type 0
Finds view (Ok x) read = read ≡ Ok (view x)
Finds view (Err e) read = read ≡ Err e.left

-- reading stops here, or the memory ran out, which it does only where this holds
abbrev pub Fails : {Y : Type 0} → (memory : Type 0) → Wrong → Result Y ℕ → Type 0
Fails memory (Left left) read = read ≡ Err left
Fails memory NoRoom read = memory

-- the result, seen by view, is what reading gives, unless the memory ran out, which it does only where this holds
abbrev pub Gives : {X Y : Type 0} → (memory : Type 0) → (X → Y) → Result X Wrong → Result Y ℕ → Type 0
Gives memory view (Ok x) read = read ≡ Ok (view x)
Gives memory view (Err e) read = Fails memory e read
