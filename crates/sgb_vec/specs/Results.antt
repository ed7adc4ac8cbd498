-- Refusals one after another, and results that memory may be wanting for.
use Rattle.std.specs.Prelude.{◌≡◌, ◌⊎◌, Result, Ok, Err}
use Rattle.sgb_vec.specs.declared.panics.Panic.{Panic}
use Rattle.sgb_vec.specs.declared.panics.Panic.TheVariants.{NoRoom}

-- what f gives of an accepted value; a refusal stays as it is
abbrev pub and_then : {T U : Type 0} → Result T Panic → (T → Result U Panic) → Result U Panic
and_then (Ok x) f = f x
and_then (Err e) f = Err e

-- the result is this value, or this refusal; or it is out of memory
abbrev pub IsValue : {T : Type 0} → Result T Panic → Result T Panic → Type 0
IsValue value (Ok x) = value ≡ Ok x
IsValue value (Err p) = (value ≡ Err p) ⊎ (p ≡ NoRoom)
