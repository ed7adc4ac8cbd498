-- What reading standard input whole takes from it, and how it ends.
use Rattle.std.specs.Prelude.{◌≡◌, ℕ, ◌+◌, ◌≤◌, Bool, false, List, length, take, Option, IfSome, Result, Ok, Err}
use Rattle.std.specs.Io.KnownBytes.{Consumes}
use Rattle.sgb_values.specs.Values.{most_input}
use Rattle.sgb_requests.specs.declared.faults.Fault.{Fault}
use Rattle.sgb_requests.specs.declared.faults.Fault.TheVariants as fault
use Rattle.sgb.specs.Writing.{IsEndedBy}

-- the bytes that a source tells lose at most so many, from the front
abbrev pub LosesAtMost : ℕ → Option (List ℕ) → Option (List ℕ) → Type 0
LosesAtMost most old new = (bs : List ℕ) × (length bs ≤ most) × Consumes old new bs

-- reading a source, which then has failed or not, ended: well where it is sound, else with a read fault, or out of memory
abbrev pub IsReadFrom : {T : Type 0} → Bool → Result T Fault → Type 0
IsReadFrom failed (Ok x) = failed ≡ false
IsReadFrom failed (Err f) = IsEndedBy fault.Read failed f

-- what is kept of standard input: the bytes that it tells, up to the first that is too many; any bytes where it tells none
abbrev pub IsKeptOfInput : Option (List ℕ) → List ℕ → Type 0
IsKeptOfInput told kept = IfSome told (λ input. kept ≡ take (most_input + 1) input)
