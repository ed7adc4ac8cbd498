-- What writing a text leaves in a sink, and how the answer to a request ends.
use Rattle.std.specs.Prelude.{◌≡◌, ◌⊎◌, ℕ, Bool, true, false, List, Option, Result, Ok, Err}
use Rattle.std.specs.Bool.{MatchBool}
use Rattle.std.specs.Io.KnownBytes.{Appends}
use Rattle.sgb_vec.specs.declared.panics.Panic.TheVariants.{NoRoom}
use Rattle.sgb_file.specs.Devices.{AppendsPrefix, Change, change}
use Rattle.sgb_requests.specs.declared.faults.Fault.{Fault}
use Rattle.sgb_requests.specs.declared.faults.Fault.TheVariants as fault

-- the text was written whole
pub record IsWhole (text : List ℕ) (out : Change) : Type 0 where
  pub output : Appends out.before out.after text
  pub sound : out.failed ≡ false

-- a device ended what was under way: with its fault where it has failed, else out of memory
abbrev pub IsEndedBy : Fault → Bool → Fault → Type 0
IsEndedBy its failed f = ((failed ≡ true) × (f ≡ its)) ⊎ ((failed ≡ false) × (f ≡ fault.Panic NoRoom))

-- a prefix of the text was written, until this fault
pub record IsCutOff (text : List ℕ) (out : Change) (f : Fault) : Type 0 where
  pub output : AppendsPrefix out.before out.after text
  pub cause : IsEndedBy fault.Write out.failed f

-- the text was written, or a prefix of it until a fault
abbrev pub IsWritten : {T : Type 0} → List ℕ → Change → Result T Fault → Type 0
IsWritten text out (Ok x) = IsWhole text out
IsWritten text out (Err f) = IsCutOff text out f

-- what was done to a sink: the sink before and after, and what it tells of its bytes
pub record Effect (S : Type 0) : Type 0 where
  pub old : S
  pub new : S
  pub told : Change

-- what was done to a sink that was old and is new, by what tells its bytes and whether it has failed
abbrev pub effect : {S : Type 0} → (S → Option (List ℕ)) → (S → Bool) → S → S → Effect S
effect written has_failed old new = record { old = old; new = new; told = change written has_failed old new }

-- the sink is as it was, with neither a put nor a flush, and tells so; it has not failed
pub record IsUntouched {S : Type 0} (out : Effect S) : Type 0 where
  pub same : out.new ≡ out.old
  pub told : out.told.after ≡ out.told.before
  pub sound : out.told.failed ≡ false

-- the request was answered, or cut off, or refused with the sink untouched, by its own fault or out of memory
abbrev pub IsEnded : {T S : Type 0} → Result (List ℕ) Fault → Effect S → Result T Fault → Type 0
IsEnded (Ok text) out r = IsWritten text out.told r
IsEnded (Err g) out (Ok x) = ⊥
IsEnded (Err g) out (Err f) = ((f ≡ g) ⊎ (f ≡ fault.Panic NoRoom)) × IsUntouched out

-- how the answer to a request ended: where reading failed, with a read fault and the sink untouched; else by the answer itself
abbrev pub IsEndedFrom : {T S : Type 0} → Bool → Result (List ℕ) Fault → Effect S → Result T Fault → Type 0
IsEndedFrom failed answer out r = MatchBool failed (IsUntouched out × (r ≡ Err fault.Read)) (IsEnded answer out r)
