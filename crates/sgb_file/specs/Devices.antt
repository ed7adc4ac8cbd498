-- What sources give and sinks take, where they tell their bytes, and when a device has failed.
use Rattle.std.specs.Prelude.{◌≡◌, ℕ, ◌++◌, Bool, true, List, [], Option, Result, Ok, Err}
use Rattle.std.specs.Bool.{MatchBool}
use Rattle.std.specs.Io.KnownBytes.{Appends}

-- known bytes grew by a prefix of bs, of whatever length
abbrev pub AppendsPrefix : Option (List ℕ) → Option (List ℕ) → List ℕ → Type 0
AppendsPrefix old new bs = (done rest : List ℕ) × (bs ≡ done ++ rest) × Appends old new done

-- what was done to a sink: the bytes that it tells, before and after, and whether it has failed afterwards
pub record Change : Type 0 where
  pub before : Option (List ℕ)
  pub after : Option (List ℕ)
  pub failed : Bool

-- how a sink that was old is changed where it is new, by what it tells and whether it has failed
abbrev pub change : {S : Type 0} → (S → Option (List ℕ)) → (S → Bool) → S → S → Change
change written has_failed old new = record { before = written old; after = written new; failed = has_failed new }

-- bs was taken, or a prefix of it where the sink has failed
abbrev pub AppendsUnlessFailed : Change → List ℕ → Type 0
AppendsUnlessFailed sink bs = MatchBool sink.failed (AppendsPrefix sink.before sink.after bs) (Appends sink.before sink.after bs)

-- all of bs was taken, or a prefix of it and the sink has failed
abbrev pub IsPut : {T E : Type 0} → List ℕ → Change → Result T E → Type 0
IsPut bs sink (Ok x) = Appends sink.before sink.after bs
IsPut bs sink (Err e) = AppendsPrefix sink.before sink.after bs × (sink.failed ≡ true)

-- what a sink holds back that passes on all that it takes at once
abbrev pub nothing_held : List ℕ
nothing_held = []

-- a sink in memory: the bytes that it took, how many it has memory for, and whether it has failed
pub record MemSinkState : Type 0 where
  pub bytes : List ℕ
  pub room : ℕ
  pub failed : Bool

-- a source that is cut short: the bytes to come, how many it gives at once and in all from here on, and whether it has failed
pub record CutSourceState : Type 0 where
  pub bytes : List ℕ
  pub each : ℕ
  pub left : ℕ
  pub failed : Bool

-- a sink cut short: the bytes taken, how many it takes at once and in all from here on, whether a flush fails, whether it has failed
pub record CutSinkState : Type 0 where
  pub taken : List ℕ
  pub each : ℕ
  pub left : ℕ
  pub flush_fails : Bool
  pub failed : Bool

-- a reader or writer of std's, and whether it has failed
pub record Adapted (Inner : Type 0) : Type 0 where
  pub inner : Inner
  pub failed : Bool
