-- What a page of output holds, and what of it was put into a sink.
use Rattle.std.specs.Prelude.{◌≡◌, ◌++◌, ℕ, false, List, Result, Ok, Err}
use Rattle.std.specs.Io.KnownBytes.{Appends}
use Rattle.sgb_file.specs.Devices.{Change}
use Rattle.sgb_requests.specs.declared.faults.Fault.{Fault}
use Rattle.sgb.specs.Writing.{IsCutOff}

-- a page of output has this many bytes
abbrev pub page_bytes : ℕ
page_bytes = 32_768

-- of this text a first part was put, and a page holds the others
pub record IsHeld (all holds : List ℕ) (out : Change) : Type 0 where
  pub output : (put : List ℕ) × (put ++ holds ≡ all) × Appends out.before out.after put
  pub sound : out.failed ≡ false

-- a page that held something took a text, and holds what was not put; or a fault cut both off
abbrev pub IsPaged : {T : Type 0} → List ℕ → List ℕ → List ℕ → Change → Result T Fault → Type 0
IsPaged held text holds out (Ok x) = IsHeld (held ++ text) holds out
IsPaged held text holds out (Err f) = IsCutOff (held ++ text) out f
