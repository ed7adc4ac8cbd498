-- The faults of texts that are not read.
use Rattle.std.proofs.Common.{◌≡◌, ◌⊎◌, Bool, true, false, List, Result, Err, codes, refl, rules, arith}
use Rattle.clap.specs.Words.{Row, Text}
use Rattle.sgb_vec.specs.declared.panics.Panic.{Panic}
use Rattle.sgb_vec.specs.declared.panics.Panic.TheVariants.{NoRoom}
use Rattle.sgb_expr.specs.declared.expressions.Unread.{Unread}
use Rattle.sgb_requests.specs.CommandLine.{Asks}
use Rattle.sgb_requests.specs.Reading.{IsFlipReadAs, IsReadAs, IsReadOrRefused}
use Rattle.sgb_requests.specs.Requests.{IsAskedOf, IsRefusedCommandLine}
use Rattle.sgb_requests.specs.declared.faults.Fault.{Fault}
use Rattle.sgb_requests.specs.declared.faults.Fault.TheVariants as fault
use Rattle.sgb_requests.specs.declared.requests.Resume.{Resume}

-- the faults that a text may be refused with
abbrev is_of_text : Fault → Bool
is_of_text fault.TooLarge = true
is_of_text (fault.Expr k) = true
is_of_text (fault.Panic p) = true
is_of_text _ = false

-- it is refused with no other
pub no_refusal : {T : Type 0} (IsRead : Result T Unread → Type 0) (f : Fault) → is_of_text f ≡ false → IsReadOrRefused IsRead (Err f) → ⊥
no_refusal IsRead f none (cause, is, e) = grind arith

pub panic_is_no_room : {T : Type 0} (IsRead : Result T Unread → Type 0) (p : Panic) → IsReadOrRefused IsRead (Err (fault.Panic p)) → p ≡ NoRoom
panic_is_no_room IsRead p (cause, is, e) = grind (arith)

-- words that are refused with a fault that is neither `Usage` nor want of memory
abbrev pub IsRefusedWithText : List Text → Fault → Type 0
IsRefusedWithText words f =
    ((resume : Resume) × (IsAskedOf words (codes "names") resume (Err f) ⊎ IsAskedOf words (codes "list") resume (Err f)))
    ⊎ (((rows : List Row) × (text : Text) × Asks words (codes "save") rows text × IsReadAs text (Err f))
    ⊎ ((rows : List Row) × (text : Text) × Asks words (codes "flip") rows text × IsFlipReadAs text (Err f)))

-- a text that is refused refuses the words that gave it
pub faults_here : {T : Type 0} (words : List Text) (IsRead : Result T Unread → Type 0) → ((f : Fault) → IsReadOrRefused IsRead (Err f) → IsRefusedWithText words f)
    → (f : Fault) → IsReadOrRefused IsRead (Err f) → IsRefusedCommandLine words f
faults_here words IsRead given fault.Usage h = absurd (no_refusal IsRead fault.Usage refl h)
faults_here words IsRead given f h = search rules
