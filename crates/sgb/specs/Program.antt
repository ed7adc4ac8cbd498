-- What a call of the program does: the request that its words make is answered, or they are refused with a fault.
use Rattle.std.specs.Prelude.{◌≡◌, ◌⊎◌, ℕ, false, List}
use Rattle.std.specs.declared.io.ErrorKind.{ErrorKind}
use Rattle.std.specs.declared.io.ErrorKind.TheVariants.{OutOfMemory}
use Rattle.sgb_vec.specs.declared.panics.Panic.TheVariants.{NoRoom}
use Rattle.sgb.specs.Certain.{IsCertain}
use Rattle.sgb.specs.Outcomes.{reads_input}
use Rattle.sgb_requests.specs.Requests.{IsRefusedCommandLine, IsRequest}
use Rattle.sgb.specs.Runs.{Input, IsReported, IsRunOn, Left}
use Rattle.sgb_requests.specs.declared.faults.Fault.{Fault}
use Rattle.sgb_requests.specs.declared.faults.Fault.TheVariants as fault
use Rattle.sgb_requests.specs.declared.requests.Request.{Request}

-- the fault of words that could not be read: out of memory, else an invalid command line
abbrev pub unread_fault : ErrorKind → Fault
unread_fault OutOfMemory = fault.Panic NoRoom
unread_fault _ = fault.Usage

-- a run of the program with these words leaves this: they make a request, which was answered, in full where that takes no memory
-- and the output is sound; or they are refused with a fault, and it was reported
abbrev pub IsProgramRun : {S : Type 0} → List (List ℕ) → Input → Left S → Type 0
IsProgramRun words source l = ((r : Request) × IsRequest words r × IsRunOn r source l × IsCertain r l)
    ⊎ ((f : Fault) × IsRefusedCommandLine words f × IsReported f l)

-- the words make no request that reads standard input
abbrev pub AskForNoInput : List (List ℕ) → Type 0
AskForNoInput words = (r : Request) → IsRequest words r → reads_input r ≡ false
