-- The faults of a request: what each comes from, the line that it prints on standard error, and its exit status.
use Rattle.std.specs.Prelude.{ℕ, List, ◌++◌, codes, decimal}
use Rattle.clap.specs.declared.error.kind.ErrorKind.{ErrorKind}
use Rattle.clap.specs.declared.error.kind.ErrorKind.TheVariants.{OutOfMemory}
use Rattle.sgb_vec.specs.Codes.{code_of}
use Rattle.sgb_vec.specs.declared.panics.Panic.TheVariants.{NoRoom}
use Rattle.sgb_expr.specs.declared.expressions.Unread.{Unread}
use Rattle.sgb_expr.specs.declared.expressions.Unread.TheVariants as unread
use Rattle.sgb_requests.specs.declared.faults.Fault.{Fault}
use Rattle.sgb_requests.specs.declared.faults.Fault.TheVariants.{Usage, TooLarge, Expr, Panic, NoVertex, Read, Write}

-- the exit status: 2 for an invalid command line, 1 for a refused graph or vertex, 3 for a device
abbrev pub status_of : Fault → ℕ
status_of Usage = 2
status_of TooLarge = 2
status_of (Expr k) = 2
status_of (Panic p) = 1
status_of NoVertex = 1
status_of Read = 3
status_of Write = 3

-- the line on standard error, with its newline
unfoldable pub fault_line : Fault → List ℕ
fault_line Usage = codes "usage: sgb (names|list) EXPR [--after NAME|--skip K], sgb save EXPR, sgb queen, sgb flip EXPR\n"
fault_line TooLarge = codes "sgb: expression too large\n"
fault_line (Expr k) = codes "sgb: bad expression at byte " ++ decimal k ++ codes "\n"
fault_line (Panic p) = codes "Something went wrong (panic code " ++ decimal (code_of p) ++ codes ")!\n"
fault_line NoVertex = codes "sgb: no such vertex\n"
fault_line Read = codes "sgb: read fault\n"
fault_line Write = codes "sgb: write fault\n"

-- the fault for an error of clap's of this kind: out of memory, else an invalid command line
abbrev pub fault_of_kind : ErrorKind → Fault
fault_of_kind OutOfMemory = Panic NoRoom
fault_of_kind _ = Usage

-- the fault of a text that is not read
abbrev pub fault_of_unread : Unread → Fault
fault_of_unread unread.TooLarge = TooLarge
fault_of_unread (unread.At k) = Expr k
fault_of_unread unread.NoRoom = Panic NoRoom
