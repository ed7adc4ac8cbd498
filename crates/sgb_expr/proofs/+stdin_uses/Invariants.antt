use Rattle.std.proofs.Common.{◌≡◌, drop}
use Rattle.sgb_expr.proofs.StdinUses.{some_has_stdin}
use Rattle.sgb_expr.proofs.+stdin_uses.Given as goal

-- the entries that are left have it where all of them do
abbrev pub invariant-stdin_uses::have_stdin-loop-entry : goal.invariant-stdin_uses::have_stdin-loop-entry
invariant-stdin_uses::have_stdin-loop-entry l = some_has_stdin (drop l.entry-index l.entries) ≡ some_has_stdin l.entries
