use Rattle.sgb.proofs.WrittenDigits.{IsTurnedTo}
use Rattle.sgb.proofs.writing.kept_names.KeptName.push_with_digits.Given as goal

-- the entries before this one are turned
abbrev pub invariant-loop-k : goal.invariant-loop-k
invariant-loop-k l = IsTurnedTo l.fn.page l.self l.other l.k l.page
