use Rattle.sgb.specs.inner.Numerals.{AreNumerals}
use Rattle.sgb.proofs.writing.numerals.Numerals.new.Given as goal

abbrev pub invariant-loop-number : goal.invariant-loop-number
invariant-loop-number l = AreNumerals l.number l.kept
