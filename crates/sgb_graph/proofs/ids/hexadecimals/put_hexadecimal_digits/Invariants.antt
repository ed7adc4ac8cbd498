use Rattle.sgb_graph.proofs.HexadecimalDigits.{HasDigitsFrom}
use Rattle.sgb_graph.proofs.ids.hexadecimals.put_hexadecimal_digits.Given as goal

-- the digits from this place on are put
abbrev pub invariant-loop-start : goal.invariant-loop-start
invariant-loop-start l = HasDigitsFrom l.fn.number l.rest l.start l.text
