use Rattle.std.proofs.Common.{rules, slice_set, arith}
use Rattle.sgb_graph.proofs.HexadecimalDigits.{HasDigitsFrom, digits-none, digits-more, digits-first}
use Rattle.sgb_graph.proofs.ids.hexadecimals.put_hexadecimal_digits.Goals as goal

pub loop-start-init : goal.loop-start-init
loop-start-init c = digits-none c.args.number c.args.text.now (omega arith) c.told-text

pub returns-then-rest-eq0-clause-digits : goal.returns-then-rest-eq0-clause-digits
returns-then-rest-eq0-clause-digits c = search (rules, slice_set, digits-first)

pub loop-start-preserved : goal.loop-start-preserved
loop-start-preserved c = search (rules, HasDigitsFrom, slice_set, digits-more)
