use Rattle.std.proofs.lemmas.Grind.{common_steps}
use Rattle.std.proofs.Common.{arith, rules, take_all, length-drop}
use Rattle.sgb_graph.specs.IdTexts.{is_id_text}
use Rattle.sgb_graph.proofs.HexadecimalDigits.{id_text-digits}
use Rattle.sgb_graph.proofs.ids.IdWriter.push_hexadecimal.Goals as goal

pub push_text-requires-2-clause-text : goal.push_text-requires-2-clause-text
push_text-requires-2-clause-text c = search (rules, take_all, length-drop, is_id_text, id_text-digits)

pub push_text-requires-2-clause-room : goal.push_text-requires-2-clause-room
push_text-requires-2-clause-room c = grind (arith, common_steps)

pub returns-clause-bytes : goal.returns-clause-bytes
returns-clause-bytes c = grind (arith, common_steps)

pub returns-clause-short : goal.returns-clause-short
returns-clause-short c = grind (arith, common_steps)
