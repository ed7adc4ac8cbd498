use Rattle.std.proofs.Common.{sym, rules}
use Rattle.std.proofs.lemmas.Int.{to_z-of_z}
use Rattle.sgb_moves.proofs.OnwardParts.{onward-ahead, onward-behind, onward-none}
use Rattle.sgb_moves.proofs.moves.leads_onward.Goals as goal

pub returns-then-is_empty : goal.returns-then-is_empty
returns-then-is_empty c = sym (onward-none c.args.wrap c.args.t.now c.parts-parts.result.now c.parts-parts.ensures.parts (search rules))

pub returns-then-entry-gt0 : goal.returns-then-entry-gt0
returns-then-entry-gt0 c = search (rules, to_z-of_z, onward-ahead)

pub returns-else-entry-gt0 : goal.returns-else-entry-gt0
returns-else-entry-gt0 c = search (rules, to_z-of_z, onward-behind)
