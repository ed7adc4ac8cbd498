use Rattle.std.proofs.Common.{ap}
use Rattle.sgb_gen.proofs.EndedLists.{list_kept, memory_told}
use Rattle.sgb_gen.proofs.accepted.subsets.Subsets.put_earlier.Goals as goal

pub returns-clause-ok : goal.returns-clause-ok
returns-clause-ok c = list_kept c.clear.new.self _ _ c.push_earlier.result (ap (λ l. l.arcs) c.clear.ensures) c.push_earlier.ensures.given

pub returns-clause-memory : goal.returns-clause-memory
returns-clause-memory c = memory_told c.clear.new.self _ _ c.push_earlier.result c.push_earlier.ensures.given
