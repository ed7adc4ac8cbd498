use Rattle.std.proofs.Common.{ap}
use Rattle.sgb_gen.specs.LocalLists.{list_at}
use Rattle.sgb_gen.specs.Subsets.{moves_of_subsets, subsets_vectors}
use Rattle.sgb_gen.proofs.EndedLists.{list_ended_as, list_kept, memory_told}
use Rattle.sgb_gen.proofs.accepted.subsets.Subsets.arcs_at.Goals as goal

pub returns-clause-ok : goal.returns-clause-ok
returns-clause-ok c =
    let s = c.args.self.now in
    list_ended_as c.push_all-put.result _ _ _ _ c.ended.ensures.result c.ended.ensures.ok
    (list_kept c.clear.new.self _ (list_at s.directed (subsets_vectors s) (moves_of_subsets s) c.args.x.now) c.push_all-put.result (ap (λ l. l.arcs) c.clear.ensures) c.push_all-put.ensures.given)

pub returns-clause-memory : goal.returns-clause-memory
returns-clause-memory c =
    let s = c.args.self.now in
    rw c.ended.ensures.result (memory_told c.clear.new.self _ (list_at s.directed (subsets_vectors s) (moves_of_subsets s) c.args.x.now) c.push_all-put.result c.push_all-put.ensures.given)
