use Rattle.std.proofs.Common.{[], ◌∷◌, ◌++◌, ap, ◌∙◌, rules, w64}
use Rattle.std.proofs.lemmas.Int.{to_z-of_z}
use Rattle.sgb_graph.specs.inner.KeptRecords.{KeptRecords, plain_records}
use Rattle.sgb_graph.proofs.KeptRecords.{IsMore, record_pushed, record_with-is}
use Rattle.sgb_graph.proofs.records.Records.push.Goals as goal

pushed : (c : goal.After-push-3) → IsMore (plain_records c.self.inside.plain) c.self.inside.a c.self.inside.b (plain_records c.push.new.self) c.push-2.new.self c.push-3.new.self c.args.arc
pushed c =
    let r = c.self.inside in
    let arc = c.args.arc in
    let far = c.new.ensures.len ∙ to_z-of_z w64 arc.len (search rules) in
    let is = record_with-is c.new.result arc c.new.ensures.tip c.new.ensures.next far in
    record_pushed (plain_records r.plain) (plain_records c.push.new.self) c.new.result r.a r.b c.reserve.new.self c.reserve-2.new.self c.push-2.new.self c.push-3.new.self arc
    c.self.invariant.0 c.self.invariant.1 c.in_ok-push.ensures.ok (c.push-2.ensures.kind ∙ c.reserve.ensures.kind) (c.push-3.ensures.kind ∙ c.reserve-2.ensures.kind)
    c.reserve.ensures.values c.reserve-2.ensures.values c.push-2.ensures.values c.push-3.ensures.values is

pub invariant_of-self-2 : goal.invariant_of-self-2
invariant_of-self-2 c = ((pushed c).first, (pushed c).second)

pub returns-clause-ok : goal.returns-clause-ok
returns-clause-ok c = (pushed c).same ∙ ap (λ (d : KeptRecords). record d { items = d.items ++ c.args.arc ∷ [] }) c.self.view_is
