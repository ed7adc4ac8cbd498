use Rattle.std.proofs.Common.{[], ◌∷◌, ◌++◌, length, ap, ◌∙◌, rules, w64}
use Rattle.std.proofs.lemmas.Int.{to_z-of_z}
use Rattle.sgb_graph.specs.Graphs.{arc_record}
use Rattle.sgb_graph.specs.inner.KeptRecords.{KeptRecords, kept_records, plain_records}
use Rattle.sgb_graph.proofs.ColumnValues.{HoldsMany-unused}
use Rattle.sgb_graph.proofs.KeptRecords.{kept_records-push_pair, record_with-is}
use Rattle.sgb_graph.proofs.records.Records.push_pair.Goals as goal

pub returns-clause-ok : goal.returns-clause-ok
returns-clause-ok c =
    let r = c.self.inside in
    let first = arc_record c.args.high c.args.after_lower c.args.len in
    let second = arc_record c.args.low c.args.after_higher c.args.len in
    let fits = to_z-of_z w64 c.args.len (search rules) in
    let one = record_with-is c.new-lower.result first c.new-lower.ensures.tip c.new-lower.ensures.next (c.new-lower.ensures.len ∙ fits) in
    let other = record_with-is c.new-higher.result second c.new-higher.ensures.tip c.new-higher.ensures.next (c.new-higher.ensures.len ∙ fits) in
    let more = kept_records-push_pair (plain_records r.plain) r.a r.b c.new-lower.result c.new-higher.result first second (search rules) (search rules) one other in
    ap (λ ps. kept_records ps r.a r.b) c.in_ok-push_two.ensures.ok
    ∙ (more ∙ ap (λ (d : KeptRecords). record d { items = d.items ++ first ∷ second ∷ [] }) c.self.view_is)

pub invariant_of-self-2 : goal.invariant_of-self-2
invariant_of-self-2 c =
    let many = length (plain_records c.push_two.new.self) in
    (HoldsMany-unused many c.self.inside.a (ap (λ d. d.a) c.self.view_is ∙ c.requires.plain.0), HoldsMany-unused many c.self.inside.b (ap (λ d. d.b) c.self.view_is ∙ c.requires.plain.1))
