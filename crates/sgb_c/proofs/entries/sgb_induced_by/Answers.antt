use Rattle.std.proofs.Common.{◌≡◌, ◌∙◌, [], Some, Err, sym, ap, subst}
use Rattle.std.specs.Option.{option_map, option_map_or}
use Rattle.sgb_graph.specs.Descriptions.{IsAnswerOf}
use Rattle.sgb_graph.specs.Vertices.{order_of}
use Rattle.sgb_ops.specs.Entries.{accepted_entries}
use Rattle.sgb_ops.specs.Induced.{induced_of}
use Rattle.sgb_c.specs.Made.{entries_in}
use Rattle.sgb_c.proofs.MadeGraphs.{entries_taken, graph_of, one_made, put_refused, some_same}
use Rattle.sgb_c.proofs.entries.sgb_induced_by.Goals as goal

pub returns-in-Some-clause-made : goal.returns-in-Some-clause-made
returns-in-Some-clause-made c =
    let a = c.args in
    let held = sym (rw c.in-Some.is at c.lend.ensures.value) in
    let h = c.in-Some.held.now in
    let same = c.entries_of-list.ensures ∙ (entries_taken (λ b. b.value) c.take-taken.result ∙ ap (λ v. option_map_or (λ l. l.entries.items) v []) c.take-taken.ensures.taken) in
    let answered = subst (λ es. IsAnswerOf (induced_of (graph_of h) es a.self_loops a.multi a.directed) c.graph_induced-answer.result) same c.graph_induced-answer.ensures.answer in
    one_made (λ g. induced_of g (entries_in a.entries.now) a.self_loops a.multi a.directed) a.graph.now.held.value a.made.now.held.value c.put_made.result (sym c.is_open.ensures ∙ c.if-is_open.false) h held c.graph_induced-answer.result c.put_made.new.self.held.value answered c.put_made.ensures

pub returns-in-Some-clause-refused : goal.returns-in-Some-clause-refused
returns-in-Some-clause-refused c = λ p empty value.
    let a = c.args in
    let held = sym (rw c.in-Some.is at c.lend.ensures.value) in
    let h = c.in-Some.held.now in
    let same = c.entries_of-list.ensures ∙ (entries_taken (λ b. b.value) c.take-taken.result ∙ ap (λ v. option_map_or (λ l. l.entries.items) v []) c.take-taken.ensures.taken) in
    let said = subst (λ x. option_map (λ g. accepted_entries (order_of g) (entries_in a.entries.now)) (option_map graph_of x) ≡ Some (Err p)) held value in
    let refused = ap (λ es. accepted_entries (order_of (graph_of h)) es) same ∙ some_same _ _ said in
    put_refused c.graph_induced-answer.result a.made.now.held.value c.put_made.new.self.held.value c.put_made.result p (c.graph_induced-answer.ensures.refused p refused) c.put_made.ensures
