use Rattle.std.proofs.Common.{◌≡◌, Ok, Err, subst}
use Rattle.sgb_ops.specs.Entries.{accepted_entries}
use Rattle.sgb_arrays.specs.OpenGraphs.{graph_open}
use Rattle.sgb_c.proofs.MadeGraphs.{induced_refused, ok_refused, refused_same}
use Rattle.sgb_c.proofs.operated.graph_induced.Goals as goal

pub returns-in-Ok-clause-refused : goal.returns-in-Ok-clause-refused
returns-in-Ok-clause-refused c = λ p is.
    absurd (ok_refused _ _ p (subst (λ n. accepted_entries n c.args.entries.now ≡ Ok c.args.entries.now) c.n.ensures c.in-Ok.ensures.ok) is)

pub returns-in-Err-clause-answer : goal.returns-in-Err-clause-answer
returns-in-Err-clause-answer c =
    induced_refused (graph_open c.args.graph.now) c.args.entries.now c.args.self_loops c.args.multi c.args.directed c.in-Err.refusal
    (subst (λ n. accepted_entries n c.args.entries.now ≡ Err c.in-Err.refusal) c.n.ensures c.in-Err.ensures.refused)

pub returns-in-Err-clause-refused : goal.returns-in-Err-clause-refused
returns-in-Err-clause-refused c = λ p is.
    refused_same _ c.in-Err.refusal p (subst (λ n. accepted_entries n c.args.entries.now ≡ Err c.in-Err.refusal) c.n.ensures c.in-Err.ensures.refused) is
