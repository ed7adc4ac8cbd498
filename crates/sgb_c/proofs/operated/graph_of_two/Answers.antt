use Rattle.std.proofs.Common.{sym}
use Rattle.sgb_vec.specs.declared.panics.Panic.TheVariants.{VeryBad}
use Rattle.sgb_arrays.specs.OpenGraphs.{graph_open}
use Rattle.sgb_c.specs.inner.Operations.{of_graphs}
use Rattle.sgb_c.proofs.MadeGraphs.{accepted_not, refused_answer, refused_same}
use Rattle.sgb_c.proofs.operated.graph_of_two.Goals as goal

pub returns-then-is_refused-clause-answer : goal.returns-then-is_refused-clause-answer
returns-then-is_refused-clause-answer c =
    refused_answer _ VeryBad (c.is_refused.ensures.refused (graph_open c.args.first.now) (graph_open c.args.second.now) (sym c.n.ensures) (sym c.n-2.ensures) c.if-is_refused.true)

pub returns-then-is_refused-clause-refused : goal.returns-then-is_refused-clause-refused
returns-then-is_refused-clause-refused c = λ p is.
    refused_same _ VeryBad p (c.is_refused.ensures.refused (graph_open c.args.first.now) (graph_open c.args.second.now) (sym c.n.ensures) (sym c.n-2.ensures) c.if-is_refused.true) is

pub returns-clause-refused : goal.returns-clause-refused
returns-clause-refused c = λ p is.
    absurd (accepted_not _ p (c.is_refused.ensures.accepted (graph_open c.args.first.now) (graph_open c.args.second.now) (sym c.n.ensures) (sym c.n-2.ensures) c.if-is_refused.false) is)
