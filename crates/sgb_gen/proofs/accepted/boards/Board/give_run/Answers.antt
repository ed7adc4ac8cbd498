use Rattle.std.proofs.Common.{rules}
use Rattle.sgb_gen.proofs.StrideTips.{span_back, span_on}
use Rattle.sgb_gen.proofs.accepted.boards.Board.give_run.Goals as goal

pub span_down-onward-requires-clause-stride : goal.span_down-onward-requires-clause-stride
span_down-onward-requires-clause-stride g c = search (rules, span_on)

pub span_from-before-requires-clause-stride : goal.span_from-before-requires-clause-stride
span_from-before-requires-clause-stride g c = search (rules, span_back)
