use Rattle.std.proofs.Common.{rules, sym, ◌∙◌}
use Rattle.sgb_taken.proofs.Taking.{step_other, step_directed, step_down, step_loop, step_up}
use Rattle.sgb_taken.proofs.taken_arcs.step.Goals as goal

pub returns-then-is_other_record : goal.returns-then-is_other_record
returns-then-is_other_record c = step_other c.args.directed c.args.v c.args.after_loop c.args.link (sym c.is_other_record.ensures ∙ c.if-is_other_record.true)

pub returns-then-directed : goal.returns-then-directed
returns-then-directed c = rw c.if-directed.true (step_directed c.args.v c.args.after_loop c.args.link (sym c.is_other_record.ensures ∙ c.if-is_other_record.false))

pub returns-then-link-v : goal.returns-then-link-v
returns-then-link-v c = search (rules, step_down)

pub returns-then-link-v-2 : goal.returns-then-link-v-2
returns-then-link-v-2 c = search (rules, step_loop)

pub returns : goal.returns
returns c = search (rules, step_up)
