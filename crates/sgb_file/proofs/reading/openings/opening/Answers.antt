use Rattle.std.proofs.Common.{rules, sym, ap, ◌∙◌, Some}
use Rattle.sgb_file.proofs.LineLemmas.{no_bytes}
use Rattle.sgb_file.proofs.Endings.{opens_here, opens_later, opens_not, opens_nothing}
use Rattle.sgb_file.proofs.reading.openings.opening.Goals as goal

pub returns-in-Some-clause-head : goal.returns-in-Some-clause-head
returns-in-Some-clause-head c =
    ap (λ lines. Some (record { head = c.in-Some.head; lines = lines })) (ap (λ s. s.all) c.new.ensures)
    ∙ sym (opens_here c.loop-rest.rest.now _ _ _ c.first_line.ensures (sym c.head_of_line.ensures.head ∙ c.in-Some.is)) ∙ c.loop-rest.invariant

pub returns-then-not-has_star-clause-head : goal.returns-then-not-has_star-clause-head
returns-then-not-has_star-clause-head c = search (rules, opens_not)

pub loop-rest-preserved : goal.loop-rest-preserved
loop-rest-preserved c = search (rules, opens_later)

pub returns-clause-head : goal.returns-clause-head
returns-clause-head c = search (rules, no_bytes, opens_nothing)
