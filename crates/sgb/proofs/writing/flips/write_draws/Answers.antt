use Rattle.std.proofs.Common.{◌≡◌, ◌-◌, ◌+◌, ℕ, [], w64, ap, suc, arith, rules}
use Rattle.std.proofs.lemmas.Int.{to_z-of_z}
use Rattle.sgb_graph.specs.Draws.{seed_of}
use Rattle.sgb.specs.FlipAnswers.{drawn_from, number_lines}
use Rattle.sgb.proofs.CutOff.{exit_write}
use Rattle.sgb.proofs.DrawnNumbers.{lines_first, lines_none}
use Rattle.sgb.proofs.Pages.{paged_all, paged_begun, paged_more, written_held, exit_begun}
use Rattle.sgb.proofs.writing.flips.write_draws.Goals as goal

pub loop-number-init : goal.loop-number-init
loop-number-init g c =
    let draws = c.args.draws in
    let begun = rw (to_z-of_z w64 draws.start (search rules)) at c.new-flip.ensures in
    let skipped : 0 + c.from.result ≡ draws.skip = omega (arith, c.from.ensures) in
    let all : draws.count ≡ draws.count - 0 = omega arith in
    let same = ap (λ (n : ℕ). number_lines (drawn_from (seed_of draws.start) draws.m draws.skip n)) all in
    ((draws.skip, rw skipped at (c.skip.ensures draws.start 0 begun), paged_begun _ _ _ _ same c.new-page.ensures), c.requires.sound)

pub returns-in_err-push_number_line-clause-written : goal.returns-in_err-push_number_line-clause-written
returns-in_err-push_number_line-clause-written g c =
    let stands = c.loop-number.invariant.0 in
    let next = c.next_number.ensures c.args.draws.start stands.0 stands.1 in
    let left : c.args.draws.count - c.loop-number._number ≡ suc (c.args.draws.count - (c.loop-number._number + 1)) = omega (arith, c.loop-number-test.true) in
    exit_begun _ _ _ _ _ _ _ _ _ _ _ c.from_residual.ensures.1 stands.2 c.in_err-push_number_line.ensures.paged (lines_first _ _ stands.0 next.0 c.next_number.result _ _ left next.2)

pub returns-in_err-push_number_line-clause-fault : goal.returns-in_err-push_number_line-clause-fault
returns-in_err-push_number_line-clause-fault g c = exit_write _ _ c.from_residual.ensures.1 c.in_err-push_number_line.ensures.fault

pub loop-number-preserved : goal.loop-number-preserved
loop-number-preserved g c =
    let draws = c.args.draws in
    let stands = c.loop-number.invariant.0 in
    let next = c.next_number.ensures draws.start stands.0 stands.1 in
    let left : draws.count - c.loop-number._number ≡ suc (draws.count - (c.loop-number._number + 1)) = omega (arith, c.loop-number-test.true) in
    let first = lines_first (seed_of draws.start) draws.m stands.0 next.0 c.next_number.result _ _ left next.2 in
    ((next.0, next.1, paged_more _ _ _ _ [] _ _ _ _ _ first stands.2 c.in_ok-push_number_line.ensures.paged.output), c.in_ok-push_number_line.ensures.paged.sound)

pub returns-clause-written : goal.returns-clause-written
returns-clause-written g c = search (rules, written_held, paged_all, lines_none, seed_of)
