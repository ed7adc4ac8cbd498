use Rattle.std.proofs.Common.{[], map, refl, ap, rules}
use Rattle.std.specs.List.{flat_map}
use Rattle.sgb_vec.specs.Names.{name_of_vector}
use Rattle.sgb_vec.proofs.RangeSteps.{first_and_rest}
use Rattle.sgb.specs.Texts.{name_line}
use Rattle.sgb.proofs.CutOff.{exit_write}
use Rattle.sgb.proofs.Pages.{paged_all, paged_begun, paged_more, written_held, exit_begun}
use Rattle.sgb.proofs.writing.names.write_all.Goals as goal

pub loop-vector-init : goal.loop-vector-init
loop-vector-init g c = (paged_begun _ _ _ _ refl c.new-page.ensures, c.requires)

pub loop-vector-preserved : goal.loop-vector-preserved
loop-vector-preserved g c =
    let first = first_and_rest c.loop-vector.left _ _ _ c.in-Some.ensures.first c.turn_to.ensures c.advance-some.ensures.rest in
    (paged_more _ _ _ _ [] _ _ _ _ _ (ap (λ vs. flat_map name_line (map name_of_vector vs)) first) c.loop-vector.invariant.0 c.in_ok-push_line.ensures.paged.output, c.in_ok-push_line.ensures.paged.sound)

pub returns-in_err-push_line : goal.returns-in_err-push_line
returns-in_err-push_line g c =
    let first = first_and_rest c.loop-vector.left _ _ _ c.in-Some.ensures.first c.turn_to.ensures refl in
    record {
      written = exit_begun _ _ _ _ _ _ _ _ _ _ _ c.from_residual.ensures.1 c.loop-vector.invariant.0 c.in_err-push_line.ensures.paged (ap (λ vs. flat_map name_line (map name_of_vector vs)) first);
      fault = exit_write _ _ c.from_residual.ensures.1 c.in_err-push_line.ensures.fault;
    }

pub returns-clause-written : goal.returns-clause-written
returns-clause-written g c =
    written_held _ _ _ _ _ _ _ (paged_all _ _ [] _ _ _ (search rules) c.loop-vector.invariant.0) c.put_page.ensures.written
