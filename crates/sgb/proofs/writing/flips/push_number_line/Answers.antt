use Rattle.sgb.specs.inner.Texts.{number_line}
use Rattle.sgb.proofs.CutOff.{exit_write}
use Rattle.sgb.proofs.Pages.{exit_untaken, held_two}
use Rattle.sgb.proofs.writing.flips.push_number_line.Goals as goal

pub returns-in_err-make_room : goal.returns-in_err-make_room
returns-in_err-make_room g c = record {
  paged = exit_untaken c.args.page.now (number_line c.args.number) _ _ _ _ c.from_residual.ensures.1 c.in_err-make_room.ensures.paged;
  fault = exit_write _ _ c.from_residual.ensures.1 c.in_err-make_room.ensures.fault;
}

pub returns-clause-paged : goal.returns-clause-paged
returns-clause-paged g c = record {
  output = held_two _ _ _ _ _ _ _ _ c.in_ok-make_room.ensures.paged.output c.push_number.ensures.text c.push_text.ensures.put;
  sound = c.in_ok-make_room.ensures.paged.sound;
}
