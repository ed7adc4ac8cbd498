use Rattle.std.proofs.Common.{rules}
use Rattle.sgb_vec.specs.Names.{name_of_vector}
use Rattle.sgb.specs.Texts.{name_line}
use Rattle.sgb.proofs.CutOff.{exit_write}
use Rattle.sgb_vec.proofs.VectorNames.{length-name_of_vector-le}
use Rattle.sgb.proofs.Pages.{exit_untaken, held_two}
use Rattle.sgb.proofs.writing.kept_names.KeptName.push_line.Goals as goal

pub push_text-requires : goal.push_text-requires
push_text-requires g c = search (rules, length-name_of_vector-le)

pub push_text-requires-2 : goal.push_text-requires-2
push_text-requires-2 g c = search (rules, length-name_of_vector-le)

pub returns-in_err-make_room : goal.returns-in_err-make_room
returns-in_err-make_room g c = record {
  paged = exit_untaken c.args.page.now (name_line (name_of_vector c.args.self.now)) _ _ _ _ c.from_residual.ensures.1 c.in_err-make_room.ensures.paged;
  fault = exit_write _ _ c.from_residual.ensures.1 c.in_err-make_room.ensures.fault;
}

pub returns-clause-paged : goal.returns-clause-paged
returns-clause-paged g c =
    let name = rw (c.bytes.ensures, c.self.invariant.name, c.self.view_is) at c.push_text.ensures.put in
    record { output = held_two _ _ _ _ _ _ _ _ c.in_ok-make_room.ensures.paged.output name c.push_text-2.ensures.put; sound = c.in_ok-make_room.ensures.paged.sound }
