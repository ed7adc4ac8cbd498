use Rattle.std.proofs.Common.{rules, option_map}
use Rattle.sgb_vec.specs.Names.{name_of_vector}
use Rattle.sgb.specs.Locals.{left_out_after}
use Rattle.sgb.specs.Outcomes.{left_out}
use Rattle.sgb.specs.Texts.{name_lines}
use Rattle.sgb.proofs.CertainAnswers.{exit_certain, place_other, write_certain}
use Rattle.sgb.proofs.Endings.{ended_after, exit_ended, refused_after}
use Rattle.sgb.proofs.NamedMembers.{lines_of_rest}
use Rattle.sgb.proofs.writing.names.write_names.Goals as goal

pub returns-in_err-start : goal.returns-in_err-start
returns-in_err-start g c = search (rules, name_of_vector, exit_ended, refused_after, left_out, name_lines, exit_certain, place_other)

pub returns : goal.returns
returns g c = search (rules, name_of_vector, option_map, left_out_after, ended_after, left_out, name_lines, lines_of_rest, write_certain)
