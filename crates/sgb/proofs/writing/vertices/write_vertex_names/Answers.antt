use Rattle.std.proofs.Common.{rules}
use Rattle.sgb_graph.specs.Vertices.{names_of}
use Rattle.sgb.specs.Outcomes.{left_out}
use Rattle.sgb.specs.Texts.{name_lines}
use Rattle.sgb.proofs.CertainAnswers.{exit_certain, exit_nowhere, not_nowhere, place_other, write_certain}
use Rattle.sgb.proofs.Endings.{ended_after, exit_ended, refused_after}
use Rattle.sgb.proofs.writing.vertices.write_vertex_names.Goals as goal

pub returns-in_err-from : goal.returns-in_err-from
returns-in_err-from g c = search (rules, names_of, exit_ended, refused_after, left_out, name_lines, exit_nowhere, exit_certain, place_other)

pub returns : goal.returns
returns g c = search (rules, names_of, ended_after, left_out, name_lines, not_nowhere, write_certain)
