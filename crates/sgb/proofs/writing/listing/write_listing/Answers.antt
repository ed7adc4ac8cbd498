use Rattle.std.proofs.Common.{rules}
use Rattle.sgb_graph.specs.Vertices.{names_of}
use Rattle.sgb.specs.Outcomes.{head_for, left_out}
use Rattle.sgb.specs.Texts.{blocks, head}
use Rattle.sgb.proofs.CertainAnswers.{exit_certain, exit_nowhere, not_nowhere, place_other, write_certain}
use Rattle.sgb.proofs.Endings.{ended_after, exit_ended, refused_after}
use Rattle.sgb.proofs.writing.listing.write_listing.Goals as goal

pub returns-in_err-from : goal.returns-in_err-from
returns-in_err-from g c = search (rules, head_for, head, blocks, exit_ended, refused_after, left_out, names_of, exit_nowhere, exit_certain, place_other)

pub returns-clause-ended : goal.returns-clause-ended
returns-clause-ended g c =
    let page = rw c.new-page.ensures at c.push_head_for.ensures in
    search (rules, head_for, head, blocks, ended_after, left_out, names_of, rw page at c.write_blocks.ensures.written)

pub returns-clause-nowhere : goal.returns-clause-nowhere
returns-clause-nowhere g c = not_nowhere (left_out (names_of c.args.graph.now) c.args.resume.now) _ c.in_ok-from.ensures

pub returns-clause-certain : goal.returns-clause-certain
returns-clause-certain g c = write_certain _ c.write_blocks.ensures.fault
