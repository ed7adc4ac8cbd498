use Rattle.std.proofs.Common.{◌∙◌, refl}
use Rattle.sgb.proofs.CutOff.{exit_write}
use Rattle.sgb.proofs.LocalListings.{parts-named}
use Rattle.sgb.proofs.Pages.{exit_begun_by, exit_part, first_ok, lines_fault, lines_given, paged_none}
use Rattle.sgb.proofs.writing.families.push_block.Goals as goal

pub returns-in_err-push_line-clause-paged : goal.returns-in_err-push_line-clause-paged
returns-in_err-push_line-clause-paged g c =
    exit_part _ _ _ _ _ _ _ _ _ _ _ _ _ c.from_residual.ensures.1 (paged_none _ c.args.page.now _) c.in_err-push_line.ensures.paged
    (parts-named (g.L.Listed.graph c.args.listed.now) c.args.x.now _ _ refl c.requires.named)

pub returns-in_err-push_line-clause-fault : goal.returns-in_err-push_line-clause-fault
returns-in_err-push_line-clause-fault g c = λ other. exit_write _ _ c.from_residual.ensures.1 c.in_err-push_line.ensures.fault

-- out of memory nothing was put after the name
pub returns-in_err-give_arcs-clause-paged : goal.returns-in_err-give_arcs-clause-paged
returns-in_err-give_arcs-clause-paged g c =
    rw (parts-named (g.L.Listed.graph c.args.listed.now) c.args.x.now _ _ refl c.requires.named, c.in_err-give_arcs.ensures.unput.1)
    (exit_begun_by c.args.page.now _ _ c.push_line.new.page _ _ _ _ _ _ c.from_residual-in_err-give_arcs.ensures.1 c.in_err-give_arcs.ensures.memory
    c.in_ok-push_line.ensures.paged.sound c.in_ok-push_line.ensures.paged.output)

pub returns-in_err-give_arcs-clause-fault : goal.returns-in_err-give_arcs-clause-fault
returns-in_err-give_arcs-clause-fault g c = λ other. absurd (other c.in_err-give_arcs.ensures.board)

pub returns-clause-paged : goal.returns-clause-paged
returns-clause-paged g c =
    rw (parts-named (g.L.Listed.graph c.args.listed.now) c.args.x.now _ _ refl c.requires.named)
    (lines_given g.W.Sink.written g.W.Sink.has_failed c.args.page.now _ c.push_line.new.page _ c.args.out.now c.push_line.new.out _ _ _ c.in_ok-push_line.ensures.paged.output
    c.in_ok-give_arcs.ensures.given (first_ok _ _ _ c.in_ok-give_arcs.ensures.ready))

pub returns-clause-fault : goal.returns-clause-fault
returns-clause-fault g c = λ other. lines_fault g.W.Sink.written g.W.Sink.has_failed _ _ _ _ _ _ c.in_ok-give_arcs.ensures.given
