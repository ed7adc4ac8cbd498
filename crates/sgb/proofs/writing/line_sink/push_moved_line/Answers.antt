use Rattle.std.proofs.Common.{codes}
use Rattle.sgb_gen.specs.Spans.{arc_along}
use Rattle.sgb.specs.inner.Locals.{local_line}
use Rattle.sgb.proofs.LocalListings.{line-parts}
use Rattle.sgb.proofs.Pages.{exit_untaken, held_three}
use Rattle.sgb.proofs.CutOff.{exit_write}
use Rattle.sgb.proofs.writing.line_sink.push_moved_line.Goals as goal

pub returns-in_err-make_room-clause-paged : goal.returns-in_err-make_room-clause-paged
returns-in_err-make_room-clause-paged g c =
    let s = c.args.span.now in
    exit_untaken c.args.page.now (local_line (arc_along s.sizes s.wrap s.x s.parts c.args.l)) _ _ _ _ c.from_residual.ensures.1 c.in_err-make_room.ensures.paged

pub returns-clause-paged : goal.returns-clause-paged
returns-clause-paged g c = record {
  output = held_three _ _ _ _ _ (codes "  -> ") _ _ _ _ _ c.in_ok-make_room.ensures.paged.output c.begin_arc.ensures.put (rw c.requires.named at c.push_moved.ensures.text) c.end_counted_arc.ensures (line-parts _ _);
  sound = c.in_ok-make_room.ensures.paged.sound;
}

pub returns-in_err-make_room-clause-fault : goal.returns-in_err-make_room-clause-fault
returns-in_err-make_room-clause-fault g c = exit_write _ _ c.from_residual.ensures.1 c.in_err-make_room.ensures.fault
