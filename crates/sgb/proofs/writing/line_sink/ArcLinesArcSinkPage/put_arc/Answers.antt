use Rattle.std.proofs.Common.{append-nil, codes, pos}
use Rattle.sgb_vec.specs.Names.{name_of_vector}
use Rattle.sgb.specs.inner.Locals.{local_line}
use Rattle.sgb.proofs.CutOff.{exit_write}
use Rattle.sgb.proofs.LocalListings.{line-parts}
use Rattle.sgb.proofs.Pages.{exit_untaken, held_three, line_given}
use Rattle.sgb.proofs.writing.line_sink.ArcLinesArcSinkPage.put_arc.Goals as goal

pub returns-in_err-make_room-clause-given : goal.returns-in_err-make_room-clause-given
returns-in_err-make_room-clause-given g c =
    line_given g.W.Sink.written g.W.Sink.has_failed c.args.page.now _ c.args.out.now _ (record { tip = c.args.tip.now; len = pos c.args.len }) _
    (exit_untaken c.args.page.now (local_line (record { tip = c.args.tip.now; len = pos c.args.len })) _ _ _ _ c.from_residual.ensures.1 c.in_err-make_room.ensures.paged)
    (exit_write _ _ c.from_residual.ensures.1 c.in_err-make_room.ensures.fault)

pub returns-clause-given : goal.returns-clause-given
returns-clause-given g c =
    rw (append-nil (local_line (record { tip = c.args.tip.now; len = pos c.args.len })))
    (held_three _ _ _ _ _ (codes "  -> ") (name_of_vector c.args.tip.now) _ _ _ _ c.in_ok-make_room.ensures.paged.output c.begin_arc.ensures.put c.push_other.ensures.text c.end_counted_arc.ensures (line-parts _ _))
