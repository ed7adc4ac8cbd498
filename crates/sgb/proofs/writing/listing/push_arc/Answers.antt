use Rattle.std.proofs.Common.{◌∙◌, Some, codes, map, w64, sym, ap, rules}
use Rattle.std.specs.Fmt.{signed_decimal}
use Rattle.std.proofs.lemmas.Int.{to_z-of_z}
use Rattle.sgb.specs.Texts.{arc_line}
use Rattle.sgb.proofs.Listings.{arc_line-parts}
use Rattle.sgb.proofs.CutOff.{exit_write}
use Rattle.sgb.proofs.Pages.{exit_untaken, held_three}
use Rattle.sgb.proofs.writing.listing.push_arc.Goals as goal

pub returns-in_err-make_room : goal.returns-in_err-make_room
returns-in_err-make_room g c = record {
  paged = exit_untaken c.args.page.now (arc_line (map (λ v. v.name) c.args.graph.now.vertices) c.args.link) _ _ _ _ c.from_residual.ensures.1 c.in_err-make_room.ensures.paged;
  fault = exit_write _ _ c.from_residual.ensures.1 c.in_err-make_room.ensures.fault;
}

pub returns-clause-paged : goal.returns-clause-paged
returns-clause-paged g c =
    let len = ap signed_decimal (to_z-of_z w64 c.args.link.len (search rules)) in
    let line = arc_line-parts (map (λ v. v.name) c.args.graph.now.vertices) c.args.link c.bytes.result.now _ (c.name.ensures ∙ ap Some (sym c.bytes.ensures.value)) len in
    record {
      output = held_three _ _ _ _ _ (codes "  -> ") c.bytes.result.now _ _ _ _ c.in_ok-make_room.ensures.paged.output c.begin_arc.ensures.put c.push_name.ensures.put c.end_arc.ensures line;
      sound = c.in_ok-make_room.ensures.paged.sound;
    }
