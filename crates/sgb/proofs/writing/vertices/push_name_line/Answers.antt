use Rattle.std.proofs.Common.{◌∙◌, [], Some, ap, sym}
use Rattle.std.specs.List.{slice_index_or}
use Rattle.std.proofs.lemmas.Option.{get_or_from_slice_get}
use Rattle.sgb_graph.specs.Vertices.{names_of}
use Rattle.sgb.specs.Texts.{name_line}
use Rattle.sgb.proofs.CutOff.{exit_write}
use Rattle.sgb.proofs.Pages.{exit_untaken, held_two}
use Rattle.sgb.proofs.writing.vertices.push_name_line.Goals as goal

pub returns-in_err-make_room : goal.returns-in_err-make_room
returns-in_err-make_room g c = record {
  paged = exit_untaken c.args.page.now (name_line (slice_index_or (names_of c.args.graph.now) c.args.v [])) _ _ _ _ c.from_residual.ensures.1 c.in_err-make_room.ensures.paged;
  fault = exit_write _ _ c.from_residual.ensures.1 c.in_err-make_room.ensures.fault;
}

pub returns-clause-paged : goal.returns-clause-paged
returns-clause-paged g c =
    let named = get_or_from_slice_get (names_of c.args.graph.now) c.args.v _ [] (c.name.ensures ∙ ap Some (sym c.bytes.ensures.value)) in
    let output = held_two _ _ _ _ _ _ _ _ c.in_ok-make_room.ensures.paged.output c.push_name.ensures.put c.push_text.ensures.put in
    rw named (record { output = output; sound = c.in_ok-make_room.ensures.paged.sound })
