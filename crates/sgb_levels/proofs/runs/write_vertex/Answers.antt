use Rattle.std.proofs.Common.{◌∙◌, [], Some, ap, sym}
use Rattle.std.proofs.lemmas.Option.{get_or_from_slice_get}
use Rattle.sgb_graph.specs.Vertices.{names_of}
use Rattle.sgb_levels.proofs.runs.write_vertex.Goals as goal

pub returns-clause-written : goal.returns-clause-written
returns-clause-written g c =
    let named = get_or_from_slice_get (names_of c.args.graph.now) c.args.v _ [] (c.name.ensures ∙ ap Some (sym c.bytes.ensures.value)) in
    rw named c.write_line.ensures.written
