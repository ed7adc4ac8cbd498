use Rattle.std.proofs.Common.{◌≡◌, rules, Contains}
use Rattle.std.specs.Prelude.{Some, slice_get}
use Rattle.std.proofs.lemmas.Option.{get_or_from_slice_get, slice_get_within}
use Rattle.sgb_gen.specs.LocalLists.{list_in}
use Rattle.sgb_arrays.proofs.PlacedRows.{fault_given, lengths_given, starts_given, tips_given}
use Rattle.sgb_arrays.proofs.rows.Rows.push_placed.Goals as goal

pub give_arcs-requires : goal.give_arcs-requires
give_arcs-requires g c =
    let vectors = (g.L.Listed.graph c.args.listed.now).vectors in
    let member : Contains vectors c.args.x.now = (c.args.v, slice_get_within vectors c.args.v c.args.x.now c.requires.vertex, get_or_from_slice_get vectors c.args.v c.args.x.now c.args.x.now c.requires.vertex) in
    search rules

pub returns-clause-tips : goal.returns-clause-tips
returns-clause-tips g c =
    tips_given (g.L.Listed.graph c.args.listed.now) c.requires.rising c.requires.ends c.args.v c.args.x.now (g.L.Places.VectorPlaces.vectors c.args.places.now) c.args.self.now c.give_arcs.new.room _ c.requires.vertex c.requires.places c.in_ok-give_arcs.ensures.given

pub returns-clause-lengths : goal.returns-clause-lengths
returns-clause-lengths g c =
    lengths_given (g.L.Listed.graph c.args.listed.now) c.requires.rising c.requires.ends c.args.v c.args.x.now (g.L.Places.VectorPlaces.vectors c.args.places.now) c.args.self.now c.give_arcs.new.room _ c.requires.vertex c.requires.places c.in_ok-give_arcs.ensures.given

pub returns-clause-starts : goal.returns-clause-starts
returns-clause-starts g c =
    starts_given (g.L.Listed.graph c.args.listed.now) c.requires.rising c.requires.ends c.args.v c.args.x.now (g.L.Places.VectorPlaces.vectors c.args.places.now) c.args.self.now c.give_arcs.new.room _ c.requires.vertex c.requires.places c.in_ok-give_arcs.ensures.given

pub returns-clause-memory : goal.returns-clause-memory
returns-clause-memory g c = fault_given (list_in (g.L.Listed.graph c.args.listed.now) c.args.x.now) (g.L.Places.VectorPlaces.vectors c.args.places.now) c.args.self.now c.give_arcs.new.room _ c.in_ok-give_arcs.ensures.given
