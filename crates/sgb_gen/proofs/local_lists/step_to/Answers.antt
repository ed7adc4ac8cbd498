use Rattle.std.proofs.Common.{◌≡◌, arith, subst, refl}
use Rattle.std.specs.List.{Contains}
use Rattle.sgb_gen.specs.VectorGraphs.{vertex_among}
use Rattle.sgb_gen.proofs.SteppedVectors.{next_there, previous_there}
use Rattle.sgb_gen.proofs.local_lists.step_to.Goals as goal

pub returns-then-place-own-eq1 : goal.returns-then-place-own-eq1
returns-then-place-own-eq1 g c =
    let vectors = g.F.Family.members c.args.family.now in
    let places = g.P.VectorPlaces.vectors c.args.places.now in
    let x = c.args.x.now.items in
    let has : Contains vectors x = subst (Contains vectors) c.as_slice.ensures.value (c.if-not-holds.ensures.0 refl) in
    let own = c.place_if_there-own.result in
    let found = subst (λ y. Contains places y → own ≡ vertex_among places y) c.as_slice-2.ensures.value c.place_if_there-own.ensures in
    next_there vectors places x own c.args.place (g.met.F.Family.rising c.args.family.now) c.requires has found c.next.result c.next.new.vector.items
    (omega (arith, c.if-place-own.true, c.if-place-own-eq1.true)) c.next.ensures.found

pub returns-then-own-place-eq1 : goal.returns-then-own-place-eq1
returns-then-own-place-eq1 g c =
    let vectors = g.F.Family.members c.args.family.now in
    let places = g.P.VectorPlaces.vectors c.args.places.now in
    let x = c.args.x.now.items in
    let has : Contains vectors x = subst (Contains vectors) c.as_slice.ensures.value (c.if-not-holds.ensures.0 refl) in
    let own = c.place_if_there-own.result in
    let found = subst (λ y. Contains places y → own ≡ vertex_among places y) c.as_slice-2.ensures.value c.place_if_there-own.ensures in
    previous_there vectors places x own c.args.place (g.met.F.Family.rising c.args.family.now) c.requires has found c.prev.result c.prev.new.vector.items
    (omega (arith, c.if-own-place.true, c.if-own-place-eq1.true)) c.prev.ensures.found
