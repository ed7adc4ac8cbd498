use Rattle.std.proofs.Common.{rules, ◌≡◌, ◌<◌, length, subst, refl, arith, flat_map}
use Rattle.sgb_graph.specs.Growth.{AddsEvents}
use Rattle.sgb_ops.specs.Entries.{inner_events}
use Rattle.sgb_ops.proofs.EntryTotals.{entry_there, place_fits}
use Rattle.sgb_ops.proofs.InducedParts.{inside_at, inside_part, within_left}
use Rattle.sgb_ops.proofs.SizedEntries.{first_read}
use Rattle.sgb_ops.proofs.Places.{place_added, places_added}
use Rattle.sgb_ops.proofs.induced_graphs.parts.add_events_within.Goals as goal

pub add_inner_events-requires-clause-few : goal.add_inner_events-requires-clause-few
add_inner_events-requires-clause-few c = search (rules, first_read, place_fits)

pub loop-v-preserved : goal.loop-v-preserved
loop-v-preserved c =
    let self = c.args.flags.self_loops in
    let multi = c.args.flags.multi in
    let d = c.args.flags.directed in
    let entries = c.args.entries.now in
    let v = c.loop-v.v in
    let below : v < length entries = omega (arith, c.requires.count) in
    let inside : inner_events d c.own_start-start.result c.at.result ≡ inside_at entries d v = search (rules, entry_there, first_read, inside_at, below) in
    place_added d c.args.built.now c.loop-v.built (flat_map (inside_part self multi entries d)) (length entries) v c.add_inner_events.new.built _ below c.loop-v.invariant (rw inside at c.in_ok-add_inner_events.ensures.ok) refl

pub returns-clause-ok : goal.returns-clause-ok
returns-clause-ok c =
    let self = c.args.flags.self_loops in
    let multi = c.args.flags.multi in
    let d = c.args.flags.directed in
    let entries = c.args.entries.now in
    subst (AddsEvents d c.args.built.now c.loop-v.built) (within_left entries d c.requires.kept self multi)
    (places_added d c.args.built.now c.loop-v.built (flat_map (inside_part self multi entries d)) (length entries) c.loop-v.v (omega (arith, c.requires.count)) c.loop-v.invariant refl)
