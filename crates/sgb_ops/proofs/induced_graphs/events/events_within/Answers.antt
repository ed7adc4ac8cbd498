use Rattle.sgb_vec.proofs.Common.{rules, ◌≡◌, ◌<◌, ◌+◌, ◌++◌, ℕ, Bool, List, drop, length, get_or, append_assoc, arith, drop_more, filter-append}
use Rattle.sgb_ops.specs.declared.induced_graphs.entries.Entry.{Entry}
use Rattle.sgb_ops.specs.Entries.{first_copy, inner_events}
use Rattle.sgb_ops.specs.inner.Induced.{is_wanted, wanted}
use Rattle.sgb_ops.proofs.EntryTotals.{place_fits}
use Rattle.sgb_ops.proofs.SizedEntries.{first_read}
use Rattle.sgb_ops.proofs.WantedEvents.{events_within_from}
use Rattle.sgb_ops.proofs.induced_graphs.events.events_within.Goals as goal

-- the events inside the entries from v on are those inside that of v, and the others
step : (entries : List Entry) (d self : Bool) (v : ℕ) (e : Entry) → v < length entries → e ≡ get_or entries v e
    → wanted self (events_within_from entries d v (drop v entries))
    ≡ wanted self (inner_events d (first_copy entries v) e) ++ wanted self (events_within_from entries d (v + 1) (drop (v + 1) entries))
step entries d self v e below is = search (rules, wanted, events_within_from, drop_more, filter-append, is_wanted, inner_events, first_copy)

pub push_inner_events-requires : goal.push_inner_events-requires
push_inner_events-requires c = search (rules, first_read, place_fits)

pub loop-v-preserved : goal.loop-v-preserved
loop-v-preserved c =
    let entries = c.args.entries.now in
    let first = first_read entries c.args.copies.now c.loop-v.v c.own_start.result c.requires.copies c.own_start.ensures.value in
    let more = step entries c.args.flags.directed c.args.flags.self_loops c.loop-v.v c.at.result (omega (arith, c.requires.count)) c.at.ensures in
    grind (arith, append_assoc, first, more)
