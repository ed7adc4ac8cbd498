use Rattle.std.proofs.Common.{◌<◌, ◌∙◌, ◌++◌, [], length, map, filter, sym, ap, subst, refl, All}
use Rattle.std.proofs.lemmas.Result.{on_ok_weaker}
use Rattle.sgb_taken.specs.Taken.{taken}
use Rattle.sgb_ops.specs.inner.Copies.{leads_to_copies}
use Rattle.sgb_taken.specs.inner.Ends.{link_of}
use Rattle.sgb_ops.specs.inner.Sources.{bare}
use Rattle.sgb_ops.proofs.BareArcs.{arcs_read, bare_tips, bare_twice}
use Rattle.sgb_taken.proofs.TakenTips.{TipBelow}
use Rattle.sgb_ops.proofs.ListedEvents.{listed_tips}
use Rattle.sgb_ops.proofs.ReadArcs.{ends_below, kept_tips, same_events}
use Rattle.sgb_ops.proofs.induced_graphs.rooms.Rooms.take_arcs.Goals as goal

pub push_arcs_to_copies-requires : goal.push_arcs_to_copies-requires
push_arcs_to_copies-requires c =
    let g = c.args.graph.now in
    let d = c.args.directed in
    let v = c.args.v in
    let n = length c.args.copies.now in
    subst (All (λ e. e.to < n)) (sym (c.deref.ensures.value ∙ c.in_ok-put_taken.ensures.ok))
    (ends_below n v (taken d g v) (subst (λ m. All (TipBelow m) (taken d g v)) (sym c.requires.count) (listed_tips d g v c.put_taken.ensures.tips c.requires.vertex)))

pub returns-clause-ok : goal.returns-clause-ok
returns-clause-ok c =
    let v = c.args.v in
    let copies = c.args.copies.now in
    let links = taken c.args.directed c.args.graph.now v in
    let handed = c.deref.result.now in
    let read = arcs_read v links c.put_taken.new.events.items handed [] (map link_of handed) c.in_ok-put_taken.ensures.ok c.deref.ensures.value refl refl in
    on_ok_weaker c.push_arcs_to_copies.result
    (λ kept u. same_events copies c.args.directed v u c.push_arcs_to_copies.new.arcs.items (map link_of handed) links
    (kept ∙ ap (λ ls. ls ++ filter (leads_to_copies copies) (map link_of handed)) c.clear.ensures.items) (ap (map bare) read ∙ bare_twice links))
    c.push_arcs_to_copies.ensures.ok

pub returns-clause-tips : goal.returns-clause-tips
returns-clause-tips c =
    let g = c.args.graph.now in
    let d = c.args.directed in
    let v = c.args.v in
    let copies = c.args.copies.now in
    let links = taken d g v in
    let handed = c.deref.result.now in
    let n = length g.vertices in
    let read = arcs_read v links c.put_taken.new.events.items handed [] (map link_of handed) c.in_ok-put_taken.ensures.ok c.deref.ensures.value refl refl in
    on_ok_weaker c.push_arcs_to_copies.result
    (λ kept. kept_tips copies n c.push_arcs_to_copies.new.arcs.items (map link_of handed)
    (kept ∙ ap (λ ls. ls ++ filter (leads_to_copies copies) (map link_of handed)) c.clear.ensures.items) c.requires.count
    (subst (All (TipBelow n)) (sym read) (bare_tips n links (listed_tips d g v c.put_taken.ensures.tips c.requires.vertex))))
    c.push_arcs_to_copies.ensures.ok
