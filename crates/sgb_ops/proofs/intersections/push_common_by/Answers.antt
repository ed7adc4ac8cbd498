use Rattle.sgb_vec.proofs.Common.{◌≡◌, ◌==◌, ◌+◌, ◌∙◌, ◌++◌, ◌∷◌, [], take, drop, get_or, sym, ap, refl, if◌then◌else◌, w64, to_z, of_z, rules, arith, to_z-of_z, take_more, drop_all, drop_more, take-append-drop}
use Rattle.sgb_ops.specs.inner.Tallies.{tally_at, tally_to, event_left, second_length, without_one}
use Rattle.sgb_ops.specs.inner.Intersection.{common_event}
use Rattle.sgb_ops.proofs.CommonEvents.{commons_after, commons_at_places, left_after, left_at_first, left_more, event_there}
use Rattle.sgb_ops.proofs.PlainLists.{part_more, parts_all}
use Rattle.sgb_ops.proofs.TallyLemmas.{no_arc}
use Rattle.sgb_ops.proofs.intersections.push_common_by.Goals as goal

pub loop-arc-init : goal.loop-arc-init
loop-arc-init c =
    let gs = c.args.ours.now in
    let hs = c.args.theirs.now in (
      ap (λ es. c.args.events.now.items ++ es) (sym (commons_at_places c.args.multi c.args.v gs hs [] hs 0 refl refl)),
      (λ u. c.note.ensures.noted u ∙ left_at_first c.args.multi u gs),
      c.note.ensures.size,
    )

pub loop-arc-preserved : goal.loop-arc-preserved
loop-arc-preserved c =
    let multi = c.args.multi in
    let v = c.args.v in
    let gs = c.args.ours.now in
    let hs = c.args.theirs.now in
    let i = c.loop-arc.arc-index in
    let l = get_or hs i no_arc in
    let before = take i hs in
    let links = drop (i + 1) hs in
    let next : take (i + 1) hs ≡ before ++ l ∷ [] = take_more hs i no_arc (omega arith) in
    let rest : drop i hs ≡ l ∷ links = drop_more hs i no_arc (omega arith) in
    let is : hs ≡ before ++ l ∷ links = sym (take-append-drop i hs) ∙ ap (λ xs. before ++ xs) rest in
    let far : to_z w64 (of_z w64 c.second_length-len.result) ≡ second_length multi l.len (tally_to l.tip hs) =
    to_z-of_z w64 c.second_length-len.result (search rules) ∙ (c.second_length-len.ensures ∙ ap (second_length multi l.len) (c.note-2.ensures.noted l.tip)) in
    let event = ap (λ k. event_left v l.tip k (tally_at c.loop-arc.left l.tip)) far
    ∙ (ap (event_left v l.tip (second_length multi l.len (tally_to l.tip hs))) (c.loop-arc.invariant.1 l.tip) ∙ event_there multi v gs hs before links l is) in
    let sofar = c.loop-arc.events.items in
    let now = common_event multi v gs hs before l in (
      part_more sofar _ now (commons_after multi v gs hs (take (i + 1) hs) links) (commons_after multi v gs hs before (drop i hs)) _
          (ap (commons_after multi v gs hs before) rest ∙ ap (λ b. now ++ commons_after multi v gs hs b links) (sym next)) c.loop-arc.invariant.0
          (c.in_ok-push_if_left.ensures.ok ∙ ap (λ e. sofar ++ e) event),
      (λ u. c.in_ok-push_if_left.ensures.left u
          ∙ (ap (λ o. if l.tip == u then without_one multi o else o) (c.loop-arc.invariant.1 u)
          ∙ (left_more multi u gs before l ∙ ap (left_after multi u gs) (sym next)))),
      c.in_ok-push_if_left.ensures.size ∙ c.loop-arc.invariant.2,
    )

pub returns-clause-ok : goal.returns-clause-ok
returns-clause-ok c =
    let theirs = c.args.theirs.now in
    let i = c.loop-arc.arc-index in
    parts_all c.loop-arc.events.items _ _ (ap (commons_after c.args.multi c.args.v c.args.ours.now theirs (take i theirs)) (drop_all i theirs (omega arith))) c.loop-arc.invariant.0
