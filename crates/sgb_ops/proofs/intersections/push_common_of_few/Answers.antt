use Rattle.sgb_vec.proofs.Common.{◌≡◌, ◌+◌, ◌∙◌, ◌++◌, ◌∷◌, [], take, drop, get_or, sym, ap, refl, w64, to_z, of_z, rules, arith, to_z-of_z, take_more, drop_all, drop_more, take-append-drop}
use Rattle.sgb_ops.specs.inner.Tallies.{tally_to, event_left, second_length}
use Rattle.sgb_ops.specs.inner.Intersection.{common_event}
use Rattle.sgb_ops.proofs.CommonEvents.{commons_after, commons_at_places, left_after, event_there}
use Rattle.sgb_ops.proofs.PlainLists.{part_more, parts_all}
use Rattle.sgb_ops.proofs.TallyLemmas.{no_arc}
use Rattle.sgb_ops.proofs.intersections.push_common_of_few.Goals as goal

pub loop-k-init : goal.loop-k-init
loop-k-init c = ap (λ es. c.args.events.now.items ++ es) (sym (commons_at_places c.args.multi c.args.v c.args.ours.now c.args.theirs.now [] c.args.theirs.now 0 refl refl))

pub loop-k-preserved : goal.loop-k-preserved
loop-k-preserved c =
    let multi = c.args.multi in
    let v = c.args.v in
    let gs = c.args.ours.now in
    let hs = c.args.theirs.now in
    let i = c.loop-k.k in
    let l = get_or hs i no_arc in
    let before = take i hs in
    let links = drop (i + 1) hs in
    let next : take (i + 1) hs ≡ before ++ l ∷ [] = take_more hs i no_arc (omega arith) in
    let rest : drop i hs ≡ l ∷ links = drop_more hs i no_arc (omega arith) in
    let is : hs ≡ before ++ l ∷ links = sym (take-append-drop i hs) ∙ ap (λ xs. before ++ xs) rest in
    let left : c.tally_left-left.result ≡ left_after multi l.tip gs before = search rules in
    let far : to_z w64 (of_z w64 c.second_length-len.result) ≡ second_length multi l.len (tally_to l.tip hs) =
    to_z-of_z w64 c.second_length-len.result (search rules) ∙ (c.second_length-len.ensures ∙ ap (second_length multi l.len) c.tally_to-in-loop-k.ensures) in
    let event = ap (λ k. event_left v l.tip k c.tally_left-left.result) far
    ∙ (ap (event_left v l.tip (second_length multi l.len (tally_to l.tip hs))) left ∙ event_there multi v gs hs before links l is) in
    let now = common_event multi v gs hs before l in
    part_more c.loop-k.events.items _ now (commons_after multi v gs hs (take (i + 1) hs) links) (commons_after multi v gs hs before (drop i hs)) _
    (ap (commons_after multi v gs hs before) rest ∙ ap (λ b. now ++ commons_after multi v gs hs b links) (sym next)) c.loop-k.invariant
    (c.in_ok-push_event_left.ensures.ok ∙ ap (λ e. c.loop-k.events.items ++ e) event)

pub returns-clause-ok : goal.returns-clause-ok
returns-clause-ok c =
    let theirs = c.args.theirs.now in
    let k = c.loop-k.k in
    parts_all c.loop-k.events.items _ _ (ap (commons_after c.args.multi c.args.v c.args.ours.now theirs (take k theirs)) (drop_all k theirs (omega arith))) c.loop-k.invariant
