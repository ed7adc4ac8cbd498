use Rattle.sgb_vec.proofs.Common.{◌<◌, ◌+◌, ◌-◌, map, ◌∙◌, ap, rules, places, take_rest, All-drop, All-take}
use Rattle.sgb_vec.proofs.BoxPlaces.{IsBelow-from_Contains, IsBelow-length}
use Rattle.sgb_vec.proofs.BoxPredecessors.{FallenAt-put_mid, IsPrevious-fallen, HasNoneBefore-zeros, sizes_some-below}
use Rattle.sgb_vec.proofs.VisitLemmas.{HasVisited-from, HasVisited-all}
use Rattle.sgb_vec.proofs.boxes.retreat.Goals as goal

pub returns-in_default-clause-first : goal.returns-in_default-clause-first
returns-in_default-clause-first c = HasNoneBefore-zeros c.args.sizes.now c.args.entries.now c.in_default.ensures.all_zero

pub returns-in_default-clause-visits : goal.returns-in_default-clause-visits
returns-in_default-clause-visits c =
    let below = IsBelow-from_Contains c.args.sizes.now c.args.entries.now c.requires.member in
    HasVisited-all c.args.entries.now _ _ _ (IsBelow-length _ _ below) c.in_default.ensures.all_visited

pub slice_bounds-put_tops-count : goal.slice_bounds-put_tops-count
slice_bounds-put_tops-count c = search (rules, IsBelow-length, IsBelow-from_Contains)

pub slice_bounds-put_tops-start : goal.slice_bounds-put_tops-start
slice_bounds-put_tops-start c = search (rules, IsBelow-length, IsBelow-from_Contains)

pub put_tops-requires-clause-same_length : goal.put_tops-requires-clause-same_length
put_tops-requires-clause-same_length c =
    let long = IsBelow-length _ _ (IsBelow-from_Contains c.args.sizes.now c.args.entries.now c.requires.member) in
    search (rules, places)

pub put_tops-requires-clause-some : goal.put_tops-requires-clause-some
put_tops-requires-clause-some c =
    let below = IsBelow-from_Contains c.args.sizes.now c.args.entries.now c.requires.member in
    All-take (λ s. 0 < s) _ _ (All-drop (λ s. 0 < s) _ c.args.sizes.now (sizes_some-below c.args.sizes.now c.args.entries.now below))

pub returns-clause-found : goal.returns-clause-found
returns-clause-found c =
    let below = IsBelow-from_Contains c.args.sizes.now c.args.entries.now c.requires.member in
    let here = c.in-Some.ensures.above in
    let tops = c.put_tops.ensures.tops ∙ ap (map (λ s. s - 1)) (take_rest c.args.sizes.now (c.in-Some.place + 1)) in
    let fallen = FallenAt-put_mid c.args.sizes.now c.args.entries.now c.put_tops.new.entries c.in-Some.place below here.0 here.1 tops in
    IsPrevious-fallen c.args.sizes.now c.args.entries.now _ c.in-Some.place below here.0 c.in-Some.ensures.zero_after fallen

pub returns-clause-visits : goal.returns-clause-visits
returns-clause-visits c =
    let below = IsBelow-from_Contains c.args.sizes.now c.args.entries.now c.requires.member in
    let here = c.in-Some.ensures.above in
    HasVisited-from c.args.entries.now _ c.in-Some.place _ _ c.last_above_zero.new.steps _ (IsBelow-length _ _ below) here.0 (λ k m. search (rules, places)) c.in-Some.ensures.visits (search rules)
