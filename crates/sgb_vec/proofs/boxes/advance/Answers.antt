use Rattle.sgb_vec.proofs.Common.{rules, places}
use Rattle.sgb_vec.proofs.BoxPlaces.{IsBelow-from_Contains, IsBelow-length}
use Rattle.sgb_vec.proofs.BoxSuccessors.{GrownAt-put_mid, IsNext-grown, IsLast-top}
use Rattle.sgb_vec.proofs.VisitLemmas.{HasVisited-from, HasVisited-all}
use Rattle.sgb_vec.proofs.boxes.advance.Goals as goal

pub last_below_top-requires-clause-below : goal.last_below_top-requires-clause-below
last_below_top-requires-clause-below c = IsBelow-from_Contains c.args.sizes.now c.args.entries.now c.requires.member

pub returns-in_default-clause-last : goal.returns-in_default-clause-last
returns-in_default-clause-last c =
    let below = IsBelow-from_Contains c.args.sizes.now c.args.entries.now c.requires.member in
    IsLast-top c.args.sizes.now c.args.entries.now below (λ k _ h. c.in_default.ensures.all_top k h)

pub returns-in_default-clause-visits : goal.returns-in_default-clause-visits
returns-in_default-clause-visits c =
    let below = IsBelow-from_Contains c.args.sizes.now c.args.entries.now c.requires.member in
    HasVisited-all c.args.entries.now _ _ _ (IsBelow-length _ _ below) c.in_default.ensures.all_visited

pub returns-clause-found : goal.returns-clause-found
returns-clause-found c =
    let below = IsBelow-from_Contains c.args.sizes.now c.args.entries.now c.requires.member in
    search (rules, GrownAt-put_mid, IsNext-grown, below)

pub returns-clause-visits : goal.returns-clause-visits
returns-clause-visits c =
    let below = IsBelow-from_Contains c.args.sizes.now c.args.entries.now c.requires.member in
    let here = c.in-Some.ensures.below in
    HasVisited-from c.args.entries.now _ c.in-Some.place _ _ c.last_below_top.new.steps _ (IsBelow-length _ _ below) here.0 (λ k m. search (rules, places)) c.in-Some.ensures.visits (search rules)
