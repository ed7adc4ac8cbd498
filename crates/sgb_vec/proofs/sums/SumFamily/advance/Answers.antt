use Rattle.sgb_vec.proofs.Common.{◌≡◌, ◌-◌, ◌<◌, ◌∙◌, length, rules, ap, arith, take_rest, length-drop, length-set, places}
use Rattle.sgb_vec.specs.Sums.{BoundedSum}
use Rattle.sgb_vec.proofs.SumSuccessors.{sum-within}
use Rattle.sgb_vec.proofs.SumTails.{IsWithin-drop, put_mid-tail, IsNext-step}
use Rattle.sgb_vec.proofs.VisitLemmas.{HasVisited-from, HasVisited-all}
use Rattle.sgb_vec.proofs.SumMembers.{IsWithin-length, members_mean}
use Rattle.sgb_vec.proofs.sums.SumFamily.advance.Goals as goal

pub last_growing-requires-clause-within : goal.last_growing-requires-clause-within
last_growing-requires-clause-within c =
    (members_mean c.args.self.now _ _ (c.as_slice-bounds.ensures.value ∙ ap (λ (s : BoundedSum). s.bounds) c.self.view_is) c.requires.member).0

pub last_growing-requires-clause-small : goal.last_growing-requires-clause-small
last_growing-requires-clause-small c =
    let total : c.self.inside.total ≡ c.args.self.now.total = ap (λ (s : BoundedSum). s.total) c.self.view_is in
    omega (arith, total, (members_mean c.args.self.now _ _ (c.as_slice-bounds.ensures.value ∙ ap (λ (s : BoundedSum). s.bounds) c.self.view_is) c.requires.member).1, c.self.invariant.2)

pub returns-in_default-clause-last : goal.returns-in_default-clause-last
returns-in_default-clause-last c =
    let bounds : c.as_slice-bounds.result.now ≡ c.args.self.now.bounds = c.as_slice-bounds.ensures.value ∙ ap (λ (s : BoundedSum). s.bounds) c.self.view_is in
    let means = members_mean c.args.self.now _ _ bounds c.requires.member in
    rw (bounds, means.1) at c.in_default.ensures.last

pub returns-in_default-clause-visits : goal.returns-in_default-clause-visits
returns-in_default-clause-visits c =
    let bounds : c.as_slice-bounds.result.now ≡ c.args.self.now.bounds = c.as_slice-bounds.ensures.value ∙ ap (λ (s : BoundedSum). s.bounds) c.self.view_is in
    let means = members_mean c.args.self.now _ _ bounds c.requires.member in
    rw bounds at (HasVisited-all c.args.entries.now _ _ _ (IsWithin-length _ _ means.0) c.in_default.ensures.all_visited)

pub put_least-requires-clause-same_length : goal.put_least-requires-clause-same_length
put_least-requires-clause-same_length c =
    let within = (members_mean c.args.self.now _ _ (c.as_slice-bounds.ensures.value ∙ ap (λ (s : BoundedSum). s.bounds) c.self.view_is) c.requires.member).0 in
    simp (take_rest, length-drop) (simp length-set (omega (arith, IsWithin-length _ _ within)))

pub returns-clause-visits : goal.returns-clause-visits
returns-clause-visits c =
    let bounds : c.as_slice-bounds.result.now ≡ c.args.self.now.bounds = c.as_slice-bounds.ensures.value ∙ ap (λ (s : BoundedSum). s.bounds) c.self.view_is in
    let means = members_mean c.args.self.now _ _ bounds c.requires.member in
    let v = c.args.entries.now in
    let p = c.in-Some.place in
    let here : p < length v = c.in-Some.ensures.below.0 in
    let same_length : length v ≡ length c.args.self.now.bounds = IsWithin-length _ _ means.0 ∙ ap length bounds in
    let walk = simp length-set at (rw (take_rest, length-drop) at c.put_least.ensures.visits) in
    HasVisited-from v _ p _ _ c.last_growing.new.steps _ same_length here (λ k m. search (rules, places)) c.in-Some.ensures.visits (omega (arith, walk))

pub put_least-requires-clause-room : goal.put_least-requires-clause-room
put_least-requires-clause-room c =
    let within = (members_mean c.args.self.now _ _ (c.as_slice-bounds.ensures.value ∙ ap (λ (s : BoundedSum). s.bounds) c.self.view_is) c.requires.member).0 in
    search (rules, IsWithin-drop, take_rest, sum-within, within)

pub returns-clause-found : goal.returns-clause-found
returns-clause-found c =
    let bounds : c.as_slice-bounds.result.now ≡ c.args.self.now.bounds = c.as_slice-bounds.ensures.value ∙ ap (λ (s : BoundedSum). s.bounds) c.self.view_is in
    let means = members_mean c.args.self.now _ _ bounds c.requires.member in
    let below = c.in-Some.ensures.below in
    let here : c.in-Some.place < length c.args.entries.now = below.0 in
    let after = c.in-Some.ensures.after in
    let first = rw take_rest at c.put_least.ensures.first in
    let step = IsNext-step c.as_slice-bounds.result.now c.args.entries.now c.put_least.new.entries c.in-Some.place c.in-Some.after (c.in-Some.after - 1) means.0 here below.1 after.1 (omega (arith, after.0)) c.in-Some.ensures.last_after first in
    rw put_mid-tail (rw (bounds, means.1) at step)
