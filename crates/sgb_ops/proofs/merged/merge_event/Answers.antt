use Rattle.sgb_vec.proofs.Common.{◌≡◌, ◌∙◌, ◌++◌, ◌∷◌, [], ℕ, List, true, sym, ap, rules, list_any, position_or_len, not-true, not-false, map_push, map, if◌then◌else◌, set}
use Rattle.sgb_taken.specs.inner.Ends.{ends_key}
use Rattle.sgb_ops.proofs.Ends.{has_same_pair}
use Rattle.sgb_ops.proofs.MergeSteps.{has_key, put_last, put_there, keys_stay}
use Rattle.sgb_ops.proofs.merged.merge_event.Goals as goal

-- what the set of ends says of a pair is what the events say of the event's ends
same_test : (keys ks : List (ℕ × ℕ)) (k key : ℕ × ℕ) → k ≡ key → keys ≡ ks → list_any (has_same_pair k) keys ≡ list_any (has_same_pair key) ks
same_test keys ks k key e f = ap (λ p. list_any (has_same_pair p) keys) e ∙ ap (list_any (has_same_pair key)) f

same_place : (keys ks : List (ℕ × ℕ)) (k key : ℕ × ℕ) → k ≡ key → keys ≡ ks → position_or_len (has_same_pair k) keys ≡ position_or_len (has_same_pair key) ks
same_place keys ks k key e f = ap (λ p. position_or_len (has_same_pair p) keys) e ∙ ap (position_or_len (has_same_pair key)) f

pub returns-then-is_new-clause-ok : goal.returns-then-is_new-clause-ok
returns-then-is_new-clause-ok c = search (rules, has_key, same_test, not-true, put_last)

pub returns-then-is_new-clause-ends : goal.returns-then-is_new-clause-ends
returns-then-is_new-clause-ends c = search (rules, ends_key, list_any, has_same_pair, not-true, map_push)

pub returns : goal.returns
returns c =
    let left = c.args.left.now.items in
    let place = c.in_ok-place.place in
    let keys = c.args.ends.now.keys in
    let key = ends_key c.args.directed in
    let some : list_any (has_same_pair c.ends.result) keys ≡ true = not-false _ (sym c.in_ok-place.ensures.added ∙ c.if-is_new.false) in
    let has : has_key c.args.directed left c.args.event ≡ true = sym (same_test keys _ c.ends.result _ c.ends.ensures c.requires.ends) ∙ some in
    let there = ap (set left place) c.shortened.ensures
    ∙ put_there c.args.directed left c.args.event c.index.result.now place has (c.in_ok-place.ensures.index ∙ same_place keys _ c.ends.result _ c.ends.ensures c.requires.ends) c.index.ensures in
    record {
      ok = there;
      ends = c.in_ok-place.ensures.keys
          ∙ (ap (λ b. if b then keys else keys ++ c.ends.result ∷ []) some
          ∙ (c.requires.ends ∙ (sym (keys_stay c.args.directed left c.args.event has) ∙ ap (map key) (sym there))));
      memory = search rules;
    }
