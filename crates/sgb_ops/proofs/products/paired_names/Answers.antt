use Rattle.sgb_vec.proofs.Common.{◌∙◌, ◌+◌, ◌∷◌, [], ℕ, List, arith, ap, drop, map, sym, drop_more}
use Rattle.sgb_ops.specs.inner.Compounds.{pair_name}
use Rattle.sgb_ops.specs.inner.Pairs.{paired_names}
use Rattle.sgb_ops.specs.inner.Sources.{names_held}
use Rattle.sgb_ops.proofs.PlainLists.{part_more}
use Rattle.sgb_ops.proofs.products.paired_names.Goals as goal

pub loop-x-preserved : goal.loop-x-preserved
loop-x-preserved c =
    let x = c.loop-x.x in
    let names = names_held c.args.first.now in
    let others = names_held c.args.second.now in
    let pairs : List ℕ → List (List ℕ) = λ a. map (λ b. pair_name a b) others in
    let next = drop_more names x [] (omega (arith, c.requires.first)) ∙ ap (λ n. n ∷ drop (x + 1) names) (sym c.get.ensures) in
    part_more c.loop-x.names _ (pairs c.get.result.now) (paired_names (drop (x + 1) names) others) (paired_names (drop x names) others) _
    (ap (λ ns. paired_names ns others) next) c.loop-x.invariant c.in_ok-push_joined_names.ensures.ok
