use Rattle.sgb_vec.proofs.Common.{◌∙◌, ◌++◌, ◌∷◌, [], ◌+◌, arith, drop, map, ap, sym, drop_more}
use Rattle.sgb_ops.specs.inner.Compounds.{begun_name}
use Rattle.sgb_ops.specs.inner.Sources.{names_held}
use Rattle.sgb_ops.proofs.PlainLists.{part_more}
use Rattle.sgb_ops.proofs.operands.push_begun_names.Goals as goal

pub loop-w-preserved : goal.loop-w-preserved
loop-w-preserved c =
    let w = c.loop-w.w in
    let names = names_held c.args.others.now in
    let own = begun_name c.args.start.now in
    let next = drop_more names w [] (omega (arith, c.requires.all)) ∙ ap (λ n. n ∷ drop (w + 1) names) (sym c.get.ensures) in
    part_more c.loop-w.names _ (own c.get.result.now ∷ []) (map own (drop (w + 1) names)) (map own (drop w names)) _
    (ap (map own) next) c.loop-w.invariant
    (c.in_ok-push_name.ensures.ok ∙ ap (λ n. c.loop-w.names ++ n ∷ []) c.in_ok-begun_name.ensures.ok)
