use Rattle.std.proofs.Common.{◌≡◌, ◌+◌, ℤ, drop, w32, w64, to_z, of_z, set, ap, ◌∙◌, arith, rules, length-set}
use Rattle.std.proofs.lemmas.Int.{to_z-of_z}
use Rattle.std.specs.Option.{unwrap_or}
use Rattle.sgb_moves.specs.MovedCoordinates.{part_at, parts_put}
use Rattle.sgb_moves.proofs.PartReaches.{part_of, put_more}
use Rattle.sgb_moves.proofs.moves.put_parts.Goals as goal

pub loop-k-preserved : goal.loop-k-preserved
loop-k-preserved c =
    let wrap : ℤ = to_z w64 (of_z w64 c.args.wrap) in
    let p = part_of c.args.parts.now c.loop-k.k-index in
    let here : c.part_at.result ≡ part_at c.args.sizes.now wrap c.args.x.now c.args.l p = c.part_at.ensures ∙ ap (λ a. part_at c.args.sizes.now wrap c.args.x.now c.args.l (p.0, a)) (to_z-of_z w32 p.1 (search rules)) in
    let value : c.unwrap_or.result ≡ unwrap_or (part_at c.args.sizes.now wrap c.args.x.now c.args.l p) 0 = c.unwrap_or.ensures ∙ ap (λ o. unwrap_or o 0) here in (
      ap (λ v. parts_put c.args.sizes.now wrap c.args.x.now c.args.l (drop (c.loop-k.k-index + 1) c.args.parts.now) (set c.loop-k.there p.0 v)) value
          ∙ put_more c.args.sizes.now wrap c.args.x.now c.args.l c.args.parts.now c.loop-k.k-index c.loop-k.there (omega arith)
          ∙ c.loop-k.invariant.0,
      length-set c.loop-k.there p.0 c.unwrap_or.result ∙ c.loop-k.invariant.1,
    )
