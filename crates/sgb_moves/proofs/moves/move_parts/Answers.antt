use Rattle.std.proofs.Common.{◌≡◌, ◌+◌, ℤ, Some, drop, set, w32, w64, to_z, of_z, sym, ap, ◌∙◌, arith, rules, length-set}
use Rattle.std.proofs.lemmas.Int.{to_z-of_z}
use Rattle.std.specs.Option.{is_some, unwrap_or}
use Rattle.sgb_moves.specs.MovedCoordinates.{part_at, parts_put}
use Rattle.sgb_moves.proofs.PartReaches.{part_of, put_more, stay_more, stay_out}
use Rattle.sgb_moves.proofs.moves.move_parts.Goals as goal

pub returns-in_default-clause-stay : goal.returns-in_default-clause-stay
returns-in_default-clause-stay c = search (rules, part_of, to_z-of_z, stay_out)

pub loop-k-preserved : goal.loop-k-preserved
loop-k-preserved c =
    let wrap : ℤ = to_z w64 (of_z w64 c.args.wrap) in
    let p = part_of c.args.parts.now c.loop-k.k-index in
    let here : part_at c.args.sizes.now wrap c.args.x.now c.args.l p ≡ Some c.in-Some.coordinate =
    ap (λ a. part_at c.args.sizes.now wrap c.args.x.now c.args.l (p.0, a)) (sym (to_z-of_z w32 p.1 (search rules))) ∙ sym c.in-Some.ensures in (
      stay_more c.args.sizes.now wrap c.args.x.now c.args.l c.args.parts.now c.loop-k.k-index (omega arith) (ap is_some here) ∙ c.loop-k.invariant.0,
      ap (λ o. parts_put c.args.sizes.now wrap c.args.x.now c.args.l (drop (c.loop-k.k-index + 1) c.args.parts.now) (set c.loop-k.there p.0 (unwrap_or o 0))) (sym here)
          ∙ put_more c.args.sizes.now wrap c.args.x.now c.args.l c.args.parts.now c.loop-k.k-index c.loop-k.there (omega arith)
          ∙ c.loop-k.invariant.1,
      length-set c.loop-k.there p.0 c.in-Some.coordinate ∙ c.loop-k.invariant.2,
    )
