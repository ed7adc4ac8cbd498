use Rattle.std.proofs.Common.{get_or, sym, ap, ◌∙◌}
use Rattle.sgb_gen.specs.Simplexes.{Places}
use Rattle.sgb_gen.proofs.EqualBounds.{shifts-same}
use Rattle.sgb_gen.proofs.accepted.simplexes.Simplex.shifts_known.Goals as goal

pub returns-clause-known : goal.returns-clause-known
returns-clause-known c =
    let s = c.args.self.now.sum in
    let own : Places = record { lower = c.args.lower; higher = c.args.higher } in
    let lower = ap (λ b. get_or b c.args.lower 0) c.sizes-bounds.ensures.same in
    let higher = ap (λ b. get_or b c.args.higher 0) c.sizes-bounds.ensures.same in
    c.keep.ensures s
    (record {
      small = c.in_ok-count.ensures.small;
      same = λ at order within low high. shifts-same s at own order within c.requires.order c.requires.entry (low ∙ lower) (high ∙ higher) ∙ sym c.in_ok-count.ensures.ok;
    })
    c.requires.known
