use Rattle.std.proofs.Common.{◌≡◌, ℕ, ◌+◌, ◌/◌, ◌^◌, ◌<◌, ◌≤◌, false, leb, refl, arith}
use Rattle.std.proofs.Math.Nat.{div-le_self}
use Rattle.std.proofs.lemmas.Bool.{OnFalse_from, leb-false}
use Rattle.sgb_gen.specs.Subsets.{is_wanted_size}
use Rattle.sgb_gen.proofs.WantedSizes.{unwanted-below}
use Rattle.sgb_gen.proofs.accepted.subsets.descents.any_wanted.Goals as goal

pub returns : goal.returns
returns c =
    let later = c.args.size_bits / 2 ^ c.args.from in
    let small : later < 2 ^ 128 = omega (arith, c.ranges.size_bits.fits, div-le_self c.args.size_bits (2 ^ c.args.from)) in
    let none : leb (c.args.from + c.from.result) c.args.to ≡ false → (k : ℕ) → c.args.from ≤ k → k ≤ c.args.to → is_wanted_size c.args.size_bits k ≡ false =
    λ past k from to. unwanted-below c.args.size_bits c.args.from k later refl small from (omega (arith, c.from.ensures, leb-false (c.args.from + c.from.result) c.args.to past)) in
    OnFalse_from _ _ none
