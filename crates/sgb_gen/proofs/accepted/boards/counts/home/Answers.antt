use Rattle.std.proofs.Common.{◌≡◌, ◌≤◌, ◌*◌, ◌+◌, ◌%◌, ℕ, ℤ, pos, ◌*ℤ◌, to_z, of_z, w32, w64, eqb, get_or, drop, sym, ap, ◌∙◌, rules, arith}
use Rattle.std.proofs.lemmas.Int.{to_z-of_z}
use Rattle.std.proofs.lemmas.Nat.{mul-le}
use Rattle.sgb_vec.specs.Boxes.{product_of}
use Rattle.sgb_vec.proofs.Products.{factors-pos}
use Rattle.sgb_gen.specs.inner.BoardCounts.{is_home_on}
use Rattle.sgb_gen.proofs.BoardCountsBoards.{side_at}
use Rattle.sgb_gen.proofs.BoardCountsTotals.{home-turned, home-small, home-fits, product-split}
use Rattle.sgb_gen.proofs.accepted.boards.counts.home.Goals as goal

pub overflow_mul-home : goal.overflow_mul-home
overflow_mul-home c =
    let sizes = c.args.sizes.now in
    let k = c.loop-k.k in
    let left = product_of (drop (k + 1) sizes) in
    let split = product-split sizes k c.loop-k-test.true in
    let parts = factors-pos (get_or sizes k 0) left (omega (arith, split, c.loop-k.invariant.1)) in
    let whole : c.loop-k.home * (get_or sizes k 0 * left) ≤ product_of sizes = omega (arith, ap (λ m. c.loop-k.home * m) split, c.loop-k.invariant.2) in
    let small = home-small c.loop-k.home c.turns-home.result (get_or sizes k 0) left (product_of sizes) c.turns-home.ensures.small whole in
    let fits = home-fits (c.loop-k.home * c.turns-home.result) left (product_of sizes) parts.1 small in
    omega (arith, fits, c.requires.few)

pub loop-k-preserved : goal.loop-k-preserved
loop-k-preserved c =
    let sizes = c.args.sizes.now in
    let t = c.args.t.now in
    let k = c.loop-k.k in
    let h = c.loop-k.home in
    let o = c.turns-home.result in
    let wrap : ℤ = to_z w64 (of_z w64 c.args.wrap) in
    let left = product_of (drop (k + 1) sizes) in
    let split = product-split sizes k c.loop-k-test.true in
    let parts = factors-pos (get_or sizes k 0) left (omega (arith, split, c.loop-k.invariant.1)) in
    let whole : h * (get_or sizes k 0 * left) ≤ product_of sizes = omega (arith, ap (λ m. h * m) split, c.loop-k.invariant.2) in
    let small = home-small h o (get_or sizes k 0) left (product_of sizes) c.turns-home.ensures.small whole in
    let some : 1 ≤ h * o = omega (arith, mul-le 1 1 h o (omega (arith, c.loop-k.invariant.0)) (omega (arith, c.turns-home.ensures.some))) in
    let read : to_z w32 (of_z w32 (get_or t k (pos 0))) ≡ get_or t k (pos 0) = to_z-of_z w32 (get_or t k (pos 0)) (search rules) in
    let each : (i : ℕ) → is_home_on (side_at sizes wrap k) (pos (i * h) *ℤ get_or t k (pos 0)) ≡ eqb (i % o) 0 = λ i.
    ap (λ b. is_home_on (record { size = get_or sizes k 0; wraps = b }) (pos (i * h) *ℤ get_or t k (pos 0))) (sym c.wraps.ensures)
    ∙ ap (λ z. is_home_on (record { size = get_or sizes k 0; wraps = c.wraps.result }) (pos (i * h) *ℤ z)) (sym read)
    ∙ c.turns-home.ensures.home i in (
      omega (arith, some),
      parts.1,
      small,
      λ n. home-turned sizes wrap t n k h o _ c.loop-k-test.true (omega (arith, c.loop-k-test.true, c.requires.dimensions)) c.loop-k.invariant.0 c.turns-home.ensures.some each (c.loop-k.invariant.3 n),
    )
