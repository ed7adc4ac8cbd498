use Rattle.std.proofs.Common.{◌≡◌, ℕ, ◌+◌, ◌-◌, ◌*◌, ◌/◌, ◌<◌, ◌≤◌, refl, arith}
use Rattle.std.proofs.Math.Nat.{div-mul-le_self, lt-div-mul-add}
use Rattle.std.proofs.lemmas.Nat.{mul-le}
use Rattle.sgb_moves.proofs.starts.row_end.Goals as goal

-- a row in the middle of those that end between two places
middle : (low high row first last : ℕ) → 0 < row → first ≡ low / row → last ≡ (high - 1) / row → first < last → low + 1 < high
    → (low < (first + (last - first + 1) / 2) * row) × ((first + (last - first + 1) / 2) * row < high)
middle low high row first last some begins ends apart room =
    let m = first + (last - first + 1) / 2 in
    let up : (first + 1) * row ≤ m * row = mul-le (first + 1) row m row (omega arith) (omega arith) in
    let down : m * row ≤ last * row = mul-le m row last row (omega arith) (omega arith) in
    let under : low < first * row + row = rw begins (lt-div-mul-add some) in
    let over : last * row ≤ high - 1 = rw ends (div-mul-le_self (high - 1) row) in (omega (arith, up, under), omega (arith, down, over))

pub overflow_sub-result : goal.overflow_sub-result
overflow_sub-result c = omega (arith, c.longest_row-row.ensures.ends)

pub overflow_mul-result : goal.overflow_mul-result
overflow_mul-result c = record { fits = omega (arith, c.ranges.high, (middle c.args.low c.args.high c.longest_row-row.result _ _ c.longest_row-row.ensures.some refl refl c.longest_row-row.ensures.ends c.requires).1) }

pub returns-clause-after : goal.returns-clause-after
returns-clause-after c = (middle c.args.low c.args.high c.longest_row-row.result _ _ c.longest_row-row.ensures.some refl refl c.longest_row-row.ensures.ends c.requires).0

pub returns-clause-before : goal.returns-clause-before
returns-clause-before c = (middle c.args.low c.args.high c.longest_row-row.result _ _ c.longest_row-row.ensures.some refl refl c.longest_row-row.ensures.ends c.requires).1
