use Rattle.std.proofs.Common.{◌≡◌, ◌+◌, ◌-◌, ◌%◌, ◌^◌, ◌<◌, ℕ, arith}
use Rattle.sgb_gen.proofs.accepted.subsets.pair_sums.count_with.Goals as goal

-- all but those of two parts, without the same of a smaller one
without : (corner inner all left right part in_left in_right A L R I IL IR : ℕ) → inner < 2 ^ 64
    → (corner + left + right) % 2 ^ 64 ≡ all % 2 ^ 64 → (inner + in_left + in_right) % 2 ^ 64 ≡ part % 2 ^ 64
    → all ≡ A % 2 ^ 64 → left ≡ L % 2 ^ 64 → right ≡ R % 2 ^ 64 → part ≡ I % 2 ^ 64 → in_left ≡ IL % 2 ^ 64 → in_right ≡ IR % 2 ^ 64
    → ((corner + (2 ^ 64 - inner)) % 2 ^ 64 + (R + L + I)) % 2 ^ 64 ≡ (A + IR + IL) % 2 ^ 64
without corner inner all left right part in_left in_right A L R I IL IR small outer within a l r i il ir = omega arith

pub returns : goal.returns
returns c size_bits bounds so =
    without c.corner.result c.corner-2.result _ _ _ _ _ _ _ _ _ _ _ _ c.corner-2.type_inv c.corner.ensures c.corner-2.ensures
    (c.pairs_below-all.ensures size_bits bounds so)
    (c.pairs_below-lesser_first.ensures size_bits bounds (λ i j h k. so i j (omega (arith, c.requires.first)) k))
    (c.pairs_below-lesser_second.ensures size_bits bounds (λ i j h k. so i j h (omega (arith, c.requires.second))))
    (c.pairs_below-inner.ensures size_bits bounds (λ i j h k. so i j (omega arith) (omega arith)))
    (c.pairs_below-inner_first.ensures size_bits bounds (λ i j h k. so i j (omega (arith, c.requires.first)) (omega arith)))
    (c.pairs_below-inner_second.ensures size_bits bounds (λ i j h k. so i j (omega arith) (omega (arith, c.requires.second))))
