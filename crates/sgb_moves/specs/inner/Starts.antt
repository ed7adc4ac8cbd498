-- Ranges of the starts of edges, and the order of starts.
use Rattle.std.specs.Prelude.{◌≡◌, ◌⊎◌, ◌<◌, ◌≤◌, ◌+◌, ◌-◌, ◌&&◌, ℕ, Bool, true, not, nat_lt}
use Rattle.std.specs.Ordering.{nat_cmp, ordering_then}
use Rattle.std.specs.declared.cmp.Ordering.{Ordering}
use Rattle.sgb_moves.specs.declared.start_ranges.StartRange.{StartRange}

-- the order of starts: by their vertices, then by their lengths
abbrev pub pair_cmp : ℕ × ℕ → ℕ × ℕ → Ordering
pair_cmp p q = ordering_then (nat_cmp p.0 q.0) (nat_cmp p.1 q.1)

-- a start is within a range
abbrev pub is_within : StartRange → ℕ × ℕ → Bool
is_within r s = (not (nat_lt s.0 r.low) && nat_lt s.0 r.high) && (nat_lt r.from s.1 && not (nat_lt r.to s.1))

-- how many vertices and lengths a range has
abbrev pub extent : StartRange → ℕ
extent r = (r.high - r.low) + (r.to - r.from)

-- a range is cut in two smaller ones: each of its starts is in one of them, and those of the first come before those of the other
pub record AreHalves (r a b : StartRange) : Type 0 where
  pub first : (s : ℕ × ℕ) → is_within a s ≡ true → is_within r s ≡ true
  pub second : (s : ℕ × ℕ) → is_within b s ≡ true → is_within r s ≡ true
  pub either : (s : ℕ × ℕ) → is_within r s ≡ true → (is_within a s ≡ true) ⊎ (is_within b s ≡ true)
  pub before : (s t : ℕ × ℕ) → is_within a s ≡ true → is_within b t ≡ true → (s.0 < t.0) ⊎ ((s.0 ≡ t.0) × (s.1 < t.1))
  pub first_less : extent a < extent r
  pub second_less : extent b < extent r

-- a range has one start at most
abbrev pub IsOne : StartRange → Type 0
IsOne r = (r.high ≤ r.low + 1) × (r.to ≤ r.from + 1)
