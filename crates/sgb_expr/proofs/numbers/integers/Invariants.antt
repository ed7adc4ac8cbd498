use Rattle.std.proofs.Common.{◌≡◌, ◌-◌, ◌<◌, ◌^◌, ℕ, pos, length, take, nat_abs, slice_index_or}
use Rattle.sgb_expr.specs.inner.Readings.{integers_at, separator_before}
use Rattle.sgb_text.proofs.Readers.{with_first}
use Rattle.sgb_expr.proofs.numbers.integers.Given as goal

abbrev pub invariant-loop-place : goal.invariant-loop-place
invariant-loop-place g l = record {
  count : length l.numbers ≡ l.place-end;
  read : with_first (take l.place l.numbers) (integers_at (separator_before l.place l.separator) (l.place-end - l.place) l.end l.rest)
      ≡ integers_at l.separator l.place-end l.end l.text;
  bound : (k : ℕ) → k < l.place → nat_abs (slice_index_or l.numbers k (pos 0)) < 10 ^ 18;
}
