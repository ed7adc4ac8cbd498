use Rattle.std.proofs.Common.{◌≡◌, ◌+◌, ◌≤◌, ◌==◌, ℕ, take, count_by}
use Rattle.sgb_expr.proofs.measure.is_deep.Given as goal

abbrev pub invariant-loop-byte : goal.invariant-loop-byte
invariant-loop-byte l = record {
  opened : l.opened ≡ count_by (λ byte. byte == 40) (take l.byte-index l.text);
  closed : l.closed ≡ count_by (λ byte. byte == 41) (take l.byte-index l.text);
  shallow : (k : ℕ) → k ≤ l.byte-index → count_by (λ byte. byte == 40) (take k l.text) ≤ count_by (λ byte. byte == 41) (take k l.text) + 64;
}
