use Rattle.std.proofs.Common.{◌≡◌, ◌≤◌, ◌+◌, ◌*◌, ◌-◌, ◌++◌, drop, length, nat_lt, take}
use Rattle.sgb.specs.inner.Texts.{entries_text}
use Rattle.sgb.proofs.writing.numerals.Numerals.push_entries.Given as goal

-- the entries before this place have been put
abbrev pub invariant-loop-place : goal.invariant-loop-place
invariant-loop-place g l =
    (l.text ≡ l.fn.text ++ entries_text (nat_lt 0 l.from) (take (l.place - l.from) (drop l.from l.vector)))
    × (length l.text ≤ length l.fn.text + 11 * (l.place - l.from))
