use Rattle.std.proofs.Common.{◌≡◌, ◌-◌, take, map, length}
use Rattle.sgb_arrays.proofs.packed_rows.put_starts.Given as goal

-- the starts before this place stand
abbrev pub invariant-loop-k : goal.invariant-loop-k
invariant-loop-k l = (take l.k l.starts ≡ map (λ start. start - l.from) (take l.k l.own)) × (length l.starts ≡ length l.own)
