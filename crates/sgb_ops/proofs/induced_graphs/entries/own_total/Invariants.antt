use Rattle.std.proofs.Common.{◌≡◌, ◌≤◌, ◌*◌, All, take}
use Rattle.sgb_ops.specs.inner.Copies.{IsKeptEntry}
use Rattle.sgb_ops.specs.inner.Entries.{own_total}
use Rattle.sgb_ops.proofs.induced_graphs.entries.own_total.Given as goal

-- the entries so far are counted, and sound
abbrev pub invariant-loop-v : goal.invariant-loop-v
invariant-loop-v l =
    (l.total ≡ own_total (take l.v l.entries))
    × (l.total ≤ l.v * 4_294_967_295)
    × All IsKeptEntry (take l.v l.entries)
