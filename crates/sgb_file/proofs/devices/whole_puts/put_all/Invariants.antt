-- What is gone from `rest` was taken, by a sink that has not failed; where nothing is gone, the sink is as it was.
use Rattle.sgb_vec.proofs.Common.{◌≡◌, ℕ, ◌<◌, List, ◌++◌, length, false, Appends}
use Rattle.sgb_file.proofs.devices.whole_puts.put_all.Given as goal

abbrev pub invariant-loop-rest : goal.invariant-loop-rest
invariant-loop-rest g l =
    ((done : List ℕ)
    × (l.initial.rest ≡ done ++ l.rest)
    × Appends (g.S.Sink.written l.initial.sink) (g.S.Sink.written l.sink) done
    × (0 < length done → g.S.Sink.has_failed l.sink ≡ false)
    × (length done ≡ 0 → l.sink ≡ l.initial.sink))
    × (g.S.Sink.has_failed l.sink ≡ g.S.Sink.has_failed l.initial.sink)

abbrev pub decreases-loop-rest : goal.decreases-loop-rest
decreases-loop-rest g l = length l.rest
