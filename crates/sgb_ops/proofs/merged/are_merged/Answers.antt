use Rattle.sgb_vec.proofs.Common.{◌≡◌, Bool, List, OnTrue_at, OnTrue_from, OnTrue}
use Rattle.sgb_graph.specs.Events.{Event}
use Rattle.sgb_ops.specs.Merged.{merged_unless}
use Rattle.sgb_ops.specs.inner.Merged.{HaveDifferentEnds}
use Rattle.sgb_ops.proofs.Apart.{merged_unless_same}
use Rattle.sgb_ops.proofs.merged.are_merged.Goals as goal

-- what is told of events with different ends is told of them as they are merged
same : (told multi : Bool) (events : List Event) → OnTrue told (HaveDifferentEnds events) → OnTrue told ((directed : Bool) → merged_unless multi directed events ≡ events)
same told multi events apart = OnTrue_from told ((directed : Bool) → merged_unless multi directed events ≡ events) (λ yes directed. merged_unless_same multi directed events (OnTrue_at yes apart))

pub returns-else-multi-clause-same : goal.returns-else-multi-clause-same
returns-else-multi-clause-same c = same c.are_apart.result c.args.multi c.args.events.now c.are_apart.ensures
