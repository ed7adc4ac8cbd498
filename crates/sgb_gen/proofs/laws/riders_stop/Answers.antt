use Rattle.sgb_gen.specs.inner.Laws.{RidersStop}
use Rattle.sgb_moves.proofs.Riders.{rider-stops, Contains-rider_reach}
use Rattle.sgb_gen.proofs.laws.riders_stop.Goals as goal

pub returns : goal.returns
returns c =
    let law : RidersStop = record { stops = rider-stops; lengths = Contains-rider_reach } in
    record { stops = law.stops; lengths = law.lengths }
