use Rattle.sgb_vec.proofs.Common.{rules, ◌==◌, arith, unwrap_or, take_rest, length-drop}
use Rattle.sgb_file.proofs.FirstPlaces.{found_later}
use Rattle.sgb_file.proofs.LinesLeftLemmas.{position-unwrapped}
use Rattle.sgb_file.proofs.scans.bytes_before.Goals as goal

pub loop-rest-preserved : goal.loop-rest-preserved
loop-rest-preserved c =
    let rest = c.loop-rest.rest.now in
    let later = found_later (λ b. b == c.args.byte) rest c.lanes_before-few.result (omega arith) c.lanes_before-few.ensures (omega arith) in
    rw (take_rest rest 16) (omega (arith, later, c.loop-rest.invariant.0), omega (arith, length-drop 16 rest))

pub returns : goal.returns
returns c = search (rules, position-unwrapped, unwrap_or)
