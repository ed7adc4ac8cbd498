use Rattle.sgb_vec.proofs.Common.{rules, ◌≡◌, Ok, false, to_z-of_z}
use Rattle.sgb_gen.specs.Boards.{board}
use Rattle.sgb_gen.specs.Generators.{made}
use Rattle.sgb_ops.specs.inner.Boards.{rim_of_wheel}
use Rattle.sgb_ops.proofs.RimEntries.{known_entry, known_stands}
use Rattle.sgb_ops.proofs.wheels.rim_entry.Goals as goal

pub returns-in-Some-clause-ok : goal.returns-in-Some-clause-ok
returns-in-Some-clause-ok c =
    let known : made (board (rim_of_wheel c.args.n false)) ≡ Ok c.in-Some.circle = search (rules, to_z-of_z) in
    rw c.if-directed.false (cc (known_entry (board (rim_of_wheel c.args.n false)) c.in-Some.circle known, c.circle.ensures))

pub returns-in-Some-clause-refused : goal.returns-in-Some-clause-refused
returns-in-Some-clause-refused c =
    let known : made (board (rim_of_wheel c.args.n false)) ≡ Ok c.in-Some.circle = search (rules, to_z-of_z) in
    rw c.if-directed.false (known_stands (board (rim_of_wheel c.args.n false)) c.in-Some.circle _ known)
