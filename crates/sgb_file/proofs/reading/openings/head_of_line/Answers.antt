use Rattle.std.proofs.Common.{◌≡◌, true, nat_le, refl}
use Rattle.sgb_vec.specs.Limits.{most_vertices}
use Rattle.sgb_file.proofs.NumberReading.{at_most_passes}
use Rattle.sgb_file.proofs.reading.openings.head_of_line.Goals as goal

pub returns-in_err-kinds-clause-head : goal.returns-in_err-kinds-clause-head
returns-in_err-kinds-clause-head c = rw (c.from_residual-in_err-kinds.ensures, ← c.in_ok-letters.ensures, ← c.in_err-kinds.ensures) refl

pub returns-in_err-after_prefix-clause-head : goal.returns-in_err-after_prefix-clause-head
returns-in_err-after_prefix-clause-head c = rw (c.from_residual-in_err-after_prefix.ensures, ← c.in_ok-letters.ensures, ← c.in_ok-kinds.ensures, ← c.in_err-after_prefix.ensures) refl

pub returns-in_err-vertices-clause-head : goal.returns-in_err-vertices-clause-head
returns-in_err-vertices-clause-head c = rw (c.from_residual-in_err-vertices.ensures, ← c.in_ok-letters.ensures, ← c.in_ok-kinds.ensures, ← c.in_ok-after_prefix.ensures, ← c.in_err-vertices.ensures.value) refl

pub returns-in_err-after_prefix-2-clause-head : goal.returns-in_err-after_prefix-2-clause-head
returns-in_err-after_prefix-2-clause-head c = rw (c.from_residual-in_err-after_prefix-2.ensures, ← c.in_ok-letters.ensures, ← c.in_ok-kinds.ensures, ← c.in_ok-after_prefix.ensures, ← c.in_ok-vertices.ensures.value, ← c.in_err-after_prefix-2.ensures) refl

pub returns-in_err-arcs-clause-head : goal.returns-in_err-arcs-clause-head
returns-in_err-arcs-clause-head c = rw (c.from_residual-in_err-arcs.ensures, ← c.in_ok-letters.ensures, ← c.in_ok-kinds.ensures, ← c.in_ok-after_prefix.ensures, ← c.in_ok-vertices.ensures.value, ← c.in_ok-after_prefix-2.ensures, ← c.in_err-arcs.ensures.value) refl

pub returns-in_err-_anything-clause-head : goal.returns-in_err-_anything-clause-head
returns-in_err-_anything-clause-head c = rw (c.from_residual-in_err-_anything.ensures, ← c.in_ok-letters.ensures, ← c.in_ok-kinds.ensures, ← c.in_ok-after_prefix.ensures, ← c.in_ok-vertices.ensures.value, ← c.in_ok-after_prefix-2.ensures, ← c.in_ok-arcs.ensures.value, ← c.in_err-_anything.ensures) refl

pub returns-clause-head : goal.returns-clause-head
returns-clause-head c =
    let few : nat_le c.in_ok-vertices.vertices most_vertices ≡ true = at_most_passes _ _ (rw c.from.ensures at c.if-vertices-from.false) in
    rw (← c.in_ok-letters.ensures, ← c.in_ok-kinds.ensures, ← c.in_ok-after_prefix.ensures, ← c.in_ok-vertices.ensures.value, ← c.in_ok-after_prefix-2.ensures, ← c.in_ok-arcs.ensures.value, ← c.in_ok-_anything.ensures, few) refl
