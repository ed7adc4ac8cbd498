-- What it means that two events have the same ends.
use Rattle.sgb_vec.proofs.Common.{◌≡◌, ◌⊎◌, ◌==◌, ◌&&◌, ℕ, Bool, true, false, arith, and_parts, or_cases, eqb-true, nat_tests}
use Rattle.std.proofs.Math.Bool.{or-false}
use Rattle.sgb_graph.specs.Events.{Event}
use Rattle.sgb_taken.specs.inner.Ends.{ends_key}
use Rattle.sgb_ops.specs.Merged.{has_ends_of}

-- two pairs of numbers are the same
abbrev pub has_same_pair : ℕ × ℕ → ℕ × ℕ → Bool
has_same_pair p q = (p.0 == q.0) && (p.1 == q.1)

-- the same ends in the same order
pub record SameWay (e f : Event) : Type 0 where
  pub from : f.from ≡ e.from
  pub to : f.to ≡ e.to

-- or in the other order
pub record OtherWay (directed : Bool) (e f : Event) : Type 0 where
  pub edges : directed ≡ false
  pub from : f.from ≡ e.to
  pub to : f.to ≡ e.from

pub ends : (directed : Bool) (e f : Event) → has_ends_of directed e f ≡ true → SameWay e f ⊎ OtherWay directed e f
ends directed e f h = grind (arith, or_cases, and_parts, eqb-true)

-- each event has its own ends
pub own_ends : (directed : Bool) (e : Event) → has_ends_of directed e e ≡ true
own_ends directed e = grind (arith, nat_tests)

-- two events have each other's ends
pub ends_turned : (directed : Bool) (e f : Event) → has_ends_of directed e f ≡ true → has_ends_of directed f e ≡ true
ends_turned directed e f h = grind (arith, nat_tests)

-- those of an event that has the ends of another
pub ends_joined : (directed : Bool) (e f g : Event) → has_ends_of directed e f ≡ true → has_ends_of directed f g ≡ true → has_ends_of directed e g ≡ true
ends_joined directed e f g one two = grind (arith, nat_tests)

-- the keys of two events are the same where they have the same ends
pub key_tells : (directed : Bool) (e f : Event) → has_same_pair (ends_key directed f) (ends_key directed e) ≡ has_ends_of directed e f
key_tells directed e f = grind (arith, or-false, nat_tests)
