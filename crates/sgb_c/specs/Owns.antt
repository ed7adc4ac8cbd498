-- What a handle owns.
use Rattle.std.specs.Prelude.{Option, Some, None}
use Rattle.std.specs.Box.Ownership.{box_owns}
use Rattle.std.specs.contracts.impls.GlobalAllocator.TheImpl.{ghosts}
use base.Fml.{Fml, ftrue}
use mir.Syntax.{Ty}
use denote.RattleType.{RattleType}
use denote.RawPtr.{Ptr}

-- the right to give a block of the C library's heap back, of which one is as the other
abbrev pub gives_back : Ty → Ptr → Fml
gives_back = ghosts.dealloc_token (record { memory = record { seal = tt } })

-- ownership of the value at a pointer, in a block of the C library's heap, where there is one
abbrev pub owns_if : (R : RattleType) → Ptr → Option R.Denot → Fml
owns_if R p None = ftrue
owns_if R p (Some x) = box_owns gives_back R p x
