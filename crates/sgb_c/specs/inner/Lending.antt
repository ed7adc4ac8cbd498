-- A graph that a handle lends where it lies.
use Rattle.std.specs.Prelude.{Option, Some, true, refl}
use Rattle.std.specs.Borrow.{Fml, Lends, LendsIf, MutBor}
use Rattle.sgb_c.specs.declared.handles.GraphHandle.{GraphHandle}
use Rattle.sgb_c.specs.declared.held.Held.{Held}
use Rattle.sgb_c.specs.declared.held.Loose.{Loose}
use Rattle.sgb_c.specs.contracts.handles.GraphHandle as handle
use Rattle.sgb_c.specs.contracts.held.Held as item
use Rattle.sgb_c.specs.contracts.held.Loose as loose

-- the pointer with this in place of what it held
abbrev pub with_held : Loose → Held → Loose
with_held p x = record { at = p.at; value = Some x }

-- the handle with this in place of what it held
abbrev pub with_graph : GraphHandle → Held → GraphHandle
with_graph h x = record { held = with_held h.held x; is_open = true; agrees = refl }

-- the pointer ends with the last value behind what is lent
abbrev pub LendsHeld : MutBor Loose → MutBor Held → Fml
LendsHeld p r = Lends loose.the_row item.the_row p r (with_held p.now)

-- the handle ends with the last value behind what is lent, and is as it was where nothing is
abbrev pub LendsGraph : MutBor GraphHandle → Option (MutBor Held) → Fml
LendsGraph h r = LendsIf handle.the_row item.the_row h r (with_graph h.now) h.now
