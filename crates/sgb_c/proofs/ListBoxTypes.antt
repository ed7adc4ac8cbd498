-- The types that a box of an `EntryList` is taken apart and made again at: those of a call of a generic function.
use Rattle.std.proofs.Common.{[], ◌∷◌, refl}
use mir.Syntax.{Dict, impl, tnil, tcons, dnil}
use mir.Raw.{raw as bare}
use denote.Exit.{no}
use denote.RattleType.{RattleType}
use denote.Param.{layout, arg}
use denote.Param.Laws.{Laws, arg_laws}
use Rattle.std.specs.contracts.alloc.Global as global
use Rattle.std.proofs.alloc.Global.TheLaws as global_laws
use Rattle.std.specs.contracts.impls.GlobalAllocator.TheImpl.{ghosts, dict}
use Rattle.std.proofs.BoxSteps.Form as box
use Rattle.sgb_c.specs.contracts.entry_lists.EntryList as item
use Rattle.sgb_c.proofs.entry_lists.EntryList.TheLaws as item_laws

-- an `EntryList`
abbrev pub X : RattleType
X = arg (bare (layout item.the_row)) no item.the_row

pub LX : Laws X
LX = arg_laws (bare (layout item.the_row)) no item.the_row item_laws.the_row_laws refl

-- the allocator
abbrev pub Z : RattleType
Z = arg (bare (layout global.the_row)) no global.the_row

pub LZ : Laws Z
LZ = arg_laws (bare (layout global.the_row)) no global.the_row global_laws.the_row_laws refl

-- what drops it
abbrev pub drops : Dict
drops = impl ("sgb_c::Destruct++none::drop" ∷ []) (tcons (layout Z) tnil) dnil

-- the box
abbrev pub E : box.Bx
E = record { row = X; laws = LX; al = record { row = Z; laws = LZ; g = ghosts; d = dict; drops = drops } }
