-- Generators whose answers take no memory.
use Rattle.std.specs.Prelude.{◌⊎◌}
use Rattle.sgb_vec.specs.declared.panics.Panic.{Panic}
use Rattle.sgb_gen.specs.declared.params.Generator.{Generator}
use Rattle.sgb_requests.specs.declared.requests.Resume.{Resume}
use Rattle.sgb_gen.specs.Generators.{IsAcceptedAtOnce, IsGeneratorRefused}
use Rattle.sgb.specs.Certain.{IsListedAtOnce}

-- a generator is refused by what needs no memory
abbrev pub IsRefusedGenerator : Generator → Type 0
IsRefusedGenerator f = (code : Panic) × IsGeneratorRefused f code

-- the names of its graph need no memory: it is accepted without, or is refused so
abbrev pub HasNamesAtOnce : Generator → Type 0
HasNamesAtOnce f = IsAcceptedAtOnce f ⊎ IsRefusedGenerator f

-- the listing of its graph needs no memory, or the generator is refused so
abbrev pub HasListingAtOnce : Generator → Resume → Type 0
HasListingAtOnce f resume = IsListedAtOnce f resume ⊎ IsRefusedGenerator f
