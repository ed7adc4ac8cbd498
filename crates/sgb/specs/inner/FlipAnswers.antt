-- The numbers that a flip draws.
use Rattle.std.specs.Prelude.{ℕ, List}
use Rattle.sgb_graph.specs.Draws.{seed_of}
use Rattle.sgb.specs.FlipAnswers.{drawn_from}
use Rattle.sgb.specs.declared.writing.flips.Draws.{Draws}

-- the numbers drawn: after so many draws that are thrown away
abbrev pub drawn : Draws → List ℕ
drawn d = drawn_from (seed_of d.start) d.m d.skip d.count
