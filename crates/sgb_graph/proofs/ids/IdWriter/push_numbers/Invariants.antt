use Rattle.std.proofs.Common.{◌≡◌, ◌+◌, ◌*◌, ◌++◌, ◌≤◌, length, take}
use Rattle.sgb_graph.specs.IdTexts.{numbers_text}
use Rattle.sgb_graph.proofs.ids.IdWriter.push_numbers.Given as goal

-- the numbers so far have been put
abbrev pub invariant-loop-number : goal.invariant-loop-number
invariant-loop-number l =
    (l.self ≡ l.fn.self ++ numbers_text (take l.number-index l.numbers))
    × (length l.self ≤ length l.fn.self + 21 * l.number-index)
