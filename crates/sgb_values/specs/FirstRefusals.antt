-- Refusals of expressions that come before memory is taken.
use Rattle.std.specs.Prelude.{◌≡◌, ◌⊎◌, ◌≤◌, ◌<◌, ℕ, List, length, Err}
use Rattle.sgb_vec.specs.declared.panics.Panic.{Panic}
use Rattle.sgb_vec.specs.declared.panics.Panic.TheVariants.{Early, Syntax}
use Rattle.sgb_file.specs.Refused.{HasNoOpening}
use Rattle.sgb_gen.specs.Generators.{IsGeneratorRefused}
use Rattle.sgb_ops.specs.BiComplete.{accepted_parts}
use Rattle.sgb_ops.specs.Wheel.{accepted_rim}
use Rattle.sgb_expr.specs.Expression.{Expression, Generated, OfNumbers, OfGraph, OfGraphs, Induced, Stdin, OnNumbers, BiComplete, Wheel}
use Rattle.sgb_values.specs.Values.{most_input}

-- standard input is refused before a record of it is read: it is too long, or no file begins so
abbrev pub IsInputRefused : List ℕ → Panic → Type 0
IsInputRefused input code =
    ((most_input < length input) × (code ≡ Syntax))
    ⊎ ((length input ≤ most_input) × HasNoOpening input × (code ≡ Early))

-- an operation on numbers is refused with this code for what they are, before memory is taken
abbrev pub AreNumbersRefused : OnNumbers → Panic → Type 0
AreNumbersRefused (BiComplete n1 n2 directed) code = accepted_parts n1 n2 ≡ Err code
AreNumbersRefused (Wheel n n1 directed) code = accepted_rim n n1 directed ≡ Err code

-- an expression is refused with this code before memory is taken, where this is standard input: its operand that is made first
-- is, or it has none, and its own numbers are
abbrev pub IsRefusedFirst : List ℕ → Expression → Panic → Type 0
IsRefusedFirst input (Generated f) code = IsGeneratorRefused f code
IsRefusedFirst input (OfNumbers operation) code = AreNumbersRefused operation code
IsRefusedFirst input (OfGraph operation e) code = IsRefusedFirst input e code
IsRefusedFirst input (OfGraphs operation e f) code = IsRefusedFirst input e code
IsRefusedFirst input (Induced e _ self_loops multi directed) code = IsRefusedFirst input e code
IsRefusedFirst input Stdin code = IsInputRefused input code
