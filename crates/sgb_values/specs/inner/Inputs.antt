-- What an evaluation leaves of standard input.
use Rattle.std.specs.Prelude.{ℕ, Bool, true, false, List, []}

-- what is left after something is evaluated: nothing where it reads the input and no more comes that does
abbrev pub left_after : Bool → Bool → List ℕ → List ℕ
left_after false true input = []
left_after false false input = input
left_after true reads input = input
