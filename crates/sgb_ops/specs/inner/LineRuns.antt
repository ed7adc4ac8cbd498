-- How many lines begin at a vertex, and there or later: so the lines that begin at one vertex are found as a run [GB_BASIC, lines].
use Rattle.std.specs.Prelude.{ℕ, ◌==◌, not, List, length, filter, nat_lt}
use Rattle.sgb_ops.specs.declared.line_graphs.line.Line.{Line}

-- how many of the lines begin at w
abbrev pub begin_at : ℕ → List Line → ℕ
begin_at w lines = length (filter (λ l. l.from == w) lines)

-- how many begin at w or at a later vertex
abbrev pub begin_from : ℕ → List Line → ℕ
begin_from w lines = length (filter (λ l. not (nat_lt l.from w)) lines)
