-- The earlier lines at each vertex, so that a line of an undirected graph is compared only with those it may meet [GB_BASIC, lines].
use Rattle.std.specs.Prelude.{ℕ, ◌==◌, Bool, not, ◌||◌, List, [], map, filter, slice_index_or}
use Rattle.std.specs.List.{enumerate_from}
use Rattle.smallvec.specs.SmallVec.{SmallVec}
use Rattle.sgb_ops.specs.declared.line_graphs.line.Line.{Line}
use Rattle.sgb_ops.specs.inner.Lines.{no_line}

-- list number w of several
abbrev pub list_at : List (SmallVec ℕ) → ℕ → List ℕ
list_at lists w = slice_index_or (map (λ v. v.items) lists) w []

-- w is one of the ends of the line
abbrev pub touches : ℕ → Line → Bool
touches w line = (line.from == w) || (line.to == w)

-- those of the lines that have an end at w, with their numbers, the first of which is j
abbrev pub touching : ℕ → ℕ → List Line → List (ℕ × Line)
touching w j lines = filter (λ q. touches w q.1) (enumerate_from j lines)

-- their numbers
abbrev pub numbers_at : ℕ → List Line → List ℕ
numbers_at w lines = map (λ q. q.0) (touching w 0 lines)

-- whether line number j counts for line number i: each does, or only one that begins elsewhere
abbrev pub counts : Bool → List Line → ℕ → ℕ → Bool
counts elsewhere lines i j = not elsewhere || not ((slice_index_or lines j no_line).from == (slice_index_or lines i no_line).from)
