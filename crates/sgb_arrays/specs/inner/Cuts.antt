-- Lists that stand one after another in arrays, cut down to those of a run.
use Rattle.std.specs.Prelude.{ℕ, ◌+◌, ◌-◌, List, map, slice_index, slice_range}

-- where the lists of the run start, counted from where the first of them does
abbrev pub starts_cut : List ℕ → ℕ → ℕ → List ℕ
starts_cut starts first count =
    map (λ start. start - slice_index starts first) (slice_range starts first (first + count + 1))

-- how many arcs are on the lists of the run
abbrev pub arcs_cut : List ℕ → ℕ → ℕ → ℕ
arcs_cut starts first count = slice_index starts (first + count) - slice_index starts first

-- what the arrays say of the arcs on them
abbrev pub values_cut : {X : Type 0} → List X → List ℕ → ℕ → ℕ → List X
values_cut values starts first count =
    slice_range values (slice_index starts first) (slice_index starts (first + count))
