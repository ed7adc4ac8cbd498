-- Arrays that a run fits into, and why they are not filled, of the three vertices a bc d.
use Rattle.std.specs.Prelude.{◌≡◌, ◌≤◌, ℕ, pos, [], ◌∷◌, codes, refl}
use Rattle.std.proofs.Common.{arith, inl, inr}
use Rattle.sgb_graph.specs.Graphs.{GraphData, numbers_from}
use Rattle.sgb_arrays.proofs.Examples.Rows.{graph}
use Rattle.sgb_arrays.specs.OpenGraphs.{IsFileRefusal, IsListed}
use Rattle.sgb_arrays.specs.Runs.{AreTips, HaveNameLengths, HaveRowLengths, HaveTipLengths, IsFillRefusal, IsRunRefusal, IsSizeRefusal, IsThere, part_starts, parts_of}
use Rattle.sgb_arrays.specs.declared.open_graphs.OpenGraph.TheVariants.{Built}
use Rattle.sgb_arrays.specs.declared.refusals.Wrong.TheVariants as wrong

-- the last two are there; of two from the last on one is not
pub are_there : IsThere graph 0 1 × IsThere graph 1 2
are_there = (omega arith, omega arith)

pub not_there : IsThere graph 2 2 → ⊥
not_there is = let many : 4 ≤ 3 = is in absurd (omega (arith, many))

pub run_refusals : IsRunRefusal graph 2 2 wrong.Vertices × IsRunRefusal graph 1 2 wrong.NoRoom
run_refusals = (inl (refl, not_there), inr refl)

-- the first vertex has two arcs and a name of one byte
pub row_lengths : HaveRowLengths graph 0 1 (9 ∷ 9 ∷ []) (9 ∷ 9 ∷ []) (pos 9 ∷ pos 9 ∷ []) × HaveTipLengths graph 0 1 (9 ∷ 9 ∷ []) (9 ∷ 9 ∷ [])
unfolding numbers_from parts_of
row_lengths = (record { starts_fit = refl; tips_fit = refl; lengths_fit = refl }, record { starts_fit = refl; tips_fit = refl })

pub name_lengths : HaveNameLengths graph 0 1 (9 ∷ 9 ∷ []) (9 ∷ [])
unfolding parts_of
name_lengths = record { starts_fit = refl; bytes_fit = refl }

pub first_tips : AreTips graph 0 1 (0 ∷ 2 ∷ []) (2 ∷ 1 ∷ [])
unfolding part_starts numbers_from parts_of
first_tips = record { starts_are = refl; tips_are = refl }

-- where no arrays fit and memory is taken
pub fill_refusals : IsFillRefusal graph 2 2 ⊥ (Unit {0}) wrong.Vertices × IsFillRefusal graph 1 2 ⊥ (Unit {0}) wrong.Length
    × IsFillRefusal graph 1 2 ⊥ (Unit {0}) wrong.NoRoom
fill_refusals = (not_there, (omega arith, λ no. no), (omega arith, tt))

pub no_other_fill : IsFillRefusal graph 1 2 ⊥ (Unit {0}) wrong.Field → ⊥
no_other_fill is = is

-- a size needs no arrays
pub size_refusals : IsSizeRefusal graph 2 2 (Unit {0}) wrong.Vertices × IsSizeRefusal graph 1 2 (Unit {0}) wrong.NoRoom
size_refusals = (not_there, (omega arith, tt))

pub no_size_refusal : IsSizeRefusal graph 1 2 (Unit {0}) wrong.Length → ⊥
no_size_refusal is = is.1 tt

-- a graph that is built is not listed; its file is refused for memory alone, where it takes any
pub built : IsListed (Built graph) → ⊥
built is = is

pub file_refusal : IsFileRefusal graph 0 (Unit {0}) wrong.NoRoom
file_refusal = tt

pub no_file_refusal : IsFileRefusal graph 0 (Unit {0}) wrong.Field → ⊥
no_file_refusal is = is
