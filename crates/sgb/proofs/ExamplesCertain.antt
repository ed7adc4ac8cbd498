-- What is answered whatever memory there is: requests of which it holds, and of which it does not.
use Rattle.std.specs.Prelude.{◌≡◌, ◌≤◌, ℕ, ℤ, pos, negsuc, Bool, true, false, List, [], length, Some, Result, Ok, Err, refl}
use Rattle.std.proofs.Common.{arith, ap, inl, inr, subst}
use Rattle.std.proofs.lemmas.Bool.{leb-true}
use Rattle.std.specs.Fmt.{digits}
use Rattle.sgb_vec.specs.Boxes.{box}
use Rattle.sgb_vec.specs.Names.{name_of_vector}
use Rattle.sgb_vec.specs.Sizes.{repeated}
use Rattle.sgb_vec.specs.declared.panics.Panic.{Panic}
use Rattle.sgb_vec.specs.declared.panics.Panic.TheVariants.{Bad}
use Rattle.sgb_graph.specs.Draws.{plain_draws}
use Rattle.sgb_graph.specs.Events.{list_from}
use Rattle.sgb_graph.specs.Graphs.{GraphData}
use Rattle.sgb_graph.specs.Vertices.{names_of}
use Rattle.sgb_gen.specs.Boards.{board, board_id}
use Rattle.sgb_moves.specs.Displacements.{displacements, vectors_of_norm}
use Rattle.sgb_gen.specs.Generators.{made}
use Rattle.sgb_moves.specs.Moves.{board_moves}
use Rattle.sgb_gen.specs.VectorGraphs.{family_graph}
use Rattle.sgb_gen.specs.declared.params.BoardParams.{BoardParams}
use Rattle.sgb_gen.specs.declared.params.Generator.{Generator}
use Rattle.sgb_gen.specs.declared.params.Generator.TheVariants as generator
use Rattle.sgb_expr.specs.Expression.{Stdin, expression_of}
use Rattle.sgb_expr.specs.declared.expressions.Expr.TheVariants as expr
use Rattle.sgb_requests.specs.declared.requests.Request.TheVariants as request
use Rattle.sgb_requests.specs.declared.requests.Resume.TheVariants as resume
use Rattle.sgb.specs.Certain.{IsCertain, IsListedAtOnce, IsPast, IsRefusedAtOnce, NeedsNoMemory}
use Rattle.sgb.specs.FlipAnswers.{number_lines}
use Rattle.sgb.specs.Runs.{Left}

-- board(2,2,0,0,1,wrap,0)
abbrev squares : ℤ → BoardParams
squares wrap = record { n1 = pos 2; n2 = pos 2; n3 = pos 0; n4 = pos 0; piece = pos 1; wrap = wrap; directed = false }

abbrev ring : Generator
ring = generator.Board (squares (pos 0))

-- simplex(n,1,0,1,0,0,0), of one bound
abbrev line : ℤ → Generator
line n = generator.Simplex (record { n = n; n0 = pos 1; n1 = pos 0; n2 = pos 1; n3 = pos 0; n4 = pos 0; directed = false })

-- simplex(2,1,1,0,0,0,0), of two bounds
abbrev two : Generator
two = generator.Simplex (record { n = pos 2; n0 = pos 1; n1 = pos 1; n2 = pos 0; n3 = pos 0; n4 = pos 0; directed = false })

-- subsets(2,1,0,1,0,0,0x6,0)
abbrev sets : Generator
sets = generator.Subsets (record { n = pos 2; n0 = pos 1; n1 = pos 0; n2 = pos 1; n3 = pos 0; n4 = pos 0; size_bits = 6; directed = false })

-- ---- refused at once

pub negative_refused : IsRefusedAtOnce (expression_of (expr.Generator (line (negsuc 0))))
unfolding repeated
negative_refused = record { unread = refl; code = Bad; refused = λ input. refl }

-- what reads input is not refused before it is read
pub input_first : IsRefusedAtOnce Stdin → ⊥
input_first is = let e : true ≡ false = is.unread in absurd cc

-- ---- listed at once

-- how many vertices a graph has
abbrev count : Result GraphData Panic → ℕ
count (Ok g) = length (names_of g)
count (Err p) = 0

-- a board after its last vertex
pub past_ring : IsListedAtOnce ring (resume.Skip 5)
unfolding box repeated digits name_of_vector displacements vectors_of_norm board_moves board_id family_graph list_from
past_ring g is = inr (λ e. absurd cc, (5, refl, subst (λ n. n ≤ 5) (ap count is) (leb-true 4 5 refl)))

-- no board from its first
pub whole_board : (p : BoardParams) (g : GraphData) → made (board p) ≡ Ok g → IsListedAtOnce (generator.Board p) resume.Whole → ⊥
whole_board p g is listed = from_first (names_of g) (listed g is)
  where
    from_first : (names : List (List ℕ)) → IsPast names resume.Whole → ⊥
    from_first names (inl e) = absurd cc
    from_first names (inr (other, more)) = absurd (other refl)

-- a simplex of one bound, and subsets of one bound
pub one_bound : IsListedAtOnce (line (pos 2)) resume.Whole × IsListedAtOnce sets resume.Whole
unfolding repeated
one_bound = (omega arith, omega arith)

-- of two bounds the head may want memory, and no clause knows whether there is one
pub two_bounds : IsListedAtOnce two (resume.Skip 1) → ⊥
unfolding repeated
two_bounds is = absurd (omega (arith, is))

-- ---- requests that need no memory

pub need_none :
    NeedsNoMemory (request.Names (expr.Generator ring) resume.Whole) × NeedsNoMemory (request.List (expr.Generator ring) (resume.Skip 5))
    × NeedsNoMemory (request.Save (expr.Generator (line (negsuc 0)))) × NeedsNoMemory (request.Flip (record { start = pos 1; skip = pos 5; count = pos 0; m = pos 0 }))
need_none = (inl (ring, refl, tt), inl (ring, refl, past_ring), negative_refused, tt)

pub queen_needs_some : NeedsNoMemory request.Queen → ⊥
queen_needs_some is = is

pub stdin_needs_some : NeedsNoMemory (request.Save expr.Stdin) → ⊥
stdin_needs_some is = input_first is

-- ---- answers that are certain

-- what a run leaves that wrote nothing
abbrev nothing_written : Bool → ℕ → Left (List ℕ)
nothing_written failed status = record {
  out = record { old = []; new = []; told = record { before = Some []; after = Some []; failed = failed } };
  err = record { before = Some []; after = Some []; failed = false };
  status = status;
}

-- flip(1,5,0,0), whose output has no line
pub no_numbers : IsCertain (request.Flip (record { start = pos 1; skip = pos 5; count = pos 0; m = pos 0 })) (nothing_written false 0)
unfolding plain_draws number_lines
no_numbers needs sound stdin = record { output = refl; line = refl; exit = refl }

pub other_status : IsCertain (request.Flip (record { start = pos 1; skip = pos 5; count = pos 0; m = pos 0 })) (nothing_written false 1) → ⊥
unfolding plain_draws number_lines
other_status is = let e : ◌≡◌ {A = ℕ} 1 0 = (is tt refl (Err Bad)).exit in absurd cc

-- where the output has failed nothing is said
pub failed_output : IsCertain (request.Flip (record { start = pos 1; skip = pos 5; count = pos 0; m = pos 0 })) (nothing_written true 3)
failed_output needs sound stdin = absurd cc
