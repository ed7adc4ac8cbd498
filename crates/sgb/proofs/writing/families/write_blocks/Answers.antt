use Rattle.std.proofs.Common.{◌≡◌, ◌∙◌, ◌++◌, [], drop, length, refl, rules, List, ℕ, Some, ap, arith, sym}
use Rattle.std.proofs.lemmas.List.{length-drop}
use Rattle.std.proofs.lemmas.Option.{slice_get_within}
use Rattle.std.specs.List.{flat_map, slice_get}
use Rattle.sgb_vec.proofs.RangeSteps.{first_and_rest}
use Rattle.sgb_gen.specs.VectorGraphs.{VectorGraph}
use Rattle.sgb.specs.inner.Locals.{local_block}
use Rattle.sgb.proofs.CertainAnswers.{write_certain}
use Rattle.sgb.proofs.CutOff.{exit_write}
use Rattle.sgb.proofs.LocalListings.{rest_of_rest}
use Rattle.sgb.proofs.Pages.{paged_all, paged_begun, paged_more, written_held, exit_begun}
use Rattle.sgb.proofs.writing.families.write_blocks.Goals as goal

-- the block of the first vector that is left stands before the others, with the lists of the same graph
block_first : (graph lists : VectorGraph) (x : List ℕ) (left rest : List (List ℕ)) → lists ≡ graph → slice_get left 0 ≡ Some x → rest ≡ drop 1 left
    → flat_map (local_block graph) left ≡ local_block lists x ++ flat_map (local_block graph) rest
block_first graph lists x left rest same first after = rw (same, first_and_rest left rest x x first refl after) refl

pub loop-x-init : goal.loop-x-init
loop-x-init g c = (paged_begun _ _ _ _ refl c.requires.empty, c.requires.sound, c.requires.rest, refl, refl, omega arith)

pub loop-x-preserved : goal.loop-x-preserved
loop-x-preserved g c =
    let first = block_first (g.L.Listed.graph c.args.listed.now) _ c.in-Some.x.now c.loop-x.left _ c.loop-x.invariant.3 c.in-Some.ensures.first c.advance-some.ensures.rest in (
      paged_more _ _ _ _ [] _ _ _ _ _ first c.loop-x.invariant.0 c.in_ok-push_block.ensures.paged.output,
      c.in_ok-push_block.ensures.paged.sound,
      rest_of_rest _ c.loop-x.left c.advance-some.new.self c.loop-x.invariant.2 c.advance-some.ensures.rest,
      c.in_ok-push_block.ensures.same ∙ c.loop-x.invariant.3,
      c.in_ok-push_block.ensures.sort ∙ c.loop-x.invariant.4,
      omega (arith, ap length c.advance-some.ensures.rest, length-drop 1 c.loop-x.left, c.loop-x.invariant.5),
    )

pub returns-in_err-push_block-clause-written : goal.returns-in_err-push_block-clause-written
returns-in_err-push_block-clause-written g c =
    let first = block_first (g.L.Listed.graph c.args.listed.now) _ c.in-Some.x.now c.loop-x.left _ c.loop-x.invariant.3 c.in-Some.ensures.first refl in
    exit_begun _ _ _ _ _ _ _ _ _ _ _ c.from_residual.ensures.1 c.loop-x.invariant.0 c.in_err-push_block.ensures.paged first

pub returns-in_err-push_block-clause-fault : goal.returns-in_err-push_block-clause-fault
returns-in_err-push_block-clause-fault g c = λ other.
    exit_write _ _ c.from_residual.ensures.1 (c.in_err-push_block.ensures.fault (λ board. other (sym c.loop-x.invariant.4 ∙ board)))

-- where no vector was to come none comes
pub returns-in_err-push_block-clause-end : goal.returns-in_err-push_block-clause-end
returns-in_err-push_block-clause-end g c = λ none.
    absurd (omega (arith, slice_get_within c.loop-x.left 0 c.in-Some.x.now c.in-Some.ensures.first, ap length none, c.loop-x.invariant.5))

pub returns-clause-end : goal.returns-clause-end
returns-clause-end g c = λ none. write_certain _ c.put_page.ensures.fault

pub returns-clause-written : goal.returns-clause-written
returns-clause-written g c = written_held _ _ _ _ _ _ _ (paged_all _ _ [] _ _ _ (search rules) c.loop-x.invariant.0) c.put_page.ensures.written
