use Rattle.std.proofs.Common.{rules, ◌≡◌, ◌∙◌, min, sym, ap, length, arith}
use Rattle.std.proofs.lemmas.List.{length-map}
use Rattle.sgb_graph.specs.Vertices.{names_of}
use Rattle.sgb.specs.Texts.{blocks}
use Rattle.sgb.proofs.Listings.{blocks-min, blocks-none, blocks-next}
use Rattle.sgb.proofs.CutOff.{exit_cut, exit_write}
use Rattle.sgb.proofs.Pages.{paged_all, paged_cut, paged_left, paged_more, written_held}
use Rattle.sgb.proofs.writing.listing.write_blocks.Goals as goal

pub loop-v-init : goal.loop-v-init
loop-v-init g c =
    let start : min c.args.from (length (names_of c.args.graph.now)) ≡ c.min-start.result =
    omega (arith, length-map c.args.graph.now.vertices (λ v. v.name), c.n-end.ensures.count, c.min-start.ensures, c.from.ensures) in
    (paged_left _ _ c.args.page.now _ (sym (blocks-min c.args.graph.now c.args.from) ∙ ap (blocks c.args.graph.now) start), c.requires)

pub returns-in_err-push_block : goal.returns-in_err-push_block
returns-in_err-push_block g c = record {
  written = exit_cut _ _ _ _ c.from_residual.ensures.1 (paged_cut _ _ _ _ _ _ _ _ _ _ _ (blocks-next c.args.graph.now c.loop-v.v (omega (arith, c.n-end.ensures.count))) c.loop-v.invariant.0 c.in_err-push_block.ensures.paged);
  fault = exit_write _ _ c.from_residual.ensures.1 c.in_err-push_block.ensures.fault;
}

pub loop-v-preserved : goal.loop-v-preserved
loop-v-preserved g c =
    (paged_more _ _ _ _ _ _ _ _ _ _ (blocks-next c.args.graph.now c.loop-v.v (omega (arith, c.n-end.ensures.count))) c.loop-v.invariant.0 c.in_ok-push_block.ensures.paged.output, c.in_ok-push_block.ensures.paged.sound)

pub returns-clause-written : goal.returns-clause-written
returns-clause-written g c = search (rules, names_of, length-map, written_held, paged_all, blocks-none)
