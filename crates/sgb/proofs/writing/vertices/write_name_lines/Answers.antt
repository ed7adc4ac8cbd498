use Rattle.std.proofs.Common.{rules, [], arith}
use Rattle.std.proofs.lemmas.List.{length-map}
use Rattle.sgb_graph.specs.Vertices.{names_of}
use Rattle.sgb.specs.Texts.{name_lines}
use Rattle.sgb.proofs.Listings.{name_lines-min, name_lines-none, name_lines-next}
use Rattle.sgb.proofs.CutOff.{exit_write}
use Rattle.sgb.proofs.Pages.{paged_all, paged_begun, paged_more, written_held, exit_begun}
use Rattle.sgb.proofs.writing.vertices.write_name_lines.Goals as goal

pub loop-v-init : goal.loop-v-init
loop-v-init g c = search (rules, names_of, length-map, name_lines-min, name_lines, paged_begun)

pub returns-in_err-push_name_line : goal.returns-in_err-push_name_line
returns-in_err-push_name_line g c = record {
  written = exit_begun _ _ _ _ _ _ _ _ _ _ _ c.from_residual.ensures.1 c.loop-v.invariant.0 c.in_err-push_name_line.ensures.paged (name_lines-next c.args.graph.now c.loop-v.v (omega (arith, c.n-end.ensures.count)));
  fault = exit_write _ _ c.from_residual.ensures.1 c.in_err-push_name_line.ensures.fault;
}

pub loop-v-preserved : goal.loop-v-preserved
loop-v-preserved g c =
    (paged_more _ _ _ _ [] _ _ _ _ _ (name_lines-next c.args.graph.now c.loop-v.v (omega (arith, c.n-end.ensures.count))) c.loop-v.invariant.0 c.in_ok-push_name_line.ensures.paged.output, c.in_ok-push_name_line.ensures.paged.sound)

pub returns-clause-written : goal.returns-clause-written
returns-clause-written g c = search (rules, names_of, length-map, written_held, paged_all, name_lines-none)
