use Rattle.std.proofs.Common.{◌≤◌, ◌<◌, length, arith}
use Rattle.std.proofs.lemmas.List.{length-map}
use Rattle.sgb_graph.specs.Vertices.{names_of}
use Rattle.sgb_file.proofs.SoFar.{so_far-all, so_far-more, so_far-none}
use Rattle.sgb.proofs.CutOff.{exit_cut, exit_write, so_far-cut}
use Rattle.sgb_levels.proofs.LevelAnswers.{level_lines-first, level_lines-none}
use Rattle.sgb_levels.proofs.runs.write_lines.Goals as goal

pub loop-v-init : goal.loop-v-init
loop-v-init g c = (so_far-none _ _, c.requires.sound)

pub returns-in_err-write_vertex-clause-written : goal.returns-in_err-write_vertex-clause-written
returns-in_err-write_vertex-clause-written g c =
    let names = names_of c.args.graph.now in
    let within : c.loop-v.v < length names = omega (arith, length-map c.args.graph.now.vertices (λ v. v.name), c.n-v-end.ensures.count) in
    exit_cut _ _ _ _ c.from_residual.ensures.1 (so_far-cut _ _ _ _ _ _ _ _ _ (level_lines-first names c.args.distances.now c.loop-v.v within) c.loop-v.invariant.0 c.in_err-write_vertex.ensures.written)

pub loop-v-preserved : goal.loop-v-preserved
loop-v-preserved g c =
    let names = names_of c.args.graph.now in
    let within : c.loop-v.v < length names = omega (arith, length-map c.args.graph.now.vertices (λ v. v.name), c.n-v-end.ensures.count) in
    (so_far-more _ _ _ _ _ _ _ (level_lines-first names c.args.distances.now c.loop-v.v within) c.loop-v.invariant.0 c.in_ok-write_vertex.ensures.written.output, c.in_ok-write_vertex.ensures.written.sound)

pub returns-clause-written : goal.returns-clause-written
returns-clause-written g c =
    let names = names_of c.args.graph.now in
    let past : length names ≤ c.loop-v.v = omega (arith, length-map c.args.graph.now.vertices (λ v. v.name), c.n-v-end.ensures.count) in
    record { output = so_far-all _ _ _ _ (level_lines-none names c.args.distances.now c.loop-v.v past) c.loop-v.invariant.0; sound = c.loop-v.invariant.1 }

pub returns-in_err-write_vertex-clause-fault : goal.returns-in_err-write_vertex-clause-fault
returns-in_err-write_vertex-clause-fault g c = exit_write _ _ c.from_residual.ensures.1 c.in_err-write_vertex.ensures.fault
