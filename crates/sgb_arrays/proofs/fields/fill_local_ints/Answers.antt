use Rattle.std.proofs.Common.{◌≤◌, ◌+◌, ◌∙◌, ℕ, List, drop, length, map, pos, ap, refl, subst, take, arith}
use Rattle.std.specs.Prelude.{slice_index}
use Rattle.sgb_gen.specs.Generators.{vector_graph_of, vectors_of}
use Rattle.sgb_gen.proofs.VectorVertices.{vertices_are_members}
use Rattle.sgb_arrays.specs.inner.Kinds.{HoldIntsAt}
use Rattle.sgb_arrays.proofs.LocalFields.{local_ints}
use Rattle.sgb_arrays.proofs.fields.fill_local_ints.Goals as goal

pub put_entries-requires-clause-there : goal.put_entries-requires-clause-there
put_entries-requires-clause-there c =
    let g = vector_graph_of c.args.local.now in
    let (there, holds, size) = c.in_ok-are_ints.ensures.fit in
    omega (arith, there, c.size.ensures, vertices_are_members g g.vectors refl)

pub returns-clause-filled : goal.returns-clause-filled
returns-clause-filled c =
    let l = c.args.local.now in
    let (there, kinds, size) = c.in_ok-are_ints.ensures.fit in
    let holds = subst (λ ks. HoldIntsAt ks c.args.field) c.kinds.ensures kinds in
    let entries = ap (λ k. map (λ (x : List ℕ). pos (slice_index x k)) (take c.args.count (drop c.args.first (vectors_of l)))) c.saturating_sub.ensures in
    (omega (arith, there, c.size.ensures), holds, size, c.put_entries.ensures ∙ entries ∙ local_ints (vector_graph_of l) c.args.field c.args.first c.args.count holds)
