use Rattle.sgb_vec.proofs.Common.{◌≡◌, ◌∙◌, ℕ, List, length, sym, ap, rules, length-map}
use Rattle.sgb_graph.specs.Graphs.{GraphData}
use Rattle.sgb_graph.specs.Sound.{arc_kinds}
use Rattle.sgb_graph.specs.Growth.{new_graph, new_vertex}
use Rattle.sgb_ops.specs.declared.induced_graphs.entries.Entry.{Entry}
use Rattle.sgb_ops.specs.Entries.{names_by_entries}
use Rattle.sgb_ops.specs.inner.Entries.{total_of}
use Rattle.sgb_graph.specs.Vertices.{names_of, order_of}
use Rattle.sgb_ops.proofs.CopiesWithin.{length-names}
use Rattle.sgb_ops.proofs.induced_graphs.begun_by.Goals as goal

-- as many names as the entries make vertices
count_of : (g : GraphData) (entries : List Entry) (names : List (List ℕ)) → length entries ≡ order_of g → names ≡ names_by_entries (names_of g) entries → length names ≡ total_of entries
count_of g entries names count is = ap length is ∙ length-names (names_of g) entries (count ∙ sym (length-map g.vertices (λ x. x.name)))

pub returns-in_err-built-clause-memory : goal.returns-in_err-built-clause-memory
returns-in_err-built-clause-memory c = search (rules, count_of)

pub begun_in_parts-requires-clause-size : goal.begun_in_parts-requires-clause-size
begun_in_parts-requires-clause-size c =
    ap (λ b. length b.vertices) c.in_ok-built.ensures.ok ∙ (length-map c.in_ok-names.names new_vertex ∙ count_of c.args.graph.now c.args.entries.now c.in_ok-names.names c.requires.count c.in_ok-names.ensures.ok)

pub begun_in_parts-requires-clause-copies : goal.begun_in_parts-requires-clause-copies
begun_in_parts-requires-clause-copies c = c.in_ok-copies.ensures.ok

pub events_within-requires-clause-copies : goal.events_within-requires-clause-copies
events_within-requires-clause-copies c = c.in_ok-copies.ensures.ok

pub returns-clause-ok : goal.returns-clause-ok
returns-clause-ok c = record { sized_copies = c.in_ok-copies.ensures.ok; inside = (c.in_ok-kept.ensures.ok, c.in_ok-built.ensures.ok ∙ ap new_graph c.in_ok-names.ensures.ok) }

pub begun_in_parts-requires-clause-plain : goal.begun_in_parts-requires-clause-plain
begun_in_parts-requires-clause-plain c = ap (λ b. arc_kinds b.kinds) c.in_ok-built.ensures.ok
