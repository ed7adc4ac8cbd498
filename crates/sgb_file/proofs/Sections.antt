-- Lemmas on the sections of a file, in the words of the code.
use Rattle.sgb_vec.proofs.Common.{◌≡◌, ◌++◌, ◌<◌, ◌-◌, ◌+◌, ℕ, suc, true, List, [], ◌∷◌, Option, Some, None, Err, refl, append_assoc, append-nil, arith, codes, ◌==◌, starts_with, and_parts, not-true, nat_tests}
use Rattle.sgb_text.proofs.Findings.{Found, found_as, after_prefix, all_at, prefix_read, was_mapped, given}
use Rattle.sgb_graph.specs.Graphs.{GraphData}
use Rattle.sgb_graph.specs.Parts.{with_vertex, with_record}
use Rattle.sgb_graph.specs.declared.fields.Vertex.{Vertex}
use Rattle.sgb_graph.specs.declared.fields.ArcRec.{ArcRec}
use Rattle.sgb_file.specs.inner.Heads.{Head}
use Rattle.sgb_file.specs.inner.ReadRecords.{arc_record_at, graph_record_at, records_at, vertex_record_at}
use Rattle.sgb_file.proofs.RecordsAndTexts.{starts_bare}
use Rattle.sgb_file.proofs.FoundSteps.{stops, vertex_steps}
use Rattle.sgb_file.specs.inner.Found.{IsFoundBy}
use Rattle.sgb_vec.specs.declared.panics.Panic.{Panic}
use Rattle.sgb_file.specs.inner.Reading.{vertices_at, arcs_at, vertex_fields_at}
use Rattle.sgb_file.specs.inner.LinesLeft.{LinesLeft, text_left, has_no_newline}
use Rattle.sgb_file.specs.FileLines.{text_of_lines}

-- with k of n records behind, one more is to come
one_to_come : (n k : ℕ) → k < n → n - k ≡ suc (n - (k + 1))
one_to_come n k within = omega (arith, within)

-- where it does not come, the reading stops
pub next_stops : {X Y : Type 0} (one_at : List ℕ → Option (Found X)) (f : List X → Y) (n k : ℕ) (whole : Option (Found Y)) (p : Panic) (text left after : List ℕ) → k < n
    → found_as f (all_at one_at (n - k) text) ≡ whole → IsFoundBy (one_at text) (Err p) left → IsFoundBy whole (Err p) after
unfolding all_at
next_stops one_at f n k whole p text left after within so h = grind (arith, stops, one_to_come n k within)

-- a vertex was read, and there are no more
pub next_vertex : (head : Head) (parts more : GraphData) (n v : ℕ) (x : Vertex) (text rest : List ℕ) → v < n → vertex_fields_at head text ≡ Some (record { value = x; rest = rest })
    → more ≡ with_vertex x parts → vertices_at head more (n - (v + 1)) rest ≡ vertices_at head parts (n - v) text
unfolding all_at
next_vertex head parts more n v x text rest within e is = grind (arith, one_to_come, vertex_steps, append_assoc)

pub vertices_read : (head : Head) (parts : GraphData) (k : ℕ) (text : List ℕ) → k ≡ 0 → vertices_at head parts k text ≡ Some (record { value = parts; rest = text })
unfolding all_at
vertices_read head parts k text e = grind (arith, append-nil)

-- the same of arc records
pub next_arc : (head : Head) (parts more : GraphData) (n k : ℕ) (r : ArcRec) (text rest : List ℕ) → k < n → arc_record_at head text ≡ Some (record { value = r; rest = rest })
    → more ≡ with_record r parts → arcs_at head more (n - (k + 1)) rest ≡ arcs_at head parts (n - k) text
unfolding all_at
next_arc head parts more n k r text rest within e is = grind (arith, one_to_come, append_assoc)

pub arcs_read : (head : Head) (parts : GraphData) (k : ℕ) (text : List ℕ) → k ≡ 0 → arcs_at head parts k text ≡ Some (record { value = parts; rest = text })
unfolding all_at
arcs_read head parts k text e = grind (arith, append-nil)

-- the line that follows is this title, or another one
titled : (title line more : List ℕ) → has_no_newline title ≡ true → has_no_newline line ≡ true → starts_with (λ b c. b == c) (line ++ 10 ∷ more) (title ++ 10 ∷ []) ≡ true → title ≡ line
titled [] [] more h l e = refl
titled [] (b ∷ line) more h l e = grind (arith, not-true, and_parts, nat_tests)
titled (t ∷ title) [] more h l e = grind (arith, not-true, and_parts)
titled (t ∷ title) (b ∷ line) more h l e = grind (arith, and_parts, nat_tests, titled title line more)

-- a title that was passed, and one that was not
pub title_passed : (title line : List ℕ) (s t : LinesLeft) → s.line ≡ Some line → line ≡ title → text_left t ≡ text_of_lines s.others → after_prefix (title ++ 10 ∷ []) (text_left s) ≡ Some (text_left t)
title_passed title line s t e same left = grind (arith, append_assoc title (10 ∷ []) (text_of_lines s.others), prefix_read (title ++ 10 ∷ []) (text_of_lines s.others))

pub title_missed : (title line : List ℕ) (s : LinesLeft) → s.line ≡ Some line → has_no_newline title ≡ true → has_no_newline line ≡ true → (line ≡ title → ⊥) → after_prefix (title ++ 10 ∷ []) (text_left s) ≡ None
title_missed title line s e h l other = grind (arith, titled title line (text_of_lines s.others))

-- where the records of the graph and of the vertices are read, the others are those of the section of the arcs
pub records_sections : (head : Head) (parts more : GraphData) (t0 t1 t2 t3 : List ℕ) → graph_record_at head t0 ≡ Some (record { value = parts; rest = t1 })
    → after_prefix (codes "* Vertices\n") t1 ≡ Some t2 → vertices_at head parts head.counts.vertices t2 ≡ Some (record { value = more; rest = t3 })
    → records_at head t0 ≡ given (after_prefix (codes "* Arcs\n") t3) (arcs_at head more head.counts.arcs)
records_sections head parts more t0 t1 t2 t3 g a v =
    let p = was_mapped (all_at (vertex_record_at head) head.counts.vertices t2) {f = λ x. record { value = record parts { vertices = parts.vertices ++ x.value }; rest = x.rest }} v in
    grind (arith, starts_bare, given, after_prefix, codes, found_as, p)
