-- Which texts are files of graphs, and which code each other text has, by what its lines are.
use Rattle.std.proofs.Common.{ap, sym, subst, ◌∙◌, inl, inr, refl, arith, ◌≡◌, ◌⊎◌, ℕ, Bool, false, List, ◌++◌, Option, Some, None, Result, Ok, Err}
use Rattle.sgb_text.proofs.Findings.{Found, given}
use Rattle.sgb_vec.specs.declared.panics.Panic.{Panic}
use Rattle.sgb_vec.specs.declared.panics.Panic.TheVariants.{Early, Late, NoRoom, Syntax}
use Rattle.sgb_vec.specs.Results.{IsValue}
use Rattle.sgb_graph.specs.Graphs.{GraphData}
use Rattle.sgb_graph.specs.Sound.{is_sound}
use Rattle.sgb_file.specs.FileLines.{clean_lines, text_of_lines}
use Rattle.sgb_file.specs.inner.LinesLeft.{lines_of_text}
use Rattle.sgb_file.specs.Files.{AreRecordsOf, HasRecords, IsFileOf}
use Rattle.sgb_file.specs.inner.Heads.{AreRecordLines, Head, OpensWith, head_of}
use Rattle.sgb_file.specs.inner.ReadRecords.{records_at}
use Rattle.sgb_file.specs.Refused.{HasNoOpening, IsRestoredAs}
use Rattle.sgb_file.specs.inner.ReadFiles.{Opening, opening_of, line_closes, graph_at_end, graph_of_records, graph_of_opening, graph_of_text}
use Rattle.sgb_file.proofs.LineLemmas.{lines_again}
use Rattle.sgb_file.proofs.FilesAndTexts.{opens_read, opens_found, after_opening, records_read, lines_found, last_lines, closed_found, closes_by, none_there, line_closed}

-- the records of a text are those that its lines have
are_lines : (g : GraphData) (records following : List (List ℕ)) → AreRecordsOf g (text_of_lines records) → AreRecordLines (head_of g) g records following (records ++ following)
are_lines g records following say = record { counted = refl; say = say; parts = refl }

have_records : (text : List ℕ) (head : Head) (g : GraphData) (records following lines : List (List ℕ)) → OpensWith text head lines → AreRecordLines head g records following lines → HasRecords text g records following
have_records text head g records following lines opens are = grind (arith)

-- the graph of a text with these records, by what follows them
graph_with_records : (text : List ℕ) (g : GraphData) (records following : List (List ℕ)) → HasRecords text g records following
    → graph_of_text text ≡ graph_at_end (line_closes records following) (is_sound g) g
graph_with_records text g records following (opens, say) =
    let opening : Opening = record { head = head_of g; lines = records ++ following } in
    let again = lines_again following (last_lines records following (after_opening text (head_of g) (records ++ following) opens)) in
    rw (opens_read text (head_of g) (records ++ following) opens, records_read (head_of g) g records following (records ++ following) (are_lines g records following say))
    (rw (closes_by opening records (text_of_lines following) (ap (λ ls. records ++ ls) (sym again)), again) refl)

-- a text whose records are not read has none
none_has : (text : List ℕ) (o : Opening) → OpensWith text o.head o.lines → graph_of_records o ≡ None → (g : GraphData) (records following : List (List ℕ)) → HasRecords text g records following → ⊥
none_has text o opens none g records following (also, say) =
    let same = sym (opens_read text o.head o.lines opens) ∙ opens_read text (head_of g) (records ++ following) also in
    grind (arith, given, same, records_read (head_of g) g records following (records ++ following) (are_lines g records following say))

-- the code of each kind of text
pub early_of : (text : List ℕ) → HasNoOpening text → graph_of_text text ≡ Err Early
early_of text none = ap graph_of_opening (none_there (opening_of (clean_lines text)) (λ o e. none o.head.kinds o.head.counts.vertices o.head.counts.arcs o.lines (opens_found text o e)))

-- each text is what it is read as: a file of the graph, or of the kind that its code says
restored_by : (text : List ℕ) (g : GraphData) (records following : List (List ℕ)) → HasRecords text g records following → IsRestoredAs text (graph_of_text text)
restored_by text g records following has = rw (graph_with_records text g records following has) (by_end (line_closes records following) (is_sound g) refl refl)
  where
    by_end : (c s : Bool) → line_closes records following ≡ c → is_sound g ≡ s → IsRestoredAs text (graph_at_end c s g)
    by_end false s e es = grind (arith, line_closed)
    by_end c s e es = grind (arith, closed_found)

pub restored : (text : List ℕ) → IsRestoredAs text (graph_of_text text)
restored text = by_opening (opening_of (clean_lines text)) refl
  where
    by_records : (o : Opening) → opening_of (clean_lines text) ≡ Some o → OpensWith text o.head o.lines → (found : Option (Found GraphData)) → records_at o.head (text_of_lines o.lines) ≡ found → IsRestoredAs text (graph_of_text text)
    by_records o e opens None none = rw (e, none) (inl (λ closed. closed o.head.kinds o.head.counts.vertices o.head.counts.arcs o.lines opens, none_has text o opens none))
    by_records o e opens (Some found) here =
        let f = lines_found o.head o.lines found (after_opening text o.head o.lines opens) here in
        restored_by text found.value f.0 (lines_of_text found.rest) (have_records text o.head found.value f.0 (lines_of_text found.rest) o.lines opens f.1)

    by_opening : (o : Option Opening) → opening_of (clean_lines text) ≡ o → IsRestoredAs text (graph_of_text text)
    by_opening None e = rw e (λ kinds n m lines opens. grind (arith, opens_read text (record { kinds = kinds; counts = record { vertices = n; arcs = m } }) lines opens))
    by_opening (Some o) e = by_records o e (opens_found text o e) (records_at o.head (text_of_lines o.lines)) refl

-- a text with an opening, and with the records of no graph
no_records_of : (text : List ℕ) → (HasNoOpening text → ⊥) × ((g : GraphData) (records following : List (List ℕ)) → HasRecords text g records following → ⊥) → graph_of_text text ≡ Err Syntax
no_records_of text (opened, none) = by_result (graph_of_text text) (restored text)
  where
    by_result : (r : Result GraphData Panic) → IsRestoredAs text r → r ≡ Err Syntax
    by_result (Ok g) h = absurd (none g h.0 h.1 h.2)
    by_result (Err Early) h = absurd (opened h)
    by_result (Err Late) h = absurd (none h.0 h.1 h.2 h.3)
    by_result (Err Syntax) h = refl
    by_result (Err _) h = absurd h

-- so a text that is read as a graph is a file of it, and one with a code is of its kind
pub restored_as : (text : List ℕ) (r : Result GraphData Panic) → graph_of_text text ≡ r → IsRestoredAs text r
restored_as text r e = subst (IsRestoredAs text) e (restored text)

-- and a file of a graph is read as it
pub read_from_file : (g : GraphData) (text : List ℕ) → IsFileOf g text → graph_of_text text ≡ Ok g
read_from_file g text (records, following, has, closed, sound) =
    graph_with_records text g records following has ∙ rw (line_closed records following closed, sound) refl

-- a text that has an opening is not refused for having none
pub opened_late : (text : List ℕ) (head : Head) (lines : List (List ℕ)) → Some (record { head = head; lines = lines }) ≡ opening_of (clean_lines text) → graph_of_text text ≡ Err Early → ⊥
opened_late text head lines here e = restored_as text (Err Early) e head.kinds head.counts.vertices head.counts.arcs lines (opens_found text _ (sym here))

-- what a text is read as is one only
pub restored_only : (text : List ℕ) (r : Result GraphData Panic) → IsRestoredAs text r → graph_of_text text ≡ r
restored_only text (Ok g) h = read_from_file g text h
restored_only text (Err Early) h = early_of text h
restored_only text (Err Late) (g, records, following, has, none) = graph_with_records text g records following has ∙ grind (arith, closed_found)
restored_only text (Err Syntax) (inl h) = no_records_of text h
restored_only text (Err Syntax) (inr (g, records, following, has, closed, unsound)) =
    graph_with_records text g records following has ∙ rw (line_closed records following closed, unsound) refl
restored_only text (Err _) h = absurd h

-- what is read is what the text is read as, or memory ran out
pub restored_value : (text : List ℕ) (r : Result GraphData Panic) → IsValue (graph_of_text text) r → IsRestoredAs text r ⊎ (r ≡ Err NoRoom)
restored_value text r e = grind (arith, restored)

-- two things that a text is read as are the same
pub restored_same : (text : List ℕ) (r s : Result GraphData Panic) → IsRestoredAs text r → IsRestoredAs text s → r ≡ s
restored_same text r s is also = sym (restored_only text r is) ∙ restored_only text s also

-- there is a function that reads each text as what it is
pub a_reader : (read : List ℕ → Result GraphData Panic) × ((text : List ℕ) → IsRestoredAs text (read text))
a_reader = (graph_of_text, restored)
