-- Lemmas on the opening and the end of a file, in the words of the code.
use Rattle.sgb_vec.proofs.Common.{◌≡◌, ◌<◌, ◌∙◌, ℕ, Bool, true, false, List, [], ◌∷◌, Some, None, length, take, drop, set, slice_index, ◌+◌, zero, suc, filter_map, refl, sym, ap, arith, Result, Ok, Err, inl, if◌then◌else◌, nat_tests, length-take, get_or-take, take_more, take_more_set, take_all, filter_map-append, IsErrAnd}
use Rattle.sgb_graph.specs.declared.fields.Kind.{Kind}
use Rattle.sgb_file.specs.FileLines.{lines_among, clean_lines, text_of_lines}
use Rattle.sgb_file.specs.inner.LinesLeft.{lines_of_text, LinesLeft, text_left, next_begun, none_begun, lines_still, lines_passed}
use Rattle.sgb_file.specs.inner.Found.{IsFoundBy}
use Rattle.sgb_vec.specs.declared.panics.Panic.{Panic}
use Rattle.sgb_vec.specs.declared.panics.Panic.TheVariants.{Syntax}
use Rattle.sgb_graph.specs.Graphs.{GraphData}
use Rattle.sgb_graph.specs.Parts.{checked}
use Rattle.sgb_graph.specs.Sound.{is_sound}
use Rattle.sgb_file.specs.Checksum.{has_star}
use Rattle.sgb_vec.specs.Results.{IsValue}
use Rattle.sgb_file.specs.inner.Heads.{Head}
use Rattle.sgb_file.specs.inner.ReadRecords.{records_at}
use Rattle.sgb_file.proofs.FirstLines.{no_more_kinds}
use Rattle.sgb_file.proofs.LeftTexts.{next_left}
use Rattle.sgb_file.proofs.ReadParts.{read_is_checked}
use Rattle.sgb_file.specs.inner.ReadFiles.{opening_of, head_of_line, graph_of_text, graph_after, graph_at_end, closes, line_closes, kind_of_letter, kinds_at}

-- a text of fewer letters has not the kinds
filtered_fewer : (xs : List ℕ) (i : ℕ) → i < length xs → kind_of_letter (slice_index xs i) ≡ None → length (filter_map kind_of_letter xs) < length xs
filtered_fewer [] i h e = absurd (omega (arith, h))
filtered_fewer (x ∷ xs) zero h e = grind (arith, no_more_kinds)
filtered_fewer (x ∷ xs) (suc i) h e = grind (arith, filtered_fewer xs i)

-- where a byte is no letter of a kind, the text has not the kinds
pub kinds_missed : (text : List ℕ) (i : ℕ) → i < 14 → i < length text → kind_of_letter (slice_index text i) ≡ None → kinds_at text ≡ None
kinds_missed text i low within e =
    let few = filtered_fewer (take 14 text) i (omega (arith, length-take 14 text, low, within)) (ap kind_of_letter (get_or-take 14 text i 0 low) ∙ e) in
    grind (arith, nat_tests, few, length-take 14 text)

-- one kind more, and all
pub kinds_more : (text : List ℕ) (kinds : List Kind) (i : ℕ) (k : Kind) → i < length text → i < length kinds → kind_of_letter (slice_index text i) ≡ Some k
    → filter_map kind_of_letter (take i text) ≡ take i kinds → filter_map kind_of_letter (take (i + 1) text) ≡ take (i + 1) (set kinds i k)
kinds_more text kinds i k within room e so_far = rw (take_more text i 0 within, filter_map-append, so_far, e, take_more_set kinds i k room) refl

pub kinds_read : (text : List ℕ) (kinds : List Kind) → filter_map kind_of_letter (take 14 text) ≡ take 14 kinds → length kinds ≡ 14 → kinds_at text ≡ Some (record { value = kinds; rest = drop 14 text })
kinds_read text kinds e size = rw (e ∙ take_all 14 kinds (omega (arith, size))) (rw size refl)

pub short_kinds : (text : List ℕ) → length text < 14 → None ≡ kinds_at text
short_kinds text h = let few = no_more_kinds (take 14 text) in grind (arith, nat_tests, few, length-take 14 text)

-- at the end of the lines nothing closes the file
pub closes_none : (s : LinesLeft) → lines_of_text (text_left s) ≡ lines_still s → s.line ≡ None → (head : Head)
    → false ≡ closes (record { head = head; lines = s.all }) (text_left s)
closes_none s e none head = rw (e, none) refl

-- the line under way closes the file
pub closes_by : (s : LinesLeft) (line : List ℕ) (r : Bool) → lines_of_text (text_left s) ≡ lines_still s → s.line ≡ Some line
    → r ≡ line_closes (lines_passed s) (line ∷ []) → (head : Head) → r ≡ closes (record { head = head; lines = s.all }) (text_left s)
closes_by s line r e some is head = rw (e, some) is

-- the opening of lines: at the first of them, or at a later one, or there is none
pub opens_here : (text line : List ℕ) (others : List (List ℕ)) (head : Head) → clean_lines text ≡ line ∷ others → head_of_line line ≡ Some head → opening_of (clean_lines text) ≡ Some (record { head = head; lines = others })
unfolding opening_of
opens_here text line others head e h = rw (e, h) refl

pub opens_later : (text line : List ℕ) (others : List (List ℕ)) → clean_lines text ≡ line ∷ others → head_of_line line ≡ None → has_star line ≡ true → opening_of (clean_lines text) ≡ opening_of others
unfolding opening_of
opens_later text line others e h star = rw (e, h, star) refl

pub opens_not : (text line : List ℕ) (others : List (List ℕ)) → clean_lines text ≡ line ∷ others → head_of_line line ≡ None → has_star line ≡ false → opening_of (clean_lines text) ≡ None
unfolding opening_of
opens_not text line others e h star = rw (e, h, star) refl

pub opens_nothing : (text : List ℕ) → text ≡ [] → opening_of (clean_lines text) ≡ None
unfolding opening_of lines_among
opens_nothing text e = rw e refl

-- where the first line is just begun the text that is left is that of all lines
text_whole : (s : LinesLeft) → s ≡ next_begun (none_begun s.all) → text_left s ≡ text_of_lines s.all
text_whole s begun = ap text_left begun ∙ next_left (none_begun s.all)

-- the graph of a text that opens here is that of the records in the lines that are left
pub graph_opened : (text : List ℕ) (head : Head) (s : LinesLeft) → Some (record { head = head; lines = s.all }) ≡ opening_of (clean_lines text) → s ≡ next_begun (none_begun s.all)
    → graph_of_text text ≡ graph_after (record { head = head; lines = s.all }) (records_at head (text_left s))
graph_opened text head s e begun = grind (arith, text_whole)

-- a text whose records are not read is refused, or memory ran out
pub graph_unread : (text : List ℕ) (head : Head) (s : LinesLeft) (p : Panic) (rest : List ℕ) (r : Result GraphData Panic) → Some (record { head = head; lines = s.all }) ≡ opening_of (clean_lines text)
    → s ≡ next_begun (none_begun s.all) → IsFoundBy (records_at head (text_left s)) (Err p) rest → IsErrAnd r (λ q. q ≡ p) → IsValue (graph_of_text text) r
graph_unread text head s p rest (Ok g) e begun found is = absurd is
graph_unread text head s Syntax rest (Err q) e begun found is = inl (graph_opened text head s e begun ∙ ap (graph_after (record { head = head; lines = s.all })) found ∙ ap Err (sym is))
graph_unread text head s p rest r e begun found is = grind (arith)

-- what the graph of a text is where its records end in these lines
pub graph_ended : (text : List ℕ) (head : Head) (s t : LinesLeft) (g : GraphData) (closed : Bool) → Some (record { head = head; lines = s.all }) ≡ opening_of (clean_lines text)
    → s ≡ next_begun (none_begun s.all) → records_at head (text_left s) ≡ Some (record { value = g; rest = text_left t }) → t.all ≡ s.all
    → closed ≡ closes (record { head = head; lines = t.all }) (text_left t) → graph_of_text text ≡ graph_at_end closed (is_sound g) g
graph_ended text head s t g closed e begun found all closing = graph_opened text head s e begun ∙ rw (found, sym all, sym closing) refl

-- the graph of a text is that of the check of its parts
pub graph_checked : (text : List ℕ) (head : Head) (s : LinesLeft) (rest : List ℕ) (g : GraphData) (r : Result GraphData Panic) → Some (record { head = head; lines = s.all }) ≡ opening_of (clean_lines text)
    → s ≡ next_begun (none_begun s.all) → records_at head (text_left s) ≡ Some (record { value = g; rest = rest }) → graph_of_text text ≡ graph_at_end true (is_sound g) g → IsValue (checked g) r
    → IsValue (graph_of_text text) r
graph_checked text head s rest g r e begun found is h =
    let fit = read_is_checked (clean_lines text) (record { head = head; lines = s.all }) (record { value = g; rest = rest }) (sym e) (rw (text_whole s begun) at found) in
    rw (is, at_end (is_sound g), sym fit) h
  where
    at_end : (sound : Bool) → graph_at_end true sound g ≡ (if sound then Ok g else Err Syntax)
    at_end sound = grind (arith)
