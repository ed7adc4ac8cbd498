-- Values of expressions on small graphs, worked out by hand.
use Rattle.std.specs.Prelude.{◌≡◌, ◌≤◌, ◌<◌, ℕ, ℤ, pos, negsuc, true, false, List, [], ◌∷◌, length, Result, Ok, Err, map, codes, refl}
use Rattle.std.proofs.Common.{inl, inr, sym, subst, arith}
use Rattle.std.proofs.lemmas.Bool.{leb-true, ltb-true}
use Rattle.std.specs.Fmt.{digits}
use Rattle.sgb_vec.specs.Boxes.{box}
use Rattle.sgb_vec.specs.Names.{name_of_vector}
use Rattle.sgb_vec.specs.Sizes.{repeated}
use Rattle.sgb_vec.specs.declared.panics.Panic.{Panic}
use Rattle.sgb_vec.specs.declared.panics.Panic.TheVariants.{Bad, VeryBad, Early, Syntax}
use Rattle.sgb_graph.specs.Events.{list_from}
use Rattle.sgb_graph.specs.Graphs.{GraphData, numbers_from}
use Rattle.sgb_graph.specs.Ids.{compound_id, double_compound_id}
use Rattle.sgb_gen.specs.Boards.{board_id}
use Rattle.sgb_moves.specs.Displacements.{displacements, vectors_of_norm}
use Rattle.sgb_moves.specs.Moves.{board_moves}
use Rattle.sgb_gen.specs.VectorGraphs.{family_graph}
use Rattle.sgb_ops.specs.Merged.{merged}
use Rattle.sgb_taken.specs.Taken.{each_edge_once}
use Rattle.sgb_ops.specs.declared.induced_graphs.entries.Entry.TheVariants as entry
use Rattle.sgb_file.specs.FileLines.{text_of_lines}
use Rattle.sgb_file.specs.Refused.{HasNoOpening, IsRestoredAs}
use Rattle.sgb_file.proofs.Examples.GraphFiles.{one_cell, one_cell_lines}
use Rattle.sgb_file.proofs.Examples.Restoring.{no_file_read, one_cell_read}
use Rattle.sgb_expr.specs.Expression.{Expression, BiComplete, Complement, EntryThen, Generated, Graph, Gunion, Induced, Intersection, Lines, NoEntries, Number, OfGraph, OfGraphs, OfNumbers, Product, Stdin, Wheel}
use Rattle.sgb_gen.specs.declared.params.Generator.{Generator}
use Rattle.sgb_gen.specs.declared.params.Generator.TheVariants as generator
use Rattle.sgb_values.specs.FirstRefusals.{IsInputRefused, IsRefusedFirst}
use Rattle.sgb_values.specs.Values.{IsStdinValue, most_input, numbered_entry, value_of, values_of}

-- board(n1,n2,0,0,piece,0,0)
abbrev squares : ℤ → ℤ → ℤ → Generator
squares n1 n2 piece = generator.Board (record { n1 = n1; n2 = n2; n3 = pos 0; n4 = pos 0; piece = piece; wrap = pos 0; directed = false })

-- ---- standard input

-- the file of board(1,0,0,0,1,0,0)
pub cell_is_stdin : IsStdinValue (text_of_lines one_cell_lines) (Ok one_cell)
cell_is_stdin = inl (leb-true (length (text_of_lines one_cell_lines)) most_input refl, one_cell_read)

pub no_file_is_stdin : IsStdinValue (codes "0\n") (Err Early)
no_file_is_stdin = inl (leb-true 2 most_input refl, no_file_read)

-- 1 GiB is read
pub input_limit : most_input ≡ 1_073_741_824
input_limit = refl

pub longest_input : (input : List ℕ) (value : Result GraphData Panic) → length input ≡ 1_073_741_824 → IsRestoredAs input value → IsStdinValue input value
longest_input input value many is = inl (subst (λ n. n ≤ most_input) (sym many) (leb-true 1_073_741_824 most_input refl), is)

pub read_as_it_is : (input : List ℕ) → length input ≡ 1_073_741_824 → IsStdinValue input (Err Syntax) → IsRestoredAs input (Err Syntax)
read_as_it_is input many (inl (short, is)) = is
read_as_it_is input many (inr (long, same)) = absurd (omega (arith, long, many, input_limit))

-- and one byte more is not, whatever it is
longer : (input : List ℕ) → length input ≡ 1_073_741_825 → most_input < length input
longer input many = subst (λ n. most_input < n) (sym many) (ltb-true most_input 1_073_741_825 refl)

pub too_long_input : (input : List ℕ) → length input ≡ 1_073_741_825 → IsStdinValue input (Err Syntax) × IsInputRefused input Syntax
too_long_input input many = (inr (longer input many, refl), inl (longer input many, refl))

-- before a record is read: for no first line, and not for the length of 1 GiB
pub no_file_refused : IsInputRefused (codes "0\n") Early
no_file_refused = inr (leb-true 2 most_input refl, no_file_read, refl)

pub longest_refused : (input : List ℕ) → length input ≡ 1_073_741_824 → HasNoOpening input → IsInputRefused input Early
longest_refused input many none = inr (subst (λ n. n ≤ most_input) (sym many) (leb-true 1_073_741_824 most_input refl), none, refl)

pub not_for_length : (input : List ℕ) → length input ≡ 1_073_741_824 → IsInputRefused input Syntax → ⊥
not_for_length input many (inl (long, same)) = absurd (omega (arith, long, many, input_limit))
not_for_length input many (inr (short, none, other)) = absurd cc

-- ---- values

-- simplex(-1,0,0,0,0,0,0)
abbrev negative : Expression
negative = Generated (generator.Simplex (record { n = negsuc 0; n0 = pos 0; n1 = pos 0; n2 = pos 0; n3 = pos 0; n4 = pos 0; directed = false }))

abbrev too_great : Expression
too_great = Generated (squares (pos 2) (pos 2) (pos 1_000_000_000_000))

-- of two operands that are refused the first one's code
pub refused_first :
    (value_of (Err Early) (OfGraphs (Gunion false false) negative too_great) ≡ Err Bad)
    × (value_of (Err Early) (OfGraphs (Gunion false false) too_great negative) ≡ Err VeryBad)
unfolding repeated
refused_first = (refl, refl)

-- before memory is taken: for the first operand, or for numbers
pub refused_at_once :
    IsRefusedFirst [] (OfGraph (Lines false) negative) Bad × IsRefusedFirst [] (Induced negative NoEntries false false false) Bad
    × IsRefusedFirst [] (OfGraphs (Gunion false false) negative too_great) Bad
    × IsRefusedFirst [] (OfNumbers (BiComplete (pos 1) (negsuc 0) false)) Bad × IsRefusedFirst [] (OfNumbers (Wheel (pos 3) (negsuc 0) false)) Bad
    × IsRefusedFirst [] (OfNumbers (Wheel (pos 1_000_000_001) (negsuc 0) false)) Bad × IsRefusedFirst [] (OfNumbers (Wheel (pos 1_000_000_001) (pos 1) false)) VeryBad
unfolding repeated
refused_at_once = (refl, refl, refl, refl, refl, refl, refl)

-- entries: each is a number or a graph; the first refusal among them
pub entries_valued :
    (values_of (Ok one_cell) (EntryThen (Number (negsuc 2)) (EntryThen (Graph Stdin) NoEntries)) ≡ Ok (entry.Merged 3 ∷ entry.Graph one_cell ∷ []))
    × (values_of (Err Early) (EntryThen (Number (pos 1)) (EntryThen (Graph negative) (EntryThen (Graph too_great) NoEntries))) ≡ Err Bad)
entries_valued = (refl, refl)

-- what a number stands for: so many copies, or merged vertex k of -k, at most 4,294,967,295 of either
pub numbers_told : map numbered_entry (pos 0 ∷ pos 7 ∷ pos 4_294_967_296 ∷ negsuc 0 ∷ negsuc 6 ∷ negsuc 4_294_967_296 ∷ [])
    ≡ entry.Copies 0 ∷ entry.Copies 7 ∷ entry.Copies 4_294_967_295 ∷ entry.Merged 1 ∷ entry.Merged 7 ∷ entry.Merged 4_294_967_295 ∷ []
numbers_told = refl

-- the id of a graph, which has the arguments in their order
abbrev id_of : Result GraphData Panic → List ℕ
id_of (Ok g) = g.id
id_of (Err p) = []

-- board(1,1,0,0,1,0,0)
abbrev one_square : Expression
one_square = Generated (squares (pos 1) (pos 1) (pos 1))

-- the value of each operation, where `stdin` is board(1,0,0,0,1,0,0), by its id
abbrev ids : List Expression → List (List ℕ)
ids values = map (λ e. id_of (value_of (Ok one_cell) e)) values

pub one_operand :
    ids (OfGraph (Complement true false false) Stdin ∷ OfGraph (Complement false true false) Stdin ∷ OfGraph (Lines true) Stdin ∷ OfGraph (Lines false) Stdin
    ∷ Induced Stdin (EntryThen (Number (pos 1)) NoEntries) true false false ∷ Induced Stdin (EntryThen (Number (pos 1)) NoEntries) false true false ∷ Induced Stdin (EntryThen (Number (pos 1)) NoEntries) false false true ∷ [])
    ≡ codes "complement(board(1,0,0,0,1,0,0),1,0,0)" ∷ codes "complement(board(1,0,0,0,1,0,0),0,1,0)"
    ∷ codes "lines(board(1,0,0,0,1,0,0),1)" ∷ codes "lines(board(1,0,0,0,1,0,0),0)"
    ∷ codes "induced(board(1,0,0,0,1,0,0),,1,0,0)" ∷ codes "induced(board(1,0,0,0,1,0,0),,0,1,0)" ∷ codes "induced(board(1,0,0,0,1,0,0),,0,0,1)" ∷ []
unfolding digits numbers_from list_from each_edge_once merged compound_id
one_operand = refl

pub two_operands :
    ids (OfGraphs (Gunion true false) Stdin one_square ∷ OfGraphs (Gunion false true) one_square Stdin ∷ OfGraphs (Intersection true false) Stdin one_square
    ∷ OfGraphs (Intersection false true) one_square Stdin ∷ OfGraphs (Product (pos 2) false) Stdin one_square ∷ OfGraphs (Product (pos 1) true) one_square Stdin ∷ [])
    ≡ codes "gunion(board(1,0,0,0,1,0,0),board(1,1,0,0,1,0,0),1,0)" ∷ codes "gunion(board(1,1,0,0,1,0,0),board(1,0,0,0,1,0,0),0,1)"
    ∷ codes "intersection(board(1,0,0,0,1,0,0),board(1,1,0,0,1,0,0),1,0)" ∷ codes "intersection(board(1,1,0,0,1,0,0),board(1,0,0,0,1,0,0),0,1)"
    ∷ codes "product(board(1,0,0,0,1,0,0),board(1,1,0,0,1,0,0),2,0)" ∷ codes "product(board(1,1,0,0,1,0,0),board(1,0,0,0,1,0,0),1,1)" ∷ []
unfolding box repeated digits name_of_vector displacements vectors_of_norm board_moves board_id family_graph numbers_from list_from each_edge_once merged double_compound_id
two_operands = refl

pub no_operand :
    ids (OfNumbers (BiComplete (pos 1) (pos 2) false) ∷ OfNumbers (BiComplete (pos 1) (pos 2) true) ∷ OfNumbers (Wheel (pos 3) (pos 1) false) ∷ OfNumbers (Wheel (pos 3) (pos 1) true) ∷ [])
    ≡ codes "bi_complete(1,2,0)" ∷ codes "bi_complete(1,2,1)" ∷ codes "wheel(3,1,0)" ∷ codes "wheel(3,1,1)" ∷ []
unfolding box repeated digits name_of_vector displacements vectors_of_norm board_moves board_id family_graph numbers_from list_from each_edge_once merged compound_id
no_operand = refl
