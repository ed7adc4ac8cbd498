-- What needs no memory is never out of memory.
use Rattle.std.proofs.Common.{arith, rules, ◌≡◌, ◌≢◌, ◌⊎◌, ◌&&◌, ◌<◌, ◌≤◌, ◌^◌, ◌∙◌, ℕ, ℤ, pos, negsuc, List, [], length, Bool, true, false, true≢false, Option, Result, Ok, Err, IfErr, IfOk, inl, inr, refl, sym, subst, ap}
use Rattle.std.specs.Result.{IsErrAnd}
use Rattle.std.proofs.lemmas.Result.{err_from_is_err_and}
use Rattle.sgb_vec.specs.Bounds.{simplex_of}
use Rattle.sgb_vec.specs.Results.{and_then}
use Rattle.sgb_vec.specs.Sizes.{Normalized}
use Rattle.sgb_vec.specs.Sums.{BoundedSum, sum_of}
use Rattle.sgb_vec.specs.declared.panics.Panic.{Panic}
use Rattle.sgb_vec.specs.declared.panics.Panic.TheVariants.{NoRoom}
use Rattle.sgb_graph.specs.Graphs.{GraphData}
use Rattle.sgb_graph.specs.Made.{graph_described}
use Rattle.sgb_graph.specs.Vertices.{names_of}
use Rattle.sgb_file.specs.Devices.{AppendsUnlessFailed, Change}
use Rattle.sgb_expr.specs.Expression.{expression_of}
use Rattle.sgb_expr.specs.declared.expressions.Expr.{Expr}
use Rattle.sgb_expr.specs.declared.expressions.Expr.TheVariants as expr
use Rattle.sgb_gen.specs.declared.params.SimplexParams.{SimplexParams}
use Rattle.sgb_gen.specs.declared.params.Generator.{Generator}
use Rattle.sgb_gen.specs.declared.params.Generator.TheVariants as generator
use Rattle.sgb_requests.specs.Faults.{fault_line, status_of}
use Rattle.sgb_requests.specs.declared.faults.Fault.{Fault}
use Rattle.sgb_requests.specs.declared.faults.Fault.TheVariants as fault
use Rattle.sgb_requests.specs.declared.requests.Request.{Request}
use Rattle.sgb_requests.specs.declared.requests.Resume.{Resume}
use Rattle.sgb_requests.specs.declared.requests.Resume.TheVariants as resumes
use Rattle.sgb_gen.specs.Generators.{IsAcceptedAtOnce, IsGeneratorRefused, sort_made, sort_of}
use Rattle.sgb_gen.specs.Sorts.{Sort, of_board, of_ordered_board, of_simplex, of_subsets}
use Rattle.sgb_values.specs.FirstRefusals.{IsRefusedFirst}
use Rattle.sgb.specs.Certain.{IsCertain, IsListedAtOnce, IsPast, IsRefusedAtOnce, NeedsNoMemory}
use Rattle.sgb.specs.Outcomes.{answer_of, left_out, outcome_of, reads_input}
use Rattle.sgb.specs.Runs.{IsGiven, Left}
use Rattle.sgb_gen.specs.Generators.{IsLocalOf}
use Rattle.sgb_gen.specs.Generators.{described, generator_value, made, vector_graph_of}
use Rattle.sgb_gen.specs.Simplexes.{SimplexData, accepted_simplex, simplex_vector_graph}
use Rattle.sgb_gen.specs.VectorGraphs.{HasUnitToMove}
use Rattle.sgb_vec.proofs.FamilyLaws.{length-sum_member}
use Rattle.sgb_gen.specs.declared.locals.Local.{Local}
use Rattle.sgb_gen.specs.declared.locals.Local.TheVariants as local
use Rattle.sgb_gen.specs.Boards.{BoardData}
use Rattle.sgb.specs.inner.Certain.{HasListingAtOnce, HasNamesAtOnce}
use Rattle.sgb.specs.Writing.{Effect, IsEndedFrom}
use Rattle.sgb.proofs.Endings.{no_line, nothing_put}
use Rattle.sgb_values.proofs.FirstRefusals.{first_other, generator_other}
use Rattle.sgb.proofs.Refusals.{left_out_own}
use Rattle.sgb.proofs.StdinValues.{answer_unread}

-- ---- faults

-- the exit of a `?` with another fault
pub exit_certain : {T : Type 0} (r : Result T Fault) (f : Fault) → IsErrAnd r (λ g. g ≡ f) → f ≢ fault.Panic NoRoom → IfErr r (λ g. g ≢ fault.Panic NoRoom)
exit_certain r f exit other = search (rules, err_from_is_err_and)

-- the exit of a `?` with a refusal
pub exit_panic : {T : Type 0} (r : Result T Fault) (p : Panic) → IsErrAnd r (λ g. g ≡ fault.Panic p) → p ≢ NoRoom → IfErr r (λ g. g ≢ fault.Panic NoRoom)
exit_panic r p exit other = search (rules, err_from_is_err_and)

-- what a write alone can fail
pub write_certain : {T : Type 0} (r : Result T Fault) → IfErr r (λ f. f ≡ fault.Write) → IfErr r (λ f. f ≢ fault.Panic NoRoom)
write_certain r h = grind (arith)

-- where an answer begins
pub place_other : (names : List (List ℕ)) (resume : Resume) (f : Fault) → left_out names resume ≡ Err f → f ≢ fault.Panic NoRoom
place_other names resume f is e = left_out_own names resume (is ∙ ap Err e)

-- the exit of a `?` where no vertex has the name
pub exit_nowhere : {T : Type 0} (r : Result T Fault) (from : Result ℕ Fault) (f : Fault) → IsErrAnd r (λ g. g ≡ f) → Err f ≡ from → from ≡ Err fault.NoVertex → r ≡ Err fault.NoVertex
exit_nowhere r from f exit is nowhere = search (rules, err_from_is_err_and)

-- some vertex has it
pub not_nowhere : {T : Type 0} (from : Result ℕ Fault) (k : ℕ) {r : Result T Fault} → Ok k ≡ from → from ≡ Err fault.NoVertex → r ≡ Err fault.NoVertex
not_nowhere from k is nowhere = absurd cc

-- ---- generators

-- a generator that is not accepted, where its names need no memory
pub names_refused : (f : Generator) (p : Panic) → ((code : Panic) → IsGeneratorRefused f code → ◌≡◌ {A = Result Local Panic} (Err p) (Err code))
    → (IsAcceptedAtOnce f → p ≢ NoRoom) → HasNamesAtOnce f → p ≢ NoRoom
names_refused f p refused accepted h = grind (arith, generator_other)

-- what is listed without memory is accepted without
listed_accepted : (f : Generator) (resume : Resume) → IsListedAtOnce f resume → IsAcceptedAtOnce f
listed_accepted (generator.Board p) resume h = tt
listed_accepted (generator.Simplex p) resume h = h
listed_accepted (generator.Subsets p) resume h = h

-- where its listing needs none
pub listing_refused : (f : Generator) (resume : Resume) (p : Panic) → ((code : Panic) → IsGeneratorRefused f code → ◌≡◌ {A = Result Local Panic} (Err p) (Err code))
    → (IsAcceptedAtOnce f → p ≢ NoRoom) → HasListingAtOnce f resume → p ≢ NoRoom
listing_refused f resume p refused accepted (inl h) = accepted (listed_accepted f resume h)
listing_refused f resume p refused accepted (inr h) = names_refused f p refused accepted (inr h)

-- a sum of one bound has one
few_of_sum : (n : ℤ) (bounds : List ℕ) → length bounds < 2 → IfOk (sum_of n bounds) (λ s. length s.bounds < 2)
few_of_sum (negsuc n) bounds few = tt
few_of_sum (pos n) bounds few = search (rules, few)

few_in_sum : (params : List ℤ) (sum : Result BoundedSum Panic) (directed : Bool) (s : SimplexData)
    → and_then sum (λ t. Ok (record { params = params; sum = t; directed = directed })) ≡ Ok s → IfOk sum (λ t. length t.bounds < 2) → length s.sum.bounds < 2
few_in_sum params (Err code) directed s is few = absurd cc
few_in_sum params (Ok t) directed s is few =
    let same : t ≡ s.sum = cc in
    subst (λ t. length t.bounds < 2) same few

-- a simplex of one bound has vectors of one entry
few_entries : (shape : Result Normalized Panic) (n : ℤ) (directed : Bool) (s : SimplexData)
    → and_then shape (λ shape. and_then (sum_of n shape.sizes) (λ sum. Ok (record { params = shape.params; sum = sum; directed = directed }))) ≡ Ok s
    → IfOk shape (λ shape. length shape.sizes < 2) → length s.sum.bounds < 2
few_entries (Err code) n directed s is few = absurd cc
few_entries (Ok shape) n directed s is few = few_in_sum shape.params (sum_of n shape.sizes) directed s is (few_of_sum n shape.sizes few)

-- of a simplex memory runs out where a unit might go to another entry, so not where there is none
pub unmoved : {T : Type 0} (P : Type 0) (p : SimplexParams) (l : Local) (r : Result T Fault) → ((s : SimplexData) × (accepted_simplex p ≡ Ok s) × (l ≡ local.Simplex s))
    → IfErr r (λ g. g ≡ fault.Panic NoRoom → P × HasUnitToMove (vector_graph_of l)) → IsAcceptedAtOnce (generator.Simplex p) → IfErr r (λ g. g ≢ fault.Panic NoRoom)
unmoved P p l (Ok x) made simplex one = tt
unmoved P p l (Err f) made simplex one = λ none.
    let unit : HasUnitToMove (simplex_vector_graph made.0) = subst (λ l. HasUnitToMove (vector_graph_of l)) made.2 (simplex none).1 in
    let bounds : length made.0.sum.bounds < 2 = few_entries (simplex_of p.n p.n0 p.n1 p.n2 p.n3 p.n4) p.n p.directed made.0 made.1 one in
    absurd (omega (arith, unit.2, length-sum_member made.0.sum unit.0 unit.1, bounds))

-- its listing begins nowhere, or takes no memory
pub listing_begun : {T : Type 0} (f : Generator) (resume : Resume) (l : Local) (r : Result T Fault) → IsLocalOf (generator_value f) (Ok l) → sort_of l ≡ sort_made f
    → ((code : Panic) → IsGeneratorRefused f code → Ok l ≡ Err code)
    → (IsPast (names_of (graph_described (described l))) resume → IfErr r (λ g. g ≢ fault.Panic NoRoom))
    → (sort_of l ≡ of_subsets → IfErr r (λ g. g ≢ fault.Panic NoRoom))
    → (sort_of l ≡ of_simplex → IfErr r (λ g. g ≡ fault.Panic NoRoom → (resume ≡ resumes.Whole) × HasUnitToMove (vector_graph_of l)))
    → ((p : SimplexParams) → f ≡ generator.Simplex p → (s : SimplexData) × (accepted_simplex p ≡ Ok s) × (l ≡ local.Simplex s))
    → HasListingAtOnce f resume → IfErr r (λ g. g ≢ fault.Panic NoRoom)
listing_begun (generator.Board p) resume l r is sort refused past subsets simplex bounds (inl from) = past (from (graph_described (described l)) (grind (arith)))
listing_begun (generator.Simplex p) resume l r is sort refused past subsets simplex bounds (inl h) = unmoved (resume ≡ resumes.Whole) p l r (bounds p refl) (simplex sort) h
listing_begun (generator.Subsets p) resume l r is sort refused past subsets simplex bounds (inl h) = subsets sort
listing_begun f resume l r is sort refused past subsets simplex bounds (inr h) =
    let none = refused h.0 h.1 in
    absurd cc

-- what is no board is listed as it is visited
pub other_sort : (l : Local) → ((b : BoardData) → l ≢ local.Board b) → sort_of l ≢ of_board
other_sort (local.Board b) other same = other b refl
other_sort (local.Simplex s) other same = absurd cc
other_sort (local.Subsets s) other same = absurd cc

-- what never runs out of memory does nothing where it does
pub never : {T : Type 0} (P : Type 0) (r : Result T Fault) → IfErr r (λ f. f ≢ fault.Panic NoRoom) → IfErr r (λ f. f ≡ fault.Panic NoRoom → P)
never P (Ok x) other = tt
never P (Err f) other = λ none. absurd (other none)

-- what a write alone can fail does nothing with another fault
pub write_alone : {T : Type 0} (P : Type 0) (r : Result T Fault) → IfErr r (λ f. f ≡ fault.Write) → IfErr r (λ f. f ≢ fault.Write → P)
write_alone P (Ok x) write = tt
write_alone P (Err f) write = λ other. absurd (other write)

-- want of memory is no fault of a write
pub room_alone : {T : Type 0} (P : Type 0) (r : Result T Fault) → IfErr r (λ f. f ≢ fault.Write → P) → IfErr r (λ f. f ≡ fault.Panic NoRoom → P)
room_alone P (Ok x) left = tt
room_alone P (Err f) left = λ none. left (λ write. absurd cc)

-- a head that is not left out is asked for
pub head_asked : (head : Bool) → (head ≡ false → ⊥) → head ≡ true
head_asked true some = refl
head_asked false some = absurd (some refl)

-- and it is where the answer is not resumed
pub whole_asked : {T : Type 0} (P : Type 0) (resume : Resume) (head : Bool) (r : Result T Fault) → (resume ≢ resumes.Whole → head ≡ false) → IfErr r (λ f. f ≢ fault.Write → (head ≡ true) × P)
    → IfErr r (λ f. f ≡ fault.Panic NoRoom → (resume ≡ resumes.Whole) × P)
whole_asked P resume head (Ok x) resumed left = tt
whole_asked P resumes.Whole head (Err f) resumed left = λ none. (refl, (left (λ write. absurd cc)).1)
whole_asked P (resumes.Skip k) head (Err f) resumed left = λ none. absurd (true≢false (sym (left (λ write. absurd cc)).0 ∙ resumed (λ whole. absurd cc)))
whole_asked P (resumes.After name) head (Err f) resumed left = λ none. absurd (true≢false (sym (left (λ write. absurd cc)).0 ∙ resumed (λ whole. absurd cc)))

-- a count that is known to be told is refused of no graph
pub never_refused : (P : Type 0) (s : Sort) (m : ℕ) → ((s ≡ of_board) ⊎ (s ≡ of_ordered_board) → 2 ^ 128 ≤ m) → ((s ≡ of_board) ⊎ (s ≡ of_ordered_board) → m < 2 ^ 128)
    → (s ≡ of_simplex → true ≡ false) → (s ≡ of_subsets → false ≡ true) → P
never_refused P of_board m great small simplex subsets = absurd (omega (arith, great (inl refl), small (inl refl)))
never_refused P of_ordered_board m great small simplex subsets = absurd (omega (arith, great (inr refl), small (inr refl)))
never_refused P of_simplex m great small simplex subsets = absurd (true≢false (simplex refl))
never_refused P of_subsets m great small simplex subsets = absurd (true≢false (sym (subsets refl)))

-- so where a count is refused it was not known to be told
pub told_or_unput : {P : Type 0} (told : Bool) (s : Sort) (m : ℕ) → ((s ≡ of_board) ⊎ (s ≡ of_ordered_board) → 2 ^ 128 ≤ m) → (told ≡ true → (s ≡ of_board) ⊎ (s ≡ of_ordered_board) → m < 2 ^ 128)
    → (s ≡ of_simplex → told ≡ false) → (s ≡ of_subsets → false ≡ true) → (told ≡ false → P) → P
told_or_unput {P} true s m great small simplex subsets later = never_refused P s m great (small refl) simplex subsets
told_or_unput false s m great small simplex subsets later = later refl

-- and what was left as it was is
pub exit_untouched : {T S : Type 0} (s : S) (r : Result T Fault) → IfErr r (λ f. f ≡ fault.Panic NoRoom → s ≡ s)
exit_untouched s (Ok x) = tt
exit_untouched s (Err f) = λ none. refl

same_generator : (f g : Generator) → expr.Generator f ≡ expr.Generator g → f ≡ g
same_generator f g e = cc

-- of an expression that is a generator
pub names_of_generator : (e : Expr) (f : Generator) → e ≡ expr.Generator f → ((f : Generator) × (e ≡ expr.Generator f) × IsAcceptedAtOnce f) ⊎ IsRefusedAtOnce (expression_of e) → HasNamesAtOnce f
names_of_generator e f is (inl h) = inl (subst IsAcceptedAtOnce (same_generator h.0 f (sym h.1 ∙ is)) h.2)
names_of_generator e f is (inr h) = inr (h.code, rw is at (h.refused []))

pub listing_of_generator : (e : Expr) (f : Generator) (resume : Resume) → e ≡ expr.Generator f → ((f : Generator) × (e ≡ expr.Generator f) × IsListedAtOnce f resume) ⊎ IsRefusedAtOnce (expression_of e) → HasListingAtOnce f resume
listing_of_generator e f resume is (inl h) = inl (subst (λ f. IsListedAtOnce f resume) (same_generator h.0 f (sym h.1 ∙ is)) h.2)
listing_of_generator e f resume is (inr h) = inr (h.code, rw is at (h.refused []))

-- ---- graphs

-- an expression that is no generator, where its names need no memory
pub names_of_graph : (e : Expr) → ((f : Generator) → e ≢ expr.Generator f) → ((f : Generator) × (e ≡ expr.Generator f) × IsAcceptedAtOnce f) ⊎ IsRefusedAtOnce (expression_of e) → IsRefusedAtOnce (expression_of e)
names_of_graph e other (inl h) = absurd (other h.0 h.1)
names_of_graph e other (inr h) = h

-- where its listing needs none
pub listing_of_graph : (e : Expr) (resume : Resume) → ((f : Generator) → e ≢ expr.Generator f) → ((f : Generator) × (e ≡ expr.Generator f) × IsListedAtOnce f resume) ⊎ IsRefusedAtOnce (expression_of e) → IsRefusedAtOnce (expression_of e)
listing_of_graph e resume other (inl h) = absurd (other h.0 h.1)
listing_of_graph e resume other (inr h) = h

-- the refusal of an expression that is refused at once
pub at_once_other : (input : List ℕ) (e : Expr) (p : Panic) → ((code : Panic) → IsRefusedFirst input (expression_of e) code → ◌≡◌ {A = Result GraphData Panic} (Err p) (Err code))
    → IsRefusedAtOnce (expression_of e) → p ≢ NoRoom
at_once_other input e p refused h is = search (rules, first_other)

-- no graph was made of it
pub at_once_unmade : {T : Type 0} (input : List ℕ) (e : Expr) (g : GraphData) (r : Result T Fault) → ((code : Panic) → IsRefusedFirst input (expression_of e) code → Ok g ≡ Err code)
    → IsRefusedAtOnce (expression_of e) → IfErr r (λ f. f ≢ fault.Panic NoRoom)
at_once_unmade input e g r made h = search rules

-- ---- runs

-- a request whose answer takes no memory reads no input
pub certain_unread : (r : Request) → NeedsNoMemory r → reads_input r ≡ false
certain_unread r needs = grind (arith)

-- so the answer is told in a run that reads no input
pub certain_ok : {T S : Type 0} (reads failed : Bool) (a : Result (List ℕ) Fault) (out : Effect S) (err : Change) (x : T) → err.after ≡ err.before
    → IsEndedFrom (reads && failed) a out (Ok x) → reads ≡ false → IsGiven (outcome_of a) (record { out = out; err = err; status = 0 })
certain_ok reads failed a out err x left ended unread = grind (arith, no_line)

pub certain_err : (T : Type 0) {S : Type 0} (reads failed : Bool) (a : Result (List ℕ) Fault) (f : Fault) (out : Effect S) (err : Change) → AppendsUnlessFailed err (fault_line f)
    → IsEndedFrom {T = T} (reads && failed) a out (Err f) → f ≢ fault.Panic NoRoom → reads ≡ false → out.told.failed ≡ false
    → IsGiven (outcome_of a) (record { out = out; err = err; status = status_of f })
certain_err T reads failed a f out err line ended other unread sound = grind (arith, nothing_put)

-- a request whose answer takes no memory was answered so on each input
pub certain_run : {S : Type 0} (r : Request) (l : Left S)
    → (reads_input r ≡ false → NeedsNoMemory r → l.out.told.failed ≡ false → (stdin : Result GraphData Panic) × IsGiven (outcome_of (answer_of r stdin)) l) → IsCertain r l
certain_run r l given needs sound other =
    let (stdin, is) = given (certain_unread r needs) needs sound in
    rw (answer_unread r other stdin (certain_unread r needs)) is
