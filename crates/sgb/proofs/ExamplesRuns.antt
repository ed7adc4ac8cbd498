-- What a run leaves, what it reads, and what words of the command line make of it: what holds, and what nearly does.
use Rattle.std.specs.Prelude.{◌≡◌, ◌++◌, ◌+◌, ℕ, pos, Bool, true, false, List, [], ◌∷◌, length, map, Some, None, Result, Ok, Err, codes, refl}
use Rattle.std.proofs.Common.{arith, ap, inl, inr, subst, sym}
use Rattle.std.proofs.Math.Seq.{take-append_seam}
use Rattle.std.proofs.lemmas.Bool.{leb-true}
use Rattle.std.specs.Fmt.{digits}
use Rattle.std.specs.declared.io.ErrorKind.TheVariants.{NotFound, OutOfMemory}
use Rattle.sgb_vec.specs.declared.panics.Panic.TheVariants.{Early, NoRoom}
use Rattle.sgb_graph.specs.Draws.{plain_draws}
use Rattle.sgb_expr.specs.declared.expressions.Expr.TheVariants as expr
use Rattle.sgb_expr.specs.declared.flips.FlipParams.{FlipParams}
use Rattle.sgb_requests.specs.Faults.{fault_line}
use Rattle.sgb_requests.specs.Reading.{IsFlipReadAs, IsReadAs}
use Rattle.sgb_requests.specs.declared.faults.Fault.{Fault}
use Rattle.sgb_requests.specs.declared.faults.Fault.TheVariants as fault
use Rattle.sgb_requests.specs.declared.requests.Request.TheVariants as request
use Rattle.sgb_requests.proofs.PlainTexts.{expression_plain, flip_plain}
use Rattle.sgb_requests.proofs.PlainWords.{flip_law, queen_law, save_law}
use Rattle.sgb_values.specs.Values.{most_input}
use Rattle.sgb_values.proofs.Examples.{no_file_is_stdin}
use Rattle.sgb.specs.FlipAnswers.{number_lines}
use Rattle.sgb.specs.Inputs.{IsKeptOfInput, IsReadFrom, LosesAtMost}
use Rattle.sgb.specs.Outcomes.{Outcome, outcome_of, reads_input}
use Rattle.sgb.specs.Program.{AskForNoInput, IsProgramRun, unread_fault}
use Rattle.sgb.specs.Runs.{AreUsed, Input, IsAnswerGiven, IsAnswerRun, IsGiven, IsReported, IsRunFrom, IsRunOf, IsRunOn, IsStopped, Left}
use Rattle.sgb.specs.Writing.{Effect}

-- a sink that took this text, and is that text
abbrev took : List ℕ → Bool → Effect (List ℕ)
took text failed = record { old = []; new = text; told = record { before = Some []; after = Some text; failed = failed } }

-- what a run leaves of it, where standard error took this line
abbrev left : List ℕ → Bool → List ℕ → ℕ → Left (List ℕ)
left text failed line status =
    record { out = took text failed; err = record { before = Some []; after = Some line; failed = false }; status = status }

-- ---- what is read of standard input

pub lost : LosesAtMost 3 (Some (codes "abc")) (Some (codes "c")) × LosesAtMost 2 (Some (codes "abc")) (Some (codes "c"))
lost = ((codes "ab", leb-true 2 3 refl, refl), (codes "ab", leb-true 2 2 refl, refl))

pub lost_more : LosesAtMost 1 (Some (codes "ab")) (Some []) → ⊥
lost_more ([], short, is) = absurd cc
lost_more (x ∷ [], short, is) = absurd cc
lost_more (x ∷ y ∷ more, short, is) = absurd (omega (arith, short))

-- to the end, or with the fault of a source that has failed
pub read_from : IsReadFrom {T = ℕ} false (Ok 0) × IsReadFrom {T = ℕ} true (Err fault.Read) × IsReadFrom {T = ℕ} false (Err (fault.Panic NoRoom))
read_from = (refl, inl (refl, refl), inr (refl, refl))

pub read_of_failed : IsReadFrom {T = ℕ} true (Ok 0) → ⊥
read_of_failed is = absurd cc

-- 1 GiB and one byte more are kept, and nothing after them
pub kept : IsKeptOfInput (Some (codes "b")) (codes "b") × IsKeptOfInput None (codes "b")
kept = (refl, tt)

pub kept_of_more : (input more : List ℕ) → length input ≡ 1_073_741_825 → IsKeptOfInput (Some (input ++ more)) input
kept_of_more input more many = let e : most_input + 1 ≡ length input = sym many in rw e (sym (take-append_seam input more))

-- ---- answers given in full, and runs that were stopped

-- output, line and status of the answer
pub given : IsGiven (record { output = codes "b"; line = codes "x"; status = 1 }) (left (codes "b") false (codes "x") 1)
given = record { output = refl; line = refl; exit = refl }

pub other_status : IsGiven (record { output = codes "b"; line = codes "x"; status = 1 }) (left (codes "b") false (codes "x") 2) → ⊥
other_status is = let e : ◌≡◌ {A = ℕ} 2 1 = is.exit in absurd cc

-- of `bc` a `b` was written, and then the sink failed, or memory ran out
abbrev answer_bc : Outcome
answer_bc = record { output = codes "bc"; line = []; status = 0 }

pub stopped : IsStopped fault.Write answer_bc (left (codes "b") true (codes "sgb: write fault\n") 3)
unfolding fault_line
stopped = record { output = (codes "b", codes "c", refl, refl); line = refl; exit = refl }

pub stopped_as_answered : IsStopped fault.Write answer_bc (left (codes "b") true (codes "sgb: write fault\n") 0) → ⊥
stopped_as_answered is = let e : ◌≡◌ {A = ℕ} 0 3 = is.exit in absurd cc

pub stopped_for_memory : IsStopped (fault.Panic NoRoom) answer_bc (left (codes "b") false (codes "Something went wrong (panic code 1)!\n") 1)
unfolding digits fault_line
stopped_for_memory = record { output = (codes "b", codes "c", refl, refl); line = refl; exit = refl }

pub run_of :
    IsRunOf answer_bc (left (codes "b") true (codes "sgb: write fault\n") 3) × IsRunOf answer_bc (left (codes "bc") false [] 0)
    × IsRunOf answer_bc (left (codes "b") false (codes "Something went wrong (panic code 1)!\n") 1)
run_of = (stopped, inl (record { output = refl; line = refl; exit = refl }), inr stopped_for_memory)

-- where the sink has failed nothing counts as answered
pub failed_after_all : IsRunOf answer_bc (left (codes "bc") true [] 0) → ⊥
failed_after_all is = let e : ◌≡◌ {A = ℕ} 0 3 = is.exit in absurd cc

-- ---- runs by how standard input ended

pub reported : IsReported fault.Read (left [] false (codes "sgb: read fault\n") 3)
unfolding fault_line
reported = record { out = record { same = refl; told = refl; sound = refl }; line = refl; exit = refl }

-- it failed; it did not, and the request was answered, or refused
pub run_from :
    IsRunFrom true (Ok (codes "b")) (left [] false (codes "sgb: read fault\n") 3) × IsRunFrom false (Ok (codes "b")) (left (codes "b") false [] 0)
    × IsRunFrom false (Err fault.NoVertex) (left [] false (codes "sgb: no such vertex\n") 1)
unfolding fault_line
run_from = (reported, (inl (record { output = refl; line = refl; exit = refl }), tt), (inl (record { output = refl; line = refl; exit = refl }), refl))

-- a refused request changes no sink, also none that tells nothing of it
pub changed : IsRunFrom false (Err fault.NoVertex) (record (left [] false (codes "sgb: no such vertex\n") 1) { out = record (took [] false) { new = codes "b" } }) → ⊥
changed is = let e : codes "b" ≡ [] = is.1 in absurd cc

-- ---- runs on requests

-- flip(1,5,0,0), which has no number to write
abbrev no_numbers : FlipParams
no_numbers = record { start = pos 1; skip = pos 5; count = pos 0; m = pos 0 }

-- it reads no input, so that it is nothing to it that this has failed
pub run_on_flip : IsRunOn (request.Flip no_numbers) (record { bytes = Some (codes "0\n"); failed = true }) (left [] false [] 0)
unfolding plain_draws number_lines
run_on_flip = (codes "0\n", refl, Ok [], (Err Early, no_file_is_stdin, refl), (inl (record { output = refl; line = refl; exit = refl }), tt))

-- saving `stdin`, which is no file, or has failed
pub run_on_stdin :
    IsRunOn (request.Save expr.Stdin) (record { bytes = Some (codes "0\n"); failed = false }) (left [] false (codes "Something went wrong (panic code 10)!\n") 1)
    × IsRunOn (request.Save expr.Stdin) (record { bytes = None; failed = true }) (left [] false (codes "sgb: read fault\n") 3)
unfolding digits fault_line
run_on_stdin = (
  (codes "0\n", refl, Err (fault.Panic Early), (Err Early, no_file_is_stdin, refl), (inl (record { output = refl; line = refl; exit = refl }), refl)),
  (codes "0\n", tt, Err (fault.Panic Early), (Err Early, no_file_is_stdin, refl), reported),
)

-- ---- runs of other programs

-- the bytes that count: those that are read, or none
pub used : AreUsed true (Some (codes "b")) (codes "b") × AreUsed false (Some (codes "b")) []
used = ((λ reads. refl, λ reads. absurd cc), (λ reads. absurd cc, λ reads. refl))

pub used_unread : AreUsed false (Some (codes "b")) (codes "b") → ⊥
used_unread is = let e : codes "b" ≡ [] = is.1 refl in absurd cc

pub read_unused : AreUsed true (Some (codes "b")) [] → ⊥
read_unused is = let e : [] ≡ codes "b" = is.0 refl in absurd cc

-- a program whose answer is what it reads
abbrev echoes : List ℕ → Result (List ℕ) Fault → Type 0
echoes text answer = answer ≡ Ok text

pub echoed : IsAnswerRun true echoes (record { bytes = Some (codes "b"); failed = false }) (left (codes "b") false [] 0)
echoed = (codes "b", used.0, λ a is. subst (λ x. IsRunFrom false x (left (codes "b") false [] 0)) (sym is) run_from.1)

pub echoed_nothing : IsAnswerRun false echoes (record { bytes = Some (codes "b"); failed = true }) (left [] false [] 0)
echoed_nothing =
    ([], used.1, λ a is. subst (λ x. IsRunFrom false x (left [] false [] 0)) (sym is) (inl (record { output = refl; line = refl; exit = refl }), tt))

pub echo_unread : IsAnswerRun true echoes (record { bytes = Some (codes "b"); failed = true }) (left [] false (codes "sgb: read fault\n") 3)
echo_unread = (codes "b", used.0, λ a is. reported)

-- answered in full where the sink is sound
pub answer_given : IsAnswerGiven echoes (left [] false [] 0)
answer_given sound a is = subst (λ x. IsGiven (outcome_of x) (left [] false [] 0)) (sym is) (record { output = refl; line = refl; exit = refl })

pub answer_not_given : IsAnswerGiven echoes (left [] false [] 1) → ⊥
answer_not_given is = let e : ◌≡◌ {A = ℕ} 1 0 = (is refl (Ok []) refl).exit in absurd cc

pub answer_of_failed : IsAnswerGiven echoes (left [] true [] 3)
answer_of_failed failed a is = absurd cc

-- ---- words

pub words_unread : map unread_fault (OutOfMemory ∷ NotFound ∷ []) ≡ fault.Panic NoRoom ∷ fault.Usage ∷ []
words_unread = refl

-- `sgb queen` asks for no input, and `sgb save stdin` does
pub queen_asks_for_none : AskForNoInput (codes "sgb" ∷ codes "queen" ∷ [])
queen_asks_for_none r is = let e : r ≡ request.Queen = (queen_law (codes "sgb") (Ok r)).0 is in ap reads_input e

pub save_asks : IsReadAs (codes "stdin") (Ok expr.Stdin) → AskForNoInput (codes "sgb" ∷ codes "save" ∷ codes "stdin" ∷ []) → ⊥
save_asks read none =
    let asked = (save_law (codes "sgb") (codes "stdin") (Ok (request.Save expr.Stdin)) (expression_plain (codes "stdin") expr.Stdin read)).1 (expr.Stdin, read, refl) in
    let e : true ≡ false = none (request.Save expr.Stdin) asked in
    absurd cc

-- `sgb flip flip(1,5,0,0)` was run
pub flip_called :
    IsFlipReadAs (codes "flip(1,5,0,0)") (Ok no_numbers)
    → IsProgramRun (codes "sgb" ∷ codes "flip" ∷ codes "flip(1,5,0,0)" ∷ []) (record { bytes = Some (codes "0\n"); failed = true }) (left [] false [] 0)
unfolding plain_draws number_lines
flip_called read =
    let asked = (flip_law (codes "sgb") (codes "flip(1,5,0,0)") (Ok (request.Flip no_numbers)) (flip_plain (codes "flip(1,5,0,0)") no_numbers read)).1 (no_numbers, read, refl) in
    inl (request.Flip no_numbers, asked, run_on_flip, λ needs sound stdin. record { output = refl; line = refl; exit = refl })

-- out of memory any words may be refused
pub no_room : (words : List (List ℕ)) (source : Input) → IsProgramRun words source (left [] false (codes "Something went wrong (panic code 1)!\n") 1)
unfolding digits fault_line
no_room words source = inr (fault.Panic NoRoom, refl, record { out = record { same = refl; told = refl; sound = refl }; line = refl; exit = refl })
