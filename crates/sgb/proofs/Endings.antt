-- What a run leaves, from what answering the request left.
use Rattle.std.proofs.Common.{arith, ◌≡◌, ℕ, Bool, true, false, List, [], Option, Result, Ok, Err, IfErr, is_err, ◌+◌, take, None, Some, inl, inr, refl}
use Rattle.std.specs.Io.KnownBytes.{Appends, Keeps}
use Rattle.std.proofs.KnownBytes.{Appends-nil}
use Rattle.std.specs.Result.{IsErrAnd, result_map_both}
use Rattle.std.proofs.lemmas.Result.{err_from_is_err_and}
use Rattle.sgb_vec.specs.declared.panics.Panic.TheVariants.{NoRoom}
use Rattle.sgb_vec.specs.declared.panics.Panic.{Panic}
use Rattle.sgb_graph.specs.Graphs.{GraphData}
use Rattle.sgb_vec.specs.Results.{IsValue}
use Rattle.sgb.specs.Outcomes.{answer_from}
use Rattle.sgb_file.specs.Devices.{AppendsUnlessFailed, Change}
use Rattle.sgb_requests.specs.Faults.{fault_line, status_of}
use Rattle.sgb.specs.Runs.{AreUsed, IsRunFrom}
use Rattle.sgb.specs.Writing.{Effect, IsEnded, IsEndedFrom, IsEndedBy, IsUntouched, IsWritten}
use Rattle.sgb_requests.specs.declared.faults.Fault.{Fault}
use Rattle.sgb_requests.specs.declared.faults.Fault.TheVariants as fault
use Rattle.sgb_file.proofs.WrittenPrefixes.{prefix_all, prefix_none}
use Rattle.sgb_values.specs.Values.{most_input}

-- the bytes that a sink tells, before and after, and whether it has failed
abbrev pub change_of : Option (List ℕ) → Option (List ℕ) → Bool → Change
change_of before after failed = record { before = before; after = after; failed = failed }

-- what was done to a sink
abbrev pub effect_of : {S : Type 0} → S → S → Change → Effect S
effect_of old new told = record { old = old; new = new; told = told }

-- an empty line is nothing
pub no_line : (failed : Bool) (a : Option (List ℕ)) → AppendsUnlessFailed (change_of a a failed) []
no_line failed a = grind (arith, Appends-nil)

-- no fault has the status of an answer
pub fault_status : (f : Fault) → status_of f ≡ 0 → ⊥
fault_status f e = grind (arith)

-- an answer that was written, once what the sink held back was passed on, or that failed
pub flush_ended : {T R S : Type 0} (a : Result (List ℕ) Fault) (old mid new : S) (x : T) (w v u : Option (List ℕ)) (before after : Bool) (r : Result R Fault)
    → IsEnded a (effect_of old mid (change_of w v before)) (Ok x) → Keeps v u → after ≡ is_err r → IfErr r (λ f. f ≡ fault.Write) → IsEnded a (effect_of old new (change_of w u after)) r
flush_ended a old mid new x w v u before after r p kept sound fault = grind (arith, prefix_all)

-- nothing was done to a sink
pub untouched : {S : Type 0} (s : S) (w : Option (List ℕ)) (failed : Bool) → failed ≡ false → IsUntouched (effect_of s s (change_of w w failed))
untouched s w failed h = record { same = refl; told = refl; sound = h }

-- so nothing was put
pub nothing_put : {S : Type 0} (out : Effect S) → IsUntouched out → Appends out.told.before out.told.after []
nothing_put out is = rw is.told (Appends-nil out.told.before)

-- a fault with the status 1 leaves the sink as it was, where want of memory does
pub one_untouched : (T : Type 0) {S : Type 0} (a : Result (List ℕ) Fault) (out : Effect S) (f : Fault) → IsEnded {T = T} a out (Err f)
    → (f ≡ fault.Panic NoRoom → out.new ≡ out.old) → status_of f ≡ 1 → out.new ≡ out.old
one_untouched T (Ok text) out f ended room one = grind arith
one_untouched T (Err g) out f ended room one = ended.1.same

-- what holds of each fault
pub all_err : {T : Type 0} (P : Fault → Type 0) (r : Result T Fault) → ((f : Fault) → P f) → IfErr r P
all_err P (Ok x) each = tt
all_err P (Err f) each = each f

-- the fault of a write has another status
pub write_status : {T : Type 0} (P : Type 0) (r : Result T Fault) → IfErr r (λ f. f ≡ fault.Write) → IfErr r (λ f. status_of f ≡ 1 → P)
write_status P (Ok x) h = tt
write_status P (Err f) h = λ one. absurd cc

-- a refusal before anything was written
pub refused_at_once : (T : Type 0) {S : Type 0} (a : Result (List ℕ) Fault) (s : S) (f : Fault) (w : Option (List ℕ)) (failed : Bool) → a ≡ Err f → failed ≡ false
    → IsEnded {T = T} a (effect_of s s (change_of w w failed)) (Err f)
refused_at_once T a s f w failed e h = rw e (inl refl, untouched s w failed h)

-- out of memory before anything was written
pub memory_at_once : (T : Type 0) {S : Type 0} (a : Result (List ℕ) Fault) (s : S) (w : Option (List ℕ)) (failed : Bool) → failed ≡ false
    → IsEnded {T = T} a (effect_of s s (change_of w w failed)) (Err (fault.Panic NoRoom))
memory_at_once T (Ok text) s w failed h = record { output = prefix_none w text; cause = inr (h, refl) }
memory_at_once T (Err f) s w failed h = (inr refl, untouched s w failed h)

-- the exit of a `?` with the fault that ends the request
pub exit_ended : {T S : Type 0} (a : Result (List ℕ) Fault) (out : Effect S) (r : Result T Fault) (f : Fault) → IsErrAnd r (λ g. g ≡ f)
    → IsEnded {T = T} a out (Err f) → IsEnded a out r
exit_ended a out r f exit ended = let p = err_from_is_err_and r exit in rw (p.1, p.2) ended

-- an answer that was written or cut off, once it is known where it begins
pub ended_after : {T S : Type 0} (from : Result ℕ Fault) (k : ℕ) (text : ℕ → List ℕ) (out : Effect S) (r : Result T Fault)
    → Ok k ≡ from → IsWritten (text k) out.told r → IsEnded (result_map_both text (λ f. f) from) out r
ended_after from k text out r e p = rw (← e) p

-- an answer refused because it is not known where it begins
pub refused_after : (T : Type 0) {S : Type 0} (from : Result ℕ Fault) (text : ℕ → List ℕ) (s : S) (f : Fault) (w : Option (List ℕ)) (failed : Bool)
    → Err f ≡ from → failed ≡ false → IsEnded {T = T} (result_map_both text (λ f. f) from) (effect_of s s (change_of w w failed)) (Err f)
refused_after T from text s f w failed e h = rw (← e) (inl refl, untouched s w failed h)

-- the exit of a `?` with a refusal of the graph that an answer is made of
pub refused_value : {T S : Type 0} (v : Result GraphData Panic) (answer : GraphData → Result (List ℕ) Fault) (s : S) (p : Panic) (r : Result T Fault) (w : Option (List ℕ)) (failed : Bool)
    → IsErrAnd r (λ f. f ≡ fault.Panic p) → IsValue v (Err p) → failed ≡ false → IsEnded (answer_from v answer) (effect_of s s (change_of w w failed)) r
refused_value v answer s p r w failed exit (inl is) sound = let q = err_from_is_err_and r exit in rw (q.1, q.2, is) (inl refl, untouched s w failed sound)
refused_value v answer s p r w failed exit (inr is) sound = let q = err_from_is_err_and r exit in rw (q.1, q.2, is) (memory_at_once _ (answer_from v answer) s w failed sound)

-- an answer that is made of the graph of an expression
pub ended_value : {T S : Type 0} (v : Result GraphData Panic) (g : GraphData) (answer : GraphData → Result (List ℕ) Fault) (out : Effect S) (r : Result T Fault)
    → v ≡ Ok g → IsEnded (answer g) out r → IsEnded (answer_from v answer) out r
ended_value v g answer out r e p = rw e p

-- some bytes count for an answer
pub some_used : (reads : Bool) (told : Option (List ℕ)) → (used : List ℕ) × AreUsed reads told used
some_used false told = ([], (λ e. absurd cc, λ _. refl))
some_used true None = ([], (λ _. tt, λ _. refl))
some_used true (Some bytes) = (take (most_input + 1) bytes, (λ _. refl, λ e. absurd cc))

-- reading failed before anything was written
pub read_refused : (T : Type 0) {S : Type 0} (failed : Bool) (a : Result (List ℕ) Fault) (s : S) (f : Fault) (w : Option (List ℕ)) (unsound : Bool)
    → IsEndedBy fault.Read failed f → unsound ≡ false → IsEndedFrom {T = T} failed a (effect_of s s (change_of w w unsound)) (Err f)
read_refused T failed a s f w unsound h sound = grind (arith, memory_at_once)

-- reading ended well
pub read_sound : {T S : Type 0} (failed : Bool) (a : Result (List ℕ) Fault) (out : Effect S) (r : Result T Fault)
    → failed ≡ false → IsEnded a out r → IsEndedFrom failed a out r
read_sound failed a out r sound p = rw sound p

-- the request was answered in full
pub answers_from_ok : {T S : Type 0} (failed : Bool) (a : Result (List ℕ) Fault) (out : Effect S) (err : Change) (x : T)
    → err.after ≡ err.before → IsEndedFrom failed a out (Ok x) → IsRunFrom failed a (record { out = out; err = err; status = 0 })
answers_from_ok failed a out err x left p = grind (arith, no_line)

-- the request ended with a fault, and its line was written
pub answers_from_err : (T : Type 0) {S : Type 0} (failed : Bool) (a : Result (List ℕ) Fault) (f : Fault) (out : Effect S) (err : Change)
    → AppendsUnlessFailed err (fault_line f) → IsEndedFrom {T = T} failed a out (Err f) → IsRunFrom failed a (record { out = out; err = err; status = status_of f })
answers_from_err T true a f out err line p = grind arith
answers_from_err T false (Ok text) f out err line p = grind arith
answers_from_err T false (Err g) f out err line p = grind (arith, nothing_put, prefix_all)
