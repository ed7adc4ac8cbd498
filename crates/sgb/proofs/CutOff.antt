-- Texts written part by part, until a part is cut off.
use Rattle.std.proofs.Common.{arith, rules, ◌≡◌, ◌++◌, Bool, ℕ, List, Option, Result, Ok, Err, IfErr, false}
use Rattle.std.specs.Result.{IsErrAnd}
use Rattle.std.proofs.lemmas.Result.{err_from_is_err_and}
use Rattle.std.specs.Io.KnownBytes.{Appends}
use Rattle.std.proofs.KnownBytes.{Appends-trans}
use Rattle.sgb_file.proofs.SoFar.{SoFar, so_far-prefix}
use Rattle.sgb_file.proofs.WrittenPrefixes.{prefix_more, prefix_none, prefix_after}
use Rattle.sgb_file.specs.Devices.{Change}
use Rattle.sgb_vec.specs.declared.panics.Panic.{Panic}
use Rattle.sgb_vec.specs.declared.panics.Panic.TheVariants.{NoRoom}
use Rattle.sgb.specs.Writing.{IsWritten, IsCutOff}
use Rattle.sgb_requests.specs.declared.faults.Fault.{Fault}
use Rattle.sgb_requests.specs.declared.faults.Fault.TheVariants as fault

-- the exit of a `?`, where its fault cut the text off
pub exit_cut : {T : Type 0} (text : List ℕ) (out : Change) (r : Result T Fault) (f : Fault) → IsErrAnd r (λ g. g ≡ f) → IsCutOff text out f → IsWritten text out r
exit_cut text out r f exit cut = search (rules, err_from_is_err_and)

-- a text cut off is one with more after it cut off
pub cut_more : (xs ys : List ℕ) (out : Change) (f : Fault) → IsCutOff xs out f → IsCutOff (xs ++ ys) out f
cut_more xs ys out f p = record { output = prefix_more out.before out.after xs ys p.output; cause = p.cause }

-- after a whole text, the next is cut off
pub cut_after : (a b c : Option (List ℕ)) (failed : Bool) (xs ys : List ℕ) (f : Fault) → Appends a b xs
    → IsCutOff ys (record { before = b; after = c; failed = failed }) f → IsCutOff (xs ++ ys) (record { before = a; after = c; failed = failed }) f
cut_after a b c failed xs ys f p q = record { output = prefix_after a b c xs ys p q.output; cause = q.cause }

-- after a whole text, what becomes of the next is what becomes of both
pub written_after : {T : Type 0} (a b c : Option (List ℕ)) (failed : Bool) (xs ys : List ℕ) (r : Result T Fault) → Appends a b xs
    → IsWritten ys (record { before = b; after = c; failed = failed }) r → IsWritten (xs ++ ys) (record { before = a; after = c; failed = failed }) r
written_after a b c failed xs ys (Ok x) p q = record { output = Appends-trans a b c xs ys p q.output; sound = q.sound }
written_after a b c failed xs ys (Err f) p q = cut_after a b c failed xs ys f p q

-- the next part was cut off
pub so_far-cut : (all part left rest : List ℕ) (a b c : Option (List ℕ)) (failed : Bool) (f : Fault) → left ≡ part ++ rest → SoFar all left a b
    → IsCutOff part (record { before = b; after = c; failed = failed }) f → IsCutOff all (record { before = a; after = c; failed = failed }) f
so_far-cut all part left rest a b c failed f e p q =
    record { output = so_far-prefix all part left rest a b c e p q.output; cause = q.cause }

-- the exit of a `?` out of memory, before anything was written
pub exit_unwritten : {T : Type 0} (text : List ℕ) (a : Option (List ℕ)) (failed : Bool) (r : Result T Fault) (p : Panic) → IsErrAnd r (λ f. f ≡ fault.Panic p) → p ≡ NoRoom → failed ≡ false
    → IsWritten text (record { before = a; after = a; failed = failed }) r
exit_unwritten text a failed r p exit memory sound = grind (arith, err_from_is_err_and, prefix_none)

-- the exit of a `?` with the fault of a write
pub exit_write : {T : Type 0} (r : Result T Fault) (f : Fault) → IsErrAnd r (λ g. g ≡ f) → f ≡ fault.Write → IfErr r (λ g. g ≡ fault.Write)
exit_write r f exit is = grind (arith, err_from_is_err_and)

-- the exit of a `?` with a fault of which something holds
pub exit_kept : {T : Type 0} (P : Fault → Type 0) (r : Result T Fault) (f : Fault) → IsErrAnd r (λ g. g ≡ f) → P f → IfErr r P
exit_kept P r f exit h = let p = err_from_is_err_and r exit in rw (p.1, p.2) h
