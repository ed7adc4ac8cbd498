-- What writing a text leaves in a sink, and how the answer to a request ends: what holds, and what nearly does.
use Rattle.std.specs.Prelude.{◌≡◌, ℕ, Bool, true, false, List, Some, Ok, Err, codes, refl}
use Rattle.std.proofs.Common.{inl, inr}
use Rattle.sgb_vec.specs.declared.panics.Panic.TheVariants.{NoRoom}
use Rattle.sgb_file.specs.Devices.{Change, MemSinkState}
use Rattle.sgb_requests.specs.declared.faults.Fault.TheVariants as fault
use Rattle.sgb.specs.Writing.{Effect, IsCutOff, IsEnded, IsEndedBy, IsEndedFrom, IsUntouched, IsWhole, IsWritten, effect}

-- a sink that told an `a` and then `ab`
abbrev told : Bool → Change
told failed = record { before = Some (codes "a"); after = Some (codes "ab"); failed = failed }

-- one that told an `a`, and tells it still
abbrev told_alike : Bool → Change
told_alike failed = record { before = Some (codes "a"); after = Some (codes "a"); failed = failed }

-- a sink that is the text that it took
abbrev taken : List ℕ → List ℕ → Change → Effect (List ℕ)
taken old new told = record { old = old; new = new; told = told }

-- it took a `b`, or nothing was done to it
abbrev took_b : Bool → Effect (List ℕ)
took_b failed = taken (codes "a") (codes "ab") (told failed)

abbrev untouched : Effect (List ℕ)
untouched = taken (codes "a") (codes "a") (told_alike false)

-- ---- effects

-- the sink before and after, what it tells of both, and whether it has failed afterwards
pub effect_of_a_sink :
    effect {S = MemSinkState} (λ s. Some s.bytes) (λ s. s.failed) (record { bytes = codes "a"; room = 1; failed = false }) (record { bytes = codes "ab"; room = 0; failed = true })
    ≡ record { old = record { bytes = codes "a"; room = 1; failed = false }; new = record { bytes = codes "ab"; room = 0; failed = true }; told = told true }
effect_of_a_sink = refl

-- ---- texts written whole, or cut off

pub whole : IsWhole (codes "b") (told false)
whole = record { output = refl; sound = refl }

pub failed_after_all : IsWhole (codes "b") (told true) → ⊥
failed_after_all is = let e : true ≡ false = is.sound in absurd cc

-- the device's own fault where it has failed, else want of memory
pub ended : IsEndedBy fault.Write true fault.Write × IsEndedBy fault.Read true fault.Read × IsEndedBy fault.Write false (fault.Panic NoRoom)
ended = (inl (refl, refl), inl (refl, refl), inr (refl, refl))

pub failed_and_no_room : IsEndedBy fault.Write true (fault.Panic NoRoom) → ⊥
failed_and_no_room (inl (failed, is)) = absurd cc
failed_and_no_room (inr (sound, is)) = absurd cc

pub sound_and_its_fault : IsEndedBy fault.Write false fault.Write → ⊥
sound_and_its_fault (inl (failed, is)) = absurd cc
sound_and_its_fault (inr (sound, is)) = absurd cc

-- of `bc` a `b` was written
pub cut_off : IsCutOff (codes "bc") (told true) fault.Write × IsCutOff (codes "bc") (told false) (fault.Panic NoRoom)
cut_off = (record { output = (codes "b", codes "c", refl, refl); cause = inl (refl, refl) }, record { output = (codes "b", codes "c", refl, refl); cause = inr (refl, refl) })

pub written : IsWritten {T = ℕ} (codes "b") (told false) (Ok 0) × IsWritten {T = ℕ} (codes "bc") (told true) (Err fault.Write)
written = (whole, cut_off.0)

-- ---- sinks to which nothing was done

pub as_it_was : IsUntouched untouched
as_it_was = record { same = refl; told = refl; sound = refl }

-- another sink, other bytes, or one that has failed
pub other_sink : IsUntouched (taken (codes "a") (codes "ab") (told_alike false)) → ⊥
other_sink is = let e : codes "ab" ≡ codes "a" = is.same in absurd cc

pub other_bytes : IsUntouched (taken (codes "a") (codes "a") (told false)) → ⊥
other_bytes is = let e : Some (codes "ab") ≡ Some (codes "a") = is.told in absurd cc

pub failed_sink : IsUntouched (taken (codes "a") (codes "a") (told_alike true)) → ⊥
failed_sink is = let e : true ≡ false = is.sound in absurd cc

-- ---- the ends of answers

-- answered, and cut off
pub answer_ended : IsEnded {T = ℕ} (Ok (codes "b")) (took_b false) (Ok 0) × IsEnded {T = ℕ} (Ok (codes "bc")) (took_b true) (Err fault.Write)
answer_ended = (whole, cut_off.0)

-- refused: by its own fault, or out of memory
pub refusal_ended : IsEnded {T = ℕ} (Err fault.NoVertex) untouched (Err fault.NoVertex) × IsEnded {T = ℕ} (Err fault.NoVertex) untouched (Err (fault.Panic NoRoom))
refusal_ended = ((inl refl, as_it_was), (inr refl, as_it_was))

pub other_fault : IsEnded {T = ℕ} (Err fault.NoVertex) untouched (Err fault.Usage) → ⊥
other_fault (inl is, same) = absurd cc
other_fault (inr is, same) = absurd cc

pub refusal_answered : IsEnded {T = ℕ} (Err fault.NoVertex) untouched (Ok 0) → ⊥
refusal_answered is = is

-- where standard input failed there is no answer
pub ended_from : IsEndedFrom {T = ℕ} true (Ok (codes "b")) untouched (Err fault.Read) × IsEndedFrom {T = ℕ} false (Ok (codes "b")) (took_b false) (Ok 0)
ended_from = ((as_it_was, refl), whole)

pub answered_unread : IsEndedFrom {T = ℕ} true (Ok (codes "b")) untouched (Ok 0) → ⊥
answered_unread (same, is) = absurd cc
