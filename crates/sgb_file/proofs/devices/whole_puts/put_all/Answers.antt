use Rattle.sgb_vec.proofs.Common.{rules, ◌++◌, take, ◌∙◌, ◌≡◌, ◌≢◌, ℕ, ◌-◌, ◌≤◌, ◌<◌, Bool, true, false, List, length, drop, arith, append_assoc, take-append-drop, length-append, length-take-le, Appends-trans, append-nil, nat_tests, nil_from_length, ap, ◌==◌, take_rest}
use Rattle.sgb_file.proofs.devices.whole_puts.put_all.Goals as goal

-- a prefix of what is left moves after what is done
moves_prefix : (all done rest : List ℕ) (n : ℕ) → all ≡ done ++ rest → all ≡ (done ++ take n rest) ++ take (length rest - n) (drop n rest)
moves_prefix all done rest n e = grind (arith, take-append-drop, append_assoc, take_rest)

-- something is done where a prefix that is not empty was taken
some_done : (done rest : List ℕ) (n : ℕ) → 0 < n → n ≤ length rest → length (done ++ take n rest) ≢ 0
some_done done rest n some fits none = omega (arith, length-append done (take n rest), length-take-le n rest fits)

-- what stays failed and has not failed had not failed before
sound_before : (old new : Bool) → (old ≡ true → new ≡ true) → new ≡ false → new ≡ old
sound_before old new stays sound = grind arith

-- all is done where nothing is left, and not nothing where something is
all_done : (all done rest : List ℕ) → all ≡ done ++ rest → true ≡ (length rest == 0) → all ≡ done
all_done all done rest split over =
    let none : length rest ≡ 0 = grind (arith, nat_tests) in
    split ∙ (ap (λ xs. done ++ xs) (nil_from_length rest none) ∙ append-nil done)

some_left : (all done rest : List ℕ) → all ≡ done ++ rest → false ≡ (length rest == 0) → length all ≢ 0
some_left all done rest split more none = grind (arith, nat_tests, length-append done rest)

pub loop-rest-preserved : goal.loop-rest-preserved
loop-rest-preserved g c =
    let ((done, split, appended, _, _), as_before) = c.loop-rest.invariant in
    let put = c.in_ok-count.ensures in
    let count = c.in_ok-count.count in
    let rest = c.loop-rest.rest.now in
    let some = some_done done rest count (put.progress (search rules)) put.bound in (
      (done ++ take count rest, moves_prefix _ done rest count split, Appends-trans _ _ _ _ _ appended put.took, λ _. put.failed, λ none. absurd (some none)),
      sound_before _ _ put.stays_failed put.failed ∙ as_before,
    )

pub returns-in_err-count-clause-empty : goal.returns-in_err-count-clause-empty
returns-in_err-count-clause-empty g c = λ none. absurd (some_left _ c.loop-rest.invariant.0.0 _ c.loop-rest.invariant.0.1 c.loop-rest-test.ensures none)

pub returns-in_err-count-clause-no_call : goal.returns-in_err-count-clause-no_call
returns-in_err-count-clause-no_call g c = λ none. absurd (some_left _ c.loop-rest.invariant.0.0 _ c.loop-rest.invariant.0.1 c.loop-rest-test.ensures none)

pub returns-clause-put : goal.returns-clause-put
returns-clause-put g c =
    let (done, split, appended, _, _) = c.loop-rest.invariant.0 in
    rw (all_done _ done _ split c.loop-rest-test.ensures) appended

pub returns-clause-told : goal.returns-clause-told
returns-clause-told g c = λ some.
    let (done, split, _, sound, _) = c.loop-rest.invariant.0 in
    sound (rw (all_done _ done _ split c.loop-rest-test.ensures) at some)

pub returns-clause-no_call : goal.returns-clause-no_call
returns-clause-no_call g c = λ none.
    let (done, split, _, _, as_before) = c.loop-rest.invariant.0 in
    as_before (rw (all_done _ done _ split c.loop-rest-test.ensures) at none)
