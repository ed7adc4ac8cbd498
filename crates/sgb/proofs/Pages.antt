-- Texts handed to a page of output, part by part.
use Rattle.std.proofs.Common.{arith, rules, ◌≡◌, ◌++◌, ◌∙◌, Bool, ℕ, false, List, [], ◌∷◌, Option, Result, Ok, Err, IfErr, OnOk, inr, ap, refl, sym, append_assoc, append-nil}
use Rattle.std.specs.Io.KnownBytes.{Appends}
use Rattle.std.specs.List.{flat_map}
use Rattle.std.specs.Result.{IsErrAnd}
use Rattle.std.proofs.lemmas.Result.{err_from_is_err_and}
use Rattle.std.proofs.KnownBytes.{Appends-nil, Appends-trans}
use Rattle.sgb_file.specs.Devices.{Change, change}
use Rattle.sgb_gen.specs.ArcSinks.{AreGiven}
use Rattle.sgb_gen.specs.LocalLists.{LocalArc}
use Rattle.sgb.specs.inner.Locals.{local_line}
use Rattle.sgb_file.proofs.SoFar.{SoFar}
use Rattle.sgb_file.proofs.WrittenPrefixes.{prefix_none}
use Rattle.sgb_vec.specs.declared.panics.Panic.{Panic}
use Rattle.sgb_vec.specs.declared.panics.Panic.TheVariants.{NoRoom}
use Rattle.sgb.specs.Writing.{IsCutOff, IsWritten}
use Rattle.sgb.specs.inner.Pages.{IsHeld, IsPaged}
use Rattle.sgb.proofs.CutOff.{cut_more, exit_cut, so_far-cut, written_after}
use Rattle.sgb_requests.specs.declared.faults.Fault.{Fault}
use Rattle.sgb_requests.specs.declared.faults.Fault.TheVariants as fault

-- of all of a text, this is left; a page that held something took the rest
abbrev pub PagedSoFar : (all left held holds : List ℕ) → Option (List ℕ) → Option (List ℕ) → Type 0
PagedSoFar all left held holds before after = (done : List ℕ) × (done ++ left ≡ all) × SoFar (held ++ done) holds before after

-- nothing was taken
pub paged_none : (all held : List ℕ) (a : Option (List ℕ)) → PagedSoFar all all held held a a
paged_none all held a = ([], refl, ([], sym (append-nil held), Appends-nil a))

-- the next part was taken
pub paged_more : (all part left rest held now after : List ℕ) (a b c : Option (List ℕ)) → left ≡ part ++ rest → PagedSoFar all left held now a b → SoFar (now ++ part) after b c
    → PagedSoFar all rest held after a c
paged_more all part left rest held now after a b c e p q = (p.0 ++ part, grind (arith, append_assoc), grind (arith, append_assoc, Appends-trans))

-- all was taken
pub paged_all : (all left held now : List ℕ) (a b : Option (List ℕ)) → left ≡ [] → PagedSoFar all left held now a b → SoFar (held ++ all) now a b
paged_all all left held now a b e p = search (rules, append-nil)

-- the next part was cut off
pub paged_cut : (all part left rest held now : List ℕ) (a b c : Option (List ℕ)) (failed : Bool) (f : Fault) → left ≡ part ++ rest → PagedSoFar all left held now a b
    → IsCutOff (now ++ part) (record { before = b; after = c; failed = failed }) f → IsCutOff (held ++ all) (record { before = a; after = c; failed = failed }) f
paged_cut all part left rest held now a b c failed f e p q = grind (arith, append_assoc, so_far-cut)

-- the exit of a `?`, where its fault cut a page off
pub exit_paged : {T : Type 0} (held text holds : List ℕ) (out : Change) (r : Result T Fault) (f : Fault) → IsErrAnd r (λ g. g ≡ f) → IsCutOff (held ++ text) out f → IsPaged held text holds out r
exit_paged held text holds out r f exit cut = search (rules, err_from_is_err_and)

-- the exit of a `?`, where what a page held was cut off before it took the text
pub exit_untaken : {T : Type 0} (held text holds : List ℕ) (out : Change) (r : Result T Fault) (f : Fault) → IsErrAnd r (λ g. g ≡ f) → IsCutOff (held ++ []) out f → IsPaged held text holds out r
exit_untaken held text holds out r f exit cut = exit_paged held text holds out r f exit (rw append-nil at (cut_more (held ++ []) text out f cut))

-- the exit of a `?` out of memory, where a page took the first part of a text
pub exit_begun_by : {T : Type 0} (held text more now holds : List ℕ) (a b : Option (List ℕ)) (failed : Bool) (r : Result T Fault) (p : Panic) → IsErrAnd r (λ f. f ≡ fault.Panic p) → p ≡ NoRoom → failed ≡ false
    → SoFar (held ++ text) now a b → IsPaged held (text ++ more) holds (record { before = a; after = b; failed = failed }) r
exit_begun_by held text more now holds a b failed r p exit memory sound q =
    let cut : IsCutOff (held ++ (text ++ more)) (record { before = a; after = b; failed = failed }) (fault.Panic NoRoom) =
    record { output = (q.0, now ++ more, sym (append_assoc held text more) ∙ ap (λ l. l ++ more) (sym q.1) ∙ append_assoc q.0 now more, q.2); cause = inr (sound, refl) } in
    grind (arith, err_from_is_err_and)

-- all that a page holds is put in the end
pub written_held : {T : Type 0} (all holds : List ℕ) (a b c : Option (List ℕ)) (failed : Bool) (r : Result T Fault) → SoFar all holds a b
    → IsWritten holds (record { before = b; after = c; failed = failed }) r → IsWritten all (record { before = a; after = c; failed = failed }) r
written_held all holds a b c failed r (put, is, appended) q = rw (← is) (written_after a b c failed put holds r appended q)

-- an empty page took a text that was put at once
pub paged_put : {T : Type 0} (text holds : List ℕ) (out : Change) (r : Result T Fault) → holds ≡ [] → IsWritten text out r → IsPaged [] text holds out r
paged_put text holds out (Ok x) none p = record { output = (text, ap (λ l. text ++ l) none ∙ append-nil text, p.output); sound = p.sound }
paged_put text holds out (Err f) none p = p

-- or that it holds
pub paged_kept : (text holds : List ℕ) (a : Option (List ℕ)) (failed : Bool) → holds ≡ text → failed ≡ false → IsHeld text holds (record { before = a; after = a; failed = failed })
paged_kept text holds a failed is sound = record { output = ([], is, Appends-nil a); sound = sound }

-- a page took a text after others
held_then : (all now part after : List ℕ) (a b c : Option (List ℕ)) → SoFar all now a b → SoFar (now ++ part) after b c → SoFar (all ++ part) after a c
held_then all now part after a b c p q = grind (arith, append_assoc, Appends-trans)

-- a page took a part after a text, and all is put in the end
pub written_parts : {T : Type 0} (all text part now after : List ℕ) (a b c : Option (List ℕ)) (failed : Bool) (r : Result T Fault) → all ≡ text ++ part → SoFar text now a b → after ≡ now ++ part
    → IsWritten after (record { before = b; after = c; failed = failed }) r → IsWritten all (record { before = a; after = c; failed = failed }) r
written_parts all text part now after a b c failed r is p e q =
    rw is (written_held (text ++ part) after a b c failed r (held_then text now part after a b b p ([], e, Appends-nil b)) q)

-- a page that is empty takes a text from the start
pub paged_begun : (all left page : List ℕ) (a : Option (List ℕ)) → all ≡ left → page ≡ [] → PagedSoFar all left [] page a a
paged_begun all left page a e none = ([], sym e, ([], none, Appends-nil a))

-- a page begins to take a text, of which all is left
pub paged_left : (all left held : List ℕ) (a : Option (List ℕ)) → all ≡ left → PagedSoFar all left held held a a
paged_left all left held a e = ([], sym e, ([], sym (append-nil held), Appends-nil a))

-- the exit of a `?`, where the next part was cut off
pub exit_part : {T : Type 0} (all part left rest held now holds : List ℕ) (a b c : Option (List ℕ)) (failed : Bool) (r : Result T Fault) (f : Fault) → IsErrAnd r (λ g. g ≡ f)
    → PagedSoFar all left held now a b → IsCutOff (now ++ part) (record { before = b; after = c; failed = failed }) f → left ≡ part ++ rest
    → IsPaged held all holds (record { before = a; after = c; failed = failed }) r
exit_part all part left rest held now holds a b c failed r f exit p q e =
    exit_paged held all holds (record { before = a; after = c; failed = failed }) r f exit (paged_cut all part left rest held now a b c failed f e p q)

-- after room was made, two texts were put on the page
pub held_two : (held now first second x y : List ℕ) (a b : Option (List ℕ)) → SoFar (held ++ []) now a b → first ≡ now ++ x → second ≡ first ++ y
    → SoFar (held ++ (x ++ y)) second a b
held_two held now first second x y a b p put after = grind (arith, append_assoc)

-- or three
pub held_three : (held now first second third x y z text : List ℕ) (a b : Option (List ℕ)) → SoFar (held ++ []) now a b → first ≡ now ++ x → second ≡ first ++ y
    → third ≡ second ++ z → text ≡ x ++ (y ++ z) → SoFar (held ++ text) third a b
held_three held now first second third x y z text a b p put then last is = grind (arith, append_assoc)

-- a page took two texts
pub held_both : (held x y now after : List ℕ) (a b c : Option (List ℕ)) → SoFar (held ++ x) now a b → SoFar (now ++ y) after b c → SoFar (held ++ (x ++ y)) after a c
held_both held x y now after a b c p q = rw (sym (append_assoc held x y)) (held_then (held ++ x) now y after a b c p q)

-- the exit of a `?`, where the next part was cut off of a text that was begun on an empty page
pub exit_begun : {T : Type 0} (all part left rest now : List ℕ) (a b c : Option (List ℕ)) (failed : Bool) (r : Result T Fault) (f : Fault) → IsErrAnd r (λ g. g ≡ f)
    → PagedSoFar all left [] now a b → IsCutOff (now ++ part) (record { before = b; after = c; failed = failed }) f → left ≡ part ++ rest
    → IsWritten all (record { before = a; after = c; failed = failed }) r
exit_begun all part left rest now a b c failed r f exit p q e =
    exit_cut all (record { before = a; after = c; failed = failed }) r f exit (paged_cut all part left rest [] now a b c failed f e p q)

-- a page took a first part of a text, and then the lines of arcs, or a fault came before it had
pub lines_given : {S T : Type 0} (written : S → Option (List ℕ)) (failed : S → Bool) (held text now after : List ℕ) (old mid new : S) (arcs : List LocalArc) (r : Result T Fault)
    → SoFar (held ++ text) now (written old) (written mid)
    → AreGiven (λ page o xs later n. (put : List ℕ) × (put ++ later ≡ page ++ flat_map local_line xs) × Appends (written o) (written n) put)
    (λ page o xs later n f. IsCutOff (page ++ flat_map local_line xs) (change written failed o n) f × (f ≡ fault.Write)) now mid arcs after new r
    → OnOk r (failed new ≡ false) → IsPaged held (text ++ flat_map local_line arcs) after (change written failed old new) r
lines_given written failed held text now after old mid new arcs (Ok x) p given sound =
    record { output = held_both held text (flat_map local_line arcs) now after (written old) (written mid) (written new) p given; sound = sound }
lines_given written failed held text now after old mid new arcs (Err f) p given sound =
    let lines = flat_map local_line arcs in
    paged_cut (text ++ lines) lines lines [] held now (written old) (written mid) (written new) (failed new) f (sym (append-nil lines)) (text, refl, p) given.0

-- the fault is that of a write
pub lines_fault : {S T : Type 0} (written : S → Option (List ℕ)) (failed : S → Bool) (now after : List ℕ) (mid new : S) (arcs : List LocalArc) (r : Result T Fault)
    → AreGiven (λ page o xs later n. (put : List ℕ) × (put ++ later ≡ page ++ flat_map local_line xs) × Appends (written o) (written n) put)
    (λ page o xs later n f. IsCutOff (page ++ flat_map local_line xs) (change written failed o n) f × (f ≡ fault.Write)) now mid arcs after new r
    → IfErr r (λ f. f ≡ fault.Write)
lines_fault written failed now after mid new arcs (Ok x) given = tt
lines_fault written failed now after mid new arcs (Err f) given = given.1

-- where there is an answer, the first of two facts holds
pub first_ok : {T : Type 0} (A B : Type 0) (r : Result T Fault) → OnOk r (A × B) → OnOk r A
first_ok A B (Ok x) both = both.0
first_ok A B (Err f) both = tt

-- a page took the lines of arcs, or a write's fault came before: so of the arcs alone
pub page_given : {S T : Type 0} (written : S → Option (List ℕ)) (failed : S → Bool) (page after : List ℕ) (old new : S) (arcs : List LocalArc) (r : Result T Fault)
    → IsPaged page (flat_map local_line arcs) after (change written failed old new) r → IfErr r (λ f. f ≡ fault.Write)
    → AreGiven (λ page o xs later n. (put : List ℕ) × (put ++ later ≡ page ++ flat_map local_line xs) × Appends (written o) (written n) put)
    (λ page o xs later n f. IsCutOff (page ++ flat_map local_line xs) (change written failed o n) f × (f ≡ fault.Write)) page old arcs after new r
page_given written failed page after old new arcs (Ok x) paged write = paged.output
page_given written failed page after old new arcs (Err f) paged write = (paged, write)

-- a page took the line of an arc, or a write's fault came before: so of the arc alone
pub line_given : {S T : Type 0} (written : S → Option (List ℕ)) (failed : S → Bool) (page after : List ℕ) (old new : S) (arc : LocalArc) (r : Result T Fault)
    → IsPaged page (local_line arc) after (change written failed old new) r → IfErr r (λ f. f ≡ fault.Write)
    → AreGiven (λ page o xs later n. (put : List ℕ) × (put ++ later ≡ page ++ flat_map local_line xs) × Appends (written o) (written n) put)
    (λ page o xs later n f. IsCutOff (page ++ flat_map local_line xs) (change written failed o n) f × (f ≡ fault.Write)) page old (arc ∷ []) after new r
line_given written failed page after old new arc (Ok x) paged write = rw (append-nil (local_line arc)) paged.output
line_given written failed page after old new arc (Err f) paged write = rw (append-nil (local_line arc)) (paged, write)
