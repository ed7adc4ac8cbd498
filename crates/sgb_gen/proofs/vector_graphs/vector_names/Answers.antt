use Rattle.std.proofs.Common.{◌≡◌, List, [], ◌∷◌, ◌++◌, ℕ, Result, IfOk, IsOkUnless, Some, map, drop, refl, ap, sym, ◌∙◌, append_assoc, append-nil}
use Rattle.std.specs.List.{slice_get}
use Rattle.std.specs.Result.{IsErrAnd}
use Rattle.std.proofs.lemmas.Result.{err_from_is_err_and}
use Rattle.sgb_vec.specs.Names.{name_of_vector}
use Rattle.sgb_vec.specs.declared.panics.Panic.{Panic}
use Rattle.sgb_vec.specs.declared.panics.Panic.TheVariants.{NoRoom}
use Rattle.sgb_gen.proofs.FamilyWalks.{drop_at_vector}
use Rattle.sgb_gen.proofs.vector_graphs.vector_names.Goals as goal

-- nothing is said of the value of an error
exit_ok : {T : Type 0} (P : T → Type 0) (r : Result T Panic) (p : Panic) → IsErrAnd r (λ g. g ≡ p) → IfOk r P
exit_ok P r p exit = rw ((err_from_is_err_and r exit).1) tt

exit_memory : {T : Type 0} (r : Result T Panic) (p : Panic) → IsErrAnd r (λ g. g ≡ p) → p ≡ NoRoom → IsOkUnless r NoRoom
exit_memory r p exit is = let q = err_from_is_err_and r exit in rw (q.1, q.2, is) refl

-- the name of the next vector is put
next_name : (names new all : List (List ℕ)) (left rest : List (List ℕ)) (v name : List ℕ) → names ++ map name_of_vector left ≡ all → slice_get left 0 ≡ Some v → rest ≡ drop 1 left
    → name ≡ name_of_vector v → new ≡ names ++ name ∷ [] → new ++ map name_of_vector rest ≡ all
next_name names new all left rest v name whole at after is put =
    rw (put, after, is) (append_assoc names (name_of_vector v ∷ []) (map name_of_vector (drop 1 left)) ∙ ap (λ vs. names ++ map name_of_vector vs) (sym (drop_at_vector left 0 v at)) ∙ whole)

-- where no vector is left, all names are there
all_named : (names all : List (List ℕ)) (left : List (List ℕ)) → names ++ map name_of_vector left ≡ all → left ≡ [] → names ≡ all
all_named names all left whole none = sym (append-nil names) ∙ ap (λ vs. names ++ map name_of_vector vs) (sym none) ∙ whole

pub returns-in_err-names-clause-ok : goal.returns-in_err-names-clause-ok
returns-in_err-names-clause-ok g c = exit_ok (λ names. names ≡ map name_of_vector (g.F.Family.members c.args.family.now)) _ _ c.from_residual.ensures.1

pub returns-in_err-names-clause-memory : goal.returns-in_err-names-clause-memory
returns-in_err-names-clause-memory g c = exit_memory _ _ c.from_residual.ensures.1 c.in_err-names.ensures.memory

pub loop-vector-init : goal.loop-vector-init
loop-vector-init g c = rw (c.in_ok-names.ensures.ok, c.all-left.ensures) refl

pub returns-in_err-name-clause-ok : goal.returns-in_err-name-clause-ok
returns-in_err-name-clause-ok g c = exit_ok (λ names. names ≡ map name_of_vector (g.F.Family.members c.args.family.now)) _ _ c.from_residual-in_err-name.ensures.1

pub returns-in_err-name-clause-memory : goal.returns-in_err-name-clause-memory
returns-in_err-name-clause-memory g c = exit_memory _ _ c.from_residual-in_err-name.ensures.1 c.in_err-name.ensures.memory

pub loop-vector-preserved : goal.loop-vector-preserved
loop-vector-preserved g c =
    next_name c.loop-vector.names c.push.new.self (map name_of_vector (g.F.Family.members c.args.family.now)) c.loop-vector.left c.advance-some.new.self c.in-Some.vector.now c.in_ok-name.name
    c.loop-vector.invariant c.in-Some.ensures.first c.advance-some.ensures.rest c.in_ok-name.ensures.ok c.in-Ok.ensures.ok

pub returns-clause-ok : goal.returns-clause-ok
returns-clause-ok g c = all_named c.loop-vector.names (map name_of_vector (g.F.Family.members c.args.family.now)) c.loop-vector.left c.loop-vector.invariant c.in_default.ensures.none
