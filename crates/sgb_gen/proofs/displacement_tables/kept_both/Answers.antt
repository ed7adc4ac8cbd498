use Rattle.std.proofs.Common.{◌≡◌, ◌++◌, ◌/◌, List, [], Result, Ok, Err, Some, IfOk, if◌then◌else◌, length, take, drop, length-append, subst, refl, arith}
use Rattle.std.specs.Result.{is_ok, result_ok}
use Rattle.std.proofs.Math.Seq.{take-append_seam, drop-append_seam}
use Rattle.sgb_gen.proofs.displacement_tables.kept_both.Given as given
use Rattle.sgb_gen.proofs.displacement_tables.kept_both.Goals as goal

same_value : {T : Type 0} (x y : T) → Some x ≡ Some y → y ≡ x
same_value x y is = cc

-- what is known of an accepted value is known of the value that is kept of it
of_kept : {T E : Type 0} (P : T → Type 0) (r : Result T E) (v : T) → Some v ≡ result_ok r → IfOk r P → P v
of_kept P (Ok x) v is known = subst P (same_value v x is) known
of_kept P (Err e) v is known = absurd cc

-- what a list is where a result is accepted
of_accepted : {T U E : Type 0} (r : Result U E) (v : U) (x y z : List T) → Some v ≡ result_ok r → z ≡ (if is_ok r then x else y) → z ≡ x
of_accepted (Ok u) v x y z is known = known
of_accepted (Err e) v x y z is known = absurd cc

-- two lists of one length, put one after another
both_kept : {T : Type 0} (a b x y z : List T) → x ≡ [] → y ≡ x ++ a → z ≡ y ++ b → z ≡ a ++ b
both_kept a b x y z none one two = rw (two, one, none) refl

half : {T : Type 0} (a b z : List T) → length b ≡ length a → z ≡ a ++ b → length z / 2 ≡ length a
half a b z same is = rw is (omega (arith, length-append a b, same))

first_half : {T : Type 0} (a b z : List T) → length b ≡ length a → z ≡ a ++ b → take (length z / 2) z ≡ a
first_half a b z same is = rw (half a b z same is, is) (take-append_seam a b)

second_half : {T : Type 0} (a b z : List T) → length b ≡ length a → z ≡ a ++ b → drop (length z / 2) z ≡ b
second_half a b z same is = rw (half a b z same is, is) (drop-append_seam a b)

pub returns-in_err-kept-clause-first : goal.returns-in_err-kept-clause-first
returns-in_err-kept-clause-first g c = rw c.from_residual.ensures tt

pub returns-in_err-kept-clause-second : goal.returns-in_err-kept-clause-second
returns-in_err-kept-clause-second g c = rw c.from_residual.ensures tt

pub returns-in_err-ok-clause-first : goal.returns-in_err-ok-clause-first
returns-in_err-ok-clause-first g c = rw c.from_residual-in_err-ok.ensures tt

pub returns-in_err-ok-clause-second : goal.returns-in_err-ok-clause-second
returns-in_err-ok-clause-second g c = rw c.from_residual-in_err-ok.ensures tt

pub returns-in_err-ok-2-clause-first : goal.returns-in_err-ok-2-clause-first
returns-in_err-ok-2-clause-first g c = rw c.from_residual-in_err-ok-2.ensures tt

pub returns-in_err-ok-2-clause-second : goal.returns-in_err-ok-2-clause-second
returns-in_err-ok-2-clause-second g c = rw c.from_residual-in_err-ok-2.ensures tt

-- what is kept in the end
all_kept : (g : given.Over) (c : goal.In_ok-ok-2 g) → c.extend_from_slice-2.new.self.items ≡ c.args.items.now ++ c.args.others.now
all_kept g c =
    both_kept c.args.items.now c.args.others.now c.in_ok-kept.kept.items _ _
    (of_kept (λ v. v.items ≡ []) _ _ c.in_ok-kept.ensures.value c.with_capacity.ensures.items)
    (of_accepted _ _ _ _ _ c.in_ok-ok.ensures.value c.extend_from_slice.ensures.items)
    (of_accepted _ _ _ _ _ c.in_ok-ok-2.ensures.value c.extend_from_slice-2.ensures.items)

pub returns-clause-first : goal.returns-clause-first
returns-clause-first g c = first_half c.args.items.now c.args.others.now _ c.requires (all_kept g c)

pub returns-clause-second : goal.returns-clause-second
returns-clause-second g c = second_half c.args.items.now c.args.others.now _ c.requires (all_kept g c)
