-- `of` makes a value of no bytes.
use Rattle.std.proofs.Common.{◌≡◌, [], ◌∷◌, refl}
use mir.Syntax.{a_type, named}
use mir.Val.{vstruct, vcons, vnil, vptr, Val}
use mir.MapTy.{inst_fn}
use base.Logic.{SProp, emp}
use base.Fml.{Fml}
use contract.Running.{tables}
use types.Kit.{‵, raw, ◌⊛◌, ◌$◌, ◌∵◌, !, qed, by, keep, split, use0, fjoin}
use types.Run.{no_more, and_then, enter, returns}
use types.ByLocal.{alloc_all, pass_all, free_all, look_at, sets, get}
use types.Part.{agg}
use contract.Monad.{fact, fact_i}
use denote.Exit.{yes}
use denote.RattleType.{RattleType, owns}
use denote.Signature.{types_at, plain}
use denote.Steps.{nothing}
use denote.Param.{param, layouts}
use denote.Builtin.{RefOf}
use denote.Ref.{shr_vals, shr_Tells}
use denote.Shadow.{makes_shadow}
use denote.Triple.Entry.{alive}
use denote.Triple.Walked.{Stays, stay_dropped, walk_of, Goes-dropped}
use Rattle.std.proofs.raw_atomic.Walks.{proved, leaves}
use Rattle.sgb_arrays.specs.contracts.files.seen.Seen.{the_row}
use Rattle.sgb_arrays.specs.contracts.files.seen.Seen.of as f
use Rattle.sgb_arrays.proofs.files.seen.Seen.of.Statement.{statement}
use Rattle.sgb_arrays.proofs.files.seen.Seen.of.Code as code

abbrev nothing_val : Val
nothing_val = vstruct (vcons (vstruct vnil) vnil)

pub of_spec : {M : Type 1} → statement M
of_spec 𝓤 𝓛 𝓜 𝓡 wired X LX =
    let H = 𝓛.H in let 𝓣 = tables 𝓤 H 𝓜 𝓡 𝓡.env in let R : RattleType = param 0 X in let En = f.ended X in
    let inst = layouts (a_type ∷ []) (X, tt) in let fn = inst_fn inst code.function in let c = f.clauses X 𝓛 𝓜.mem 𝓡.returns in
    let arg = RefOf (0 ∷ []) tt (plain (λ _. R)) (λ _. tt) in let hs : Stays En.signature.params En.kept = (stay_dropped arg yes, tt) in
    proved 𝓛 En hs c 𝓜 𝓡 (Goes-dropped 𝓛 2 arg yes (λ κs x g. refl), tt) (f.Key.name inst) fn (code.unfolded 𝓤 H 𝓜 𝓡 wired (X, tt))
    (λ κs. (shr_vals, tt)) (λ κs. (shr_Tells (named 0) κs.0 R, tt)) (λ κs qs bounds a g are.
    let p : Val = vptr a.0.ref_ptr.0 a.0.ref_ptr.1 in let r : the_row.Denot = record { marker = record {}; bytes = g } in let F : Fml = the_row.own_val r (nothing_val ∷ []) in
    let y : (walk_of 𝓛 En hs c).Ghost = ((κs, qs, bounds, a, (p ∷ [], tt)), g) in let Post : Val → SProp 𝓤 = (walk_of 𝓛 En hs c).post y in
    qed 𝓛 ((raw (alive 𝓛 En.signature κs qs) ⊛ ‵ (owns (types_at En.signature.params κs) a y.0.4)) ∷ raw ((c κs a).requires g) ∷ []) ∵ split ! $ keep ! (0 ∷ []) $
    enter ! 𝓣.C 𝓣.Λ fn (p ∷ []) Post $ alloc_all ! (λ l. pass_all ! refl ((tt, tt), tt) $
    sets ! (agg ! (no_more !)) refl (tt, tt) $ sets ! (agg ! (and_then ! (get ! refl) (no_more !))) refl (tt, (tt, tt)) $
    use0 𝓛 (raw (fact 𝓤 (g ≡ g))) (fact_i 𝓤 (g ≡ g) (emp 𝓤) refl) $
    use0 𝓛 (‵ F) (makes_shadow 𝓛 F ((λ vss. (tt, ((λ uss. (tt, tt)), tt))), tt) (((vstruct vnil ∷ [], tt), (refl, ((tt, (refl, tt)), tt))), tt)) $ nothing ! $ nothing ! $ fjoin ! $
    returns ! (look_at ! 0 refl) $ free_all ! refl $ keep ! (3 ∷ 0 ∷ 1 ∷ 2 ∷ []) $ by ! (leaves 𝓛 En hs c y nothing_val r (tt, tt) (tt, tt))))
