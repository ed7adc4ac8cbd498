-- `into_box` makes the box again.
use Rattle.std.proofs.Common.{◌≡◌, List, [], ◌∷◌, ◌++◌, refl, sym, ap, ◌∙◌, subst}
use Rattle.std.specs.Prelude.{Option, Some, is_some, true}
use lib.Dec.{T}
use mir.Raw.{raw as bare}
use mir.Val.{Val, vptr, has_ty, WT}
use base.Logic.{SProp, ent, emp, never, id⊢, fst∗}
use base.Fraction.{full_share}
use base.Fml.{ftrue, flft}
use prog.Wp.{WpFn}
use types.Logic.{sem}
use types.Kit.{‵, raw, ◌⊛◌, some, later, at_ret, ◌$◌, ◌∵◌, !, qed, by, move, keep, drop, split, split3, join, fsplit, fjoin, pick, suffices, use0, use1, await, rewrite, feq_i}
use types.Run.{stop, fld, of_opd, no_more, and_then, first, blocks, exec, returns, enter}
use types.ByLocal.{alloc_all, pass_all, free_all, look_at, get, get_in, sets, lands_last, env}
use types.Part.{sub, whole}
use contract.Monad.{fact, fact_i}
use contract.BorrowLft.{◌⊑◌, ⊑_refl}
use contract.Running.{tables}
use denote.Exit.{yes}
use denote.Memory.{lone}
use denote.RattleType.{RattleType, owns}
use denote.Signature.{types_at, plain}
use denote.RawPtr.{Ptr, block_ptr, null_ptr, in_a_block}
use denote.Steps.{nothing, only, heard}
use denote.Param.{layout}
use denote.Param.NoDrop.{glues}
use denote.Triple.Clauses.{Lasts, lasts}
use denote.Triple.Spec.{triple_of}
use denote.Triple.Call.{calls_at_last}
use denote.Triple.Walked.{Stays, stay_dropped, walk_of, Goes-dropped}
use Rattle.std.proofs.alloc.Calls.{handle_tells}
use Rattle.std.proofs.VecSteps.Shapes.{after}
use denote.Triple.Table.{framed}
use Rattle.std.specs.Box.Ownership.{box_owns}
use Rattle.std.specs.contracts.alloc.Global as global
use Rattle.std.specs.contracts.impls.GlobalAllocator.TheImpl.{ghosts, dict}
use Rattle.std.proofs.impls.GlobalAllocator.TheImpl.Met as heap
use Rattle.std.proofs.BoxSteps.Form as box
use Rattle.std.proofs.BoxSteps.Steps.{box_out, box_in}
use Rattle.std.proofs.ResultValues.{and_tt}
use Rattle.std.proofs.raw_atomic.Walks.{proved_at, leaves}
use Rattle.std.specs.contracts.boxed.Box.from_raw as callee
use Rattle.std.proofs.boxed.Box.from_raw.Met.{met}
use Rattle.sgb_c.specs.Owns.{gives_back, owns_if}
use Rattle.sgb_c.specs.contracts.entry_lists.EntryList as item
use Rattle.sgb_c.specs.contracts.entry_lists.LooseList as loose
use Rattle.sgb_c.proofs.ListBoxTypes.{X, LX, Z, LZ, drops, E}
use Rattle.sgb_c.proofs.LooseListValues.{word, loose_out, some_of}
use Rattle.sgb_c.specs.contracts.entry_lists.LooseList.into_box.{ended, clauses}
use Rattle.sgb_c.specs.contracts.entry_lists.LooseList.into_box.Key.{name as #self}
use Rattle.sgb_c.proofs.entry_lists.LooseList.into_box.Statement.{statement}
use Rattle.sgb_c.proofs.entry_lists.LooseList.into_box.Code as code

abbrev hs : Stays ended.signature.params ended.kept
hs = (stay_dropped (plain (λ _. loose.the_row)) yes, (stay_dropped (plain (λ _. global.the_row)) yes, tt))

pub into_box_spec : {M : Type 1} → statement M
unfolding Rattle.sgb_c.proofs.Destruct++none.drop.Code.code
into_box_spec {M = M} 𝓤 𝓛 𝓜 𝓡 wired =
    let H = 𝓛.H in let 𝓣 = tables 𝓤 H 𝓜 𝓡 𝓡.env in let c = clauses 𝓛 𝓜.mem 𝓡.returns in let fn = code.function in
    proved_at 𝓛 ended hs c 𝓜 𝓡 (Goes-dropped 𝓛 0 (plain (λ _. loose.the_row)) yes (λ κs x f. refl), (Goes-dropped 𝓛 0 (plain (λ _. global.the_row)) yes (λ κs x f. refl), tt)) #self fn (code.unfolded 𝓤 H 𝓜 𝓡 wired) (λ z are.
    let v = z.0.3.0 in let a = z.0.3.1.0 in let Post : Val → SProp 𝓤 = (walk_of 𝓛 ended hs c).post z in let Run : List Val → SProp 𝓤 = λ ws. WpFn 𝓤 H 𝓣.C 𝓣.Λ fn ws Post in
    qed 𝓛 ((‵ ftrue ⊛ ‵ (owns (types_at ended.signature.params z.0.0) z.0.3 z.0.4)) ∷ raw ((c z.0.0 z.0.3).requires z.1) ∷ []) ∵ split ! $ move ! (1 ∷ []) $ fsplit ! $ loose_out ! v z.0.4.0 (λ ws.
    move ! (3 ∷ []) $ heard ! (is_some v.value ≡ true) (λ es. let g = (some_of v.value es).0 in let ev = (some_of v.value es).1 in rewrite ! 0 (λ (x : Option item.struct.D). ‵ (owns_if item.the_row v.at x)) ev refl $
    in_a_block ! v.at (λ p. box_owns gives_back item.the_row p g) (fst∗ 𝓤 (never 𝓤) (sem 𝓛 (gives_back (bare (lone item.the_row.mir)) null_ptr))) (λ b o e.
    move ! (1 ∷ []) $ fsplit ! $ handle_tells E.al ! a z.0.4.1.0 (λ h eh fits.
    let w : Val = word (block_ptr b o) in let ws' : z.0.4.0 ≡ w ∷ [] = ws ∙ ap (λ (p : Ptr). word p ∷ []) e in let k = triple_of 𝓛 (callee.signature X Z ghosts dict drops) (callee.spec X Z ghosts dict drops 𝓛 𝓜.mem 𝓡.returns) in
    let y : k.Ghost = ((([], ([], tt)), (full_share, (full_share, tt)), tt, (a, (block_ptr b o, tt)), (h ∷ [], (vptr b o ∷ [], tt))), g) in let B : RattleType = box.B E in let toks = ‵ (flft [] full_share) ⊛ ‵ (flft [] full_share) ⊛ ‵ ftrue in
    -- [the allocator; true; the block; true]
    move ! (2 ∷ []) $ use0 𝓛 (raw (fact 𝓤 ([] ⊑ Z.lives))) (fact_i 𝓤 ([] ⊑ Z.lives) (emp 𝓤) (⊑_refl [])) $ join ! $ use0 𝓛 (raw (fact 𝓤 ([] ⊑ X.lives))) (fact_i 𝓤 ([] ⊑ X.lives) (emp 𝓤) (⊑_refl [])) $ join ! $
    move ! (2 ∷ []) $ feq_i ! (List Val) (vptr b o ∷ []) (vptr b o ∷ []) refl $ fjoin ! $ move ! (2 ∷ 0 ∷ []) $ fjoin ! $
    nothing ! $ use0 𝓛 (‵ (flft [] full_share)) (𝓛.lfts.lft-nil full_share) $ join ! $ use0 𝓛 (‵ (flft [] full_share)) (𝓛.lfts.lft-nil full_share) $ join ! $ join ! $ join ! $ use1 𝓛 (raw (k.pre y)) (id⊢ 𝓤 _) $
    suffices ! (Run (w ∷ h ∷ [])) (subst (λ (us : List Val × List Val). ent 𝓤 (Run (w ∷ h ∷ [])) (Run (us.0 ++ (us.1 ++ [])))) (λ i. (sym ws' i, sym eh i)) (id⊢ 𝓤 (Run (w ∷ h ∷ [])))) $
    enter ! 𝓣.C 𝓣.Λ fn (w ∷ h ∷ []) Post $ alloc_all ! (λ l. pass_all ! refl ((tt, (tt, tt)), (fits, tt)) $ let Ev = env fn.locals l in
    first ! $ blocks ! $ sets ! (of_opd ! (get_in ! (fld ! refl (stop !)) (sub ! 0 refl (whole !)))) refl (tt, tt) $
    calls_at_last ! (framed 𝓤 𝓛.H 𝓜 (tables 𝓤 𝓛.H 𝓜 𝓡 𝓡.env)) k
    (met 𝓤 𝓛 𝓜 𝓡 (code.calls-std_alloc::boxed::Box::from_raw 𝓡.env wired) X Z LX LZ ghosts dict drops
    (heap.passed 𝓡.env (code.calls-std_heap::GlobalAllocator::allocate 𝓡.env wired) (code.calls-std_heap::GlobalAllocator::deallocate 𝓡.env wired) (code.calls-std_heap::GlobalAllocator::grow 𝓡.env wired) (code.calls-std_heap::GlobalAllocator::shrink 𝓡.env wired) M 𝓤 𝓛 𝓜 𝓡)
    (glues "sgb_c::Destruct++none::drop" 𝓡.env (code.calls-sgb_c::Destruct++none::drop 𝓡.env wired) Z LZ M 𝓤 𝓛 𝓜 𝓡)) y (and_then ! (get ! refl) (and_then ! (get ! refl) (no_more !))) (λ u.
    use1 𝓛 (later (some (λ (r : B.Denot). (toks ⊛ ‵ (B.own_val r (u ∷ []))) ⊛ some (λ (ls : Lasts (callee.ended X Z ghosts dict drops) y.0.0 y.0.3). ‵ (lasts (callee.ended X Z ghosts dict drops) y.0.0 y.0.3 ls) ⊛ (raw (fact 𝓤 (r.value ≡ g)) ⊛ raw (fact 𝓤 (r.alloc ≡ a))))))) (id⊢ 𝓤 (k.post y u)) $
    await ! tt $ pick ! (λ r. split ! $ move ! (1 ∷ []) $ pick ! (λ _. split3 ! $ drop ! $ heard ! (r.value ≡ g) (λ er. use0 𝓛 (raw (fact 𝓤 (Some r.value ≡ v.value))) (fact_i 𝓤 (Some r.value ≡ v.value) (emp 𝓤) (ap Some er ∙ sym ev)) $ move ! (2 ∷ []) $ split ! $ drop ! $
    -- [the box; what it holds; whose it is; true]
    box_out E ! r (u ∷ []) (λ b' o' h' e' us fits'. box_in E ! r b' o' r.value e' refl $ rewrite ! 0 (λ (xs : List Val). ‵ (B.own_val r xs)) (sym us) refl $
    let good : T (has_ty (layout B) u) × WT u = subst (λ (x : Val). T (has_ty (layout B) x) × WT x) (sym (ap only us)) ((and_tt (has_ty (layout Z) h') fits'.0), (tt, (fits'.1, tt))) in
    lands_last ! refl good $ exec ! 𝓣.C 𝓣.Λ Ev (after 1 fn.body) (at_ret Ev Post) $ sets ! (of_opd ! (get ! refl)) refl good $ nothing ! $ nothing ! $ fjoin ! $ nothing ! $ fjoin ! $
    returns ! (look_at ! 0 refl) $ free_all ! refl $ keep ! (4 ∷ 0 ∷ 1 ∷ 2 ∷ []) $ by ! (leaves 𝓛 ended hs c z u r (tt, (tt, tt)) (tt, (tt, tt))))))))))))))
