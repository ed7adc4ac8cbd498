-- `of` takes the box apart.
use Rattle.std.proofs.Common.{◌≡◌, List, [], ◌∷◌, ◌++◌, refl, sym, ap, ◌∙◌, subst}
use Rattle.std.specs.Prelude.{Some}
use lib.Dec.{T}
use mir.Syntax.{Dict, impl, tnil, dnil}
use mir.Raw.{raw as bare}
use mir.Val.{Val, has_ty, WT}
use base.Logic.{SProp, ent, emp, never, id⊢, fst∗}
use base.Fraction.{full_share}
use base.Fml.{ftrue, flft}
use prog.Wp.{WpFn}
use types.Logic.{sem}
use types.Kit.{‵, raw, ◌⊛◌, some, later, ◌$◌, ◌∵◌, !, qed, by, move, keep, drop, split, join, fsplit, fjoin, pick, suffices, use0, use1, await, feq_l}
use types.Run.{of_opd, no_more, and_then, returns, enter}
use types.ByLocal.{alloc_all, pass_all, free_all, look_at, get, sets, lands_as}
use types.Part.{agg}
use contract.Monad.{fact, fact_i}
use contract.BorrowLft.{◌⊑◌, ⊑_refl}
use contract.Running.{tables}
use denote.Exit.{no, yes}
use denote.Memory.{lone}
use denote.RattleType.{RattleType, owns}
use denote.Signature.{types_at, plain}
use denote.RawPtr.{Ptr, RawPtr, block_ptr, null_ptr, ptr_val, in_a_block}
use denote.Steps.{nothing, only}
use denote.Param.{layout}
use denote.Param.NoDrop.{glues}
use denote.Triple.Clauses.{Lasts, lasts}
use denote.Triple.Spec.{triple_of}
use denote.Triple.Call.{calls_at}
use denote.Triple.Carry as carry
use denote.Triple.Walked as walked'
use denote.Triple.Clauses as clauses'
use borrow.Fn.Glue as glue'
use borrow.Fn.Impl as impl'
use borrow.Fn.Kinds as kinds'
use borrow.Fn.Run.{Over}
use borrow.Kind.Owned as owned'
use denote.Param.Mute as mute'
use denote.Param.{param, layouts}
use denote.Param.Laws.{param_laws}
use mir.Syntax.{method}
use Rattle.sgb_c.proofs.sgb_c++entry_lists++EntryList+Destruct.drop.Kinds as drop_kinds
use Rattle.sgb_c.proofs.sgb_c++entry_lists++EntryList+Destruct.drop.Met as drop_met
use Rattle.sgb_c.proofs.sgb_c++entry_lists++EntryList+Destruct.drop.Reads as drop_reads
use Rattle.sgb_c.proofs.sgb_c++entry_lists++EntryList+Destruct.drop.Symbol as drop_symbol
use denote.Triple.Walked.{Stays, stay_dropped, walk_of, Goes-dropped}
use denote.Triple.Table.{framed}
use Rattle.std.specs.Box.Ownership.{box_owns}
use Rattle.std.specs.contracts.alloc.Global as global
use Rattle.std.specs.contracts.impls.GlobalAllocator.TheImpl.{ghosts, dict}
use Rattle.std.proofs.impls.GlobalAllocator.TheImpl.Met as heap
use Rattle.std.proofs.BoxSteps.Form as box
use Rattle.std.proofs.BoxSteps.Steps.{box_out, box_in}
use Rattle.std.proofs.ResultValues.{and_tt}
use Rattle.std.proofs.raw_atomic.Walks.{proved_at, leaves}
use Rattle.std.specs.contracts.boxed.Box.into_raw as callee
use Rattle.std.specs.contracts.boxed.Box as whole_box
use Rattle.std.proofs.boxed.Box.into_raw.Met.{met}
use Rattle.sgb_c.specs.contracts.entry_lists.EntryList as item
use Rattle.sgb_c.specs.Owns.{gives_back}
use Rattle.sgb_c.proofs.ListBoxTypes.{X, LX, Z, LZ, drops, E}
use Rattle.sgb_c.proofs.LooseListValues.{word, loose_in}
use Rattle.sgb_c.specs.contracts.entry_lists.LooseList.of.{ended, clauses}
use Rattle.sgb_c.specs.contracts.entry_lists.LooseList.of.Key.{name as #self}
use Rattle.sgb_c.proofs.entry_lists.LooseList.of.Statement.{statement}
use Rattle.sgb_c.proofs.entry_lists.LooseList.of.Code as code

abbrev hs : Stays ended.signature.params ended.kept
hs = (stay_dropped (plain (λ _. whole_box.the_row item.the_row global.the_row ghosts)) yes, tt)

abbrev gone : Dict
gone = impl ("sgb_c::sgb_c++entry_lists++EntryList+Destruct::drop" ∷ []) tnil dnil

abbrev end' : clauses'.Ended
end' = kinds'.ended_of 0 drop_kinds.ps drop_kinds.r

pub of_spec : {M : Type 1} → statement M
unfolding Rattle.sgb_c.proofs.Destruct++none.drop.Code.code
of_spec {M = M} 𝓤 𝓛 𝓜 𝓡 wired =
    let H = 𝓛.H in let 𝓣 = tables 𝓤 H 𝓜 𝓡 𝓡.env in let c = clauses 𝓛 𝓜.mem 𝓡.returns in let fn = code.function in
    proved_at 𝓛 ended hs c 𝓜 𝓡 (Goes-dropped 𝓛 0 (plain (λ _. whole_box.the_row item.the_row global.the_row ghosts)) yes (λ κs x f. refl), tt) #self fn (code.unfolded 𝓤 H 𝓜 𝓡 wired) (λ z are.
    let v = z.0.3.0 in let Post : Val → SProp 𝓤 = (walk_of 𝓛 ended hs c).post z in let Run : List Val → SProp 𝓤 = λ ws. WpFn 𝓤 H 𝓣.C 𝓣.Λ fn ws Post in
    qed 𝓛 ((‵ ftrue ⊛ ‵ (owns (types_at ended.signature.params z.0.0) z.0.3 z.0.4)) ∷ raw ((c z.0.0 z.0.3).requires z.1) ∷ []) ∵ split ! $ move ! (1 ∷ []) $ fsplit ! $ box_out E ! v z.0.4.0 (λ b o h e ws fits. box_in E ! v b o v.value e refl $
    let w : Val = box.word E h b o in let B : RattleType = box.B E in let typed : T (has_ty (layout B) w) × WT w = ((and_tt (has_ty (layout Z) h) fits.0), (tt, (fits.1, tt))) in
    let k = triple_of 𝓛 (callee.signature X Z ghosts dict drops gone) (callee.spec X Z ghosts dict drops gone 𝓛 𝓜.mem 𝓡.returns) in
    let y : k.Ghost = ((([], ([], tt)), (full_share, (full_share, tt)), tt, (v, tt), (w ∷ [], tt)), tt) in let toks = ‵ (flft [] full_share) ⊛ ‵ (flft [] full_share) ⊛ ‵ ftrue in
    -- [the box; true; true; what is required]
    nothing ! $ use0 𝓛 (raw (fact 𝓤 ([] ⊑ Z.lives))) (fact_i 𝓤 ([] ⊑ Z.lives) (emp 𝓤) (⊑_refl [])) $ join ! $ use0 𝓛 (raw (fact 𝓤 ([] ⊑ X.lives))) (fact_i 𝓤 ([] ⊑ X.lives) (emp 𝓤) (⊑_refl [])) $ join ! $
    move ! (1 ∷ 2 ∷ []) $ fjoin ! $
    nothing ! $ use0 𝓛 (‵ (flft [] full_share)) (𝓛.lfts.lft-nil full_share) $ join ! $ use0 𝓛 (‵ (flft [] full_share)) (𝓛.lfts.lft-nil full_share) $ join ! $ join ! $ join ! $ use1 𝓛 (raw (k.pre y)) (id⊢ 𝓤 _) $
    suffices ! (Run (w ∷ [])) (subst (λ (us : List Val). ent 𝓤 (Run (w ∷ [])) (Run us)) (sym (λ i. ws i ++ [])) (id⊢ 𝓤 (Run (w ∷ [])))) $
    enter ! 𝓣.C 𝓣.Λ fn (w ∷ []) Post $ alloc_all ! (λ l. pass_all ! refl (typed, tt) $ sets ! (of_opd ! (get ! refl)) refl typed $
    calls_at ! (framed 𝓤 𝓛.H 𝓜 (tables 𝓤 𝓛.H 𝓜 𝓡 𝓡.env)) k
    (met 𝓤 𝓛 𝓜 𝓡 (code.calls-std_alloc::boxed::Box::into_raw 𝓡.env wired) X Z LX LZ ghosts dict drops gone
    (heap.passed 𝓡.env (code.calls-std_heap::GlobalAllocator::allocate 𝓡.env wired) (code.calls-std_heap::GlobalAllocator::deallocate 𝓡.env wired) (code.calls-std_heap::GlobalAllocator::grow 𝓡.env wired) (code.calls-std_heap::GlobalAllocator::shrink 𝓡.env wired) M 𝓤 𝓛 𝓜 𝓡)
    (glues "sgb_c::Destruct++none::drop" 𝓡.env (code.calls-sgb_c::Destruct++none::drop 𝓡.env wired) Z LZ M 𝓤 𝓛 𝓜 𝓡)
    (glue'.glue_by X LX (record { M = M; 𝓤 = 𝓤; 𝓛 = 𝓛; 𝓜 = 𝓜; 𝓡 = 𝓡 }) gone 𝓡.env (λ κs a. Lasts end' tt a) (λ κs a. lasts end' tt a)
    (λ κs a x ls. walked'.Fit end' (kinds'.stays drop_kinds.ps) tt a ls × drop_reads.Learnt tt a x (clauses'.at_exit end' tt a ls)) (λ κs a. carry.AllWithin 1 (κs.0, tt) (X.lives, tt) × Unit {0}) 0 tt (λ κs a within. ((within, tt), tt))
    (impl'.via_longer 𝓛 (Over 𝓛 𝓜 𝓡 𝓡.env) 1 (owned'.p_owned (param 0 X) refl no (mute'.Mute-seen (λ x. tt)) (λ M 𝓤 𝓛. (param_laws 0 X LX).lawful 𝓛) ∷ []) kinds'.r_unit (λ κs a. Lasts end' tt a) (λ κs a. lasts end' tt a)
    (λ κs a x ls. walked'.Fit end' (kinds'.stays drop_kinds.ps) tt a ls × drop_reads.Learnt tt a x (clauses'.at_exit end' tt a ls)) (λ κs a. carry.AllWithin 1 (κs.0, tt) (X.lives, tt) × Unit {0})
    (method gone 0 (layouts [] tt)) 0 tt (λ κs. tt) (λ κs a. drop_reads.Asked tt a) (λ κs a p. (tt, tt))
    (λ κs bd within a vss qs. impl'.method_Known 0 drop_kinds.ps drop_kinds.r drop_reads.requires drop_reads.ensures drop_reads.Asked drop_reads.Learnt drop_reads.known (record { M = M; 𝓤 = 𝓤; 𝓛 = 𝓛; 𝓜 = 𝓜; 𝓡 = 𝓡 }) drop_symbol.name
    (method gone 0 (layouts [] tt)) (drop_symbol.as_method 𝓡.env (code.calls-sgb_c::sgb_c++entry_lists++EntryList+Destruct::drop 𝓡.env wired) (method gone 0 (layouts [] tt)) refl)
    (drop_met.met 𝓤 𝓛 𝓜 𝓡 (code.calls-sgb_c::sgb_c++entry_lists++EntryList+Destruct::drop 𝓡.env wired)) ((tt, qs, tt, a, vss), tt))))) y (and_then ! (get ! refl) (no_more !)) (λ u.
    use1 𝓛 (later (some (λ (r : Ptr). (toks ⊛ ‵ (RawPtr.own_val r (u ∷ []))) ⊛ some (λ (ls : Lasts (callee.ended X Z ghosts dict drops gone) y.0.0 y.0.3). ‵ (lasts (callee.ended X Z ghosts dict drops gone) y.0.0 y.0.3 ls) ⊛ ‵ (box_owns gives_back item.the_row r v.value))))) (id⊢ 𝓤 (k.post y u)) $
    await ! tt $ pick ! (λ r. split ! $ move ! (1 ∷ []) $ pick ! (λ _. split ! $ drop ! $
    in_a_block ! r (λ p. box_owns gives_back item.the_row p v.value) (fst∗ 𝓤 (never 𝓤) (sem 𝓛 (gives_back (bare (lone item.the_row.mir)) null_ptr))) (λ b' o' e'.
    move ! (1 ∷ []) $ split ! $ drop ! $ feq_l ! (λ eu.
    lands_as ! (ap only (eu ∙ ap (λ (p : Ptr). ptr_val p ∷ []) e')) refl (tt, tt) $
    sets ! (of_opd ! (get ! refl)) refl (tt, tt) $ sets ! (agg ! (and_then ! (get ! refl) (no_more !))) refl (tt, (tt, tt)) $
    loose_in ! (block_ptr b' o') (Some v.value) $
    use0 𝓛 (raw (fact 𝓤 (Some v.value ≡ Some v.value))) (fact_i 𝓤 (Some v.value ≡ Some v.value) (emp 𝓤) refl) $ move ! (1 ∷ []) $ nothing ! $ nothing ! $ fjoin ! $ nothing ! $
    returns ! (look_at ! 0 refl) $ free_all ! refl $ keep ! (0 ∷ 1 ∷ 2 ∷ 3 ∷ []) $ by ! (leaves 𝓛 ended hs c z (word (block_ptr b' o')) (record { at = block_ptr b' o'; value = Some v.value }) (tt, tt) (tt, tt))))))))))
