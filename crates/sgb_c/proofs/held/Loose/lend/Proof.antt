-- `lend` lends the value where it lies, and the handle follows it.
use Rattle.std.proofs.Common.{◌≡◌, ℕ, List, [], ◌∷◌, refl, sym, ap, ◌∙◌}
use Rattle.std.specs.Prelude.{Option, Some, is_some, true}
use seplogic.Ra.Ura.{Ura}
use mir.Raw.{raw as bare}
use mir.Syntax.{named}
use mir.Val.{Val, vptr}
use base.Logic.{SProp, ent, sep, never, fst∗}
use base.Fraction.{full_share}
use base.Fml.{GName, Fml, ftrue, flft, fsep}
use types.Logic.{Logic, sem}
use types.Kit.{‵, raw, ◌⊛◌, some, later, at_ret, ◌$◌, ◌∵◌, !, qed, by, move, keep, drop, split, join, fsplit, fsplit3, fjoin, fpack, pick, suffices, use1, await, group, frame, rewrite, done}
use types.Run.{stop, fld, load, of_opd, first, blocks, exec, returns, enter, addr}
use types.ByLocal.{alloc_all, pass_all, free_all, look_at, get, through, sets, sets_last, env}
use types.Part.{whole, sub, look_in}
use contract.Running.{tables}
use denote.Exit.{no}
use denote.Follow.{follows, Part, lends_Part}
use denote.Memory.{lone, mem, part_at, part_of, cell_at}
use denote.RattleType.{owns}
use denote.Ref.{MutRef, mut_vals, mut_Tells}
use denote.Signature.{plain, mut_ref_to}
use denote.RawPtr.{Ptr, block_ptr, null_ptr, in_a_block}
use denote.Steps.{nothing, opens, heard}
use denote.Triple.Walked.{Stays, stay_dropped, walk_of, says, ends_at, Goes-spent_ref}
use Rattle.std.proofs.VecSteps.Shapes.{after}
use Rattle.std.proofs.raw_atomic.Walks.{proved}
use Rattle.std.specs.Box.Ownership.{box_owns}
use Rattle.sgb_c.specs.inner.Lending.{with_held}
use Rattle.sgb_c.specs.Owns.{gives_back, owns_if}
use Rattle.sgb_c.specs.declared.held.Loose.{Loose}
use Rattle.sgb_c.specs.contracts.held.Held as item
use Rattle.sgb_c.specs.contracts.held.Loose as loose
use Rattle.sgb_c.proofs.LooseValues.{word, loose_out, loose_in, some_of}
use Rattle.sgb_c.specs.contracts.held.Loose.lend.{ended, clauses}
use Rattle.sgb_c.specs.contracts.held.Loose.lend.Key.{name as #self}
use Rattle.sgb_c.proofs.held.Loose.lend.Statement.{statement}
use Rattle.sgb_c.proofs.held.Loose.lend.Code as code

abbrev hs : Stays ended.signature.params ended.kept
hs = (stay_dropped (mut_ref_to (0 ∷ []) tt (plain (λ _. loose.the_row))) no, tt)

-- all of the handle but the value: the right to free the block, and the pointer to it
abbrev Rest : ℕ → ℕ → ℕ → ℕ → Fml
Rest rb ro b o = fsep (gives_back (bare (lone item.the_row.mir)) (block_ptr b o)) (cell_at full_share loose.the_row.mir (word (block_ptr b o) ∷ []) rb ro)

-- with any value it makes a handle again
back : {M : Type 1} {𝓤 : Ura M} (𝓛 : Logic 𝓤) (h : Loose) (rb ro b o : ℕ) → h.at ≡ block_ptr b o → (x : item.struct.D)
    → ent 𝓤 (sep 𝓤 (sem 𝓛 ((mem item.the_row).own_at x b o)) (sem 𝓛 (Rest rb ro b o))) (sem 𝓛 ((mem loose.the_row).own_at (with_held h x) rb ro))
unfolding part_of
back 𝓛 h rb ro b o e x =
    qed 𝓛 (‵ (part_at item.the_row full_share x b o) ∷ ‵ (Rest rb ro b o) ∷ []) ∵ move ! (1 ∷ []) $ fsplit ! $ move ! (2 ∷ 0 ∷ []) $ fjoin ! $ loose_in ! (block_ptr b o) (Some x) $
    rewrite ! 0 (λ (p : Ptr). ‵ (loose.the_row.own_val (record { at = p; value = Some x }) (word (block_ptr b o) ∷ []))) (sym e) refl $ move ! (1 ∷ 0 ∷ []) $ fjoin ! $
    fpack ! (List Val) (λ us. fsep (cell_at full_share loose.the_row.mir us rb ro) (loose.the_row.own_val (with_held h x) us)) (word (block_ptr b o) ∷ []) $ done !

pub lend_spec : {M : Type 1} → statement M
lend_spec {M = M} 𝓤 𝓛 𝓜 𝓡 wired =
    let H = 𝓛.H in let 𝓣 = tables 𝓤 H 𝓜 𝓡 𝓡.env in let c = clauses 𝓛 𝓜.mem 𝓡.returns in let fn = code.function in
    proved 𝓛 ended hs c 𝓜 𝓡 (Goes-spent_ref 𝓛 1 (0 ∷ []) tt (plain (λ _. loose.the_row)), tt) #self fn (code.unfolded 𝓤 H 𝓜 𝓡 wired) (λ κs. (mut_vals, tt)) (λ κs. (mut_Tells (named 0) κs.0 loose.the_row, tt)) (λ κs qs bounds a none are.
    let κ = κs.0 in let q = qs.0 in let rb = a.0.ref_ptr.0 in let ro = a.0.ref_ptr.1 in let γ = a.0.ghost_name in let h = a.0.now in
    let y : (walk_of 𝓛 ended hs c).Ghost = ((κs, qs, bounds, a, (vptr rb ro ∷ [], tt)), none) in let Post : Val → SProp 𝓤 = (walk_of 𝓛 ended hs c).post y in
    qed 𝓛 (((‵ (flft κ q) ⊛ ‵ ftrue) ⊛ ‵ (owns (MutRef (named 0) κ loose.the_row ∷ []) a (vptr rb ro ∷ [], tt))) ∷ raw ((c κs a).requires none) ∷ []) ∵ split ! $ move ! (2 ∷ []) $
    heard ! (is_some h.value ≡ true) (λ es. let g = (some_of h.value es).0 in let ev = (some_of h.value es).1 in
    enter ! 𝓣.C 𝓣.Λ fn (vptr rb ro ∷ []) Post $ alloc_all ! (λ l. pass_all ! refl ((tt, tt), tt) $ let Ev = env fn.locals l in
    move ! (1 ∷ []) $ fsplit ! $ fsplit3 ! $ drop ! $ move ! (3 ∷ []) $ split ! $ move ! (2 ∷ 3 ∷ 0 ∷ []) $
    opens ! tt loose.the_row {h = h} rb ro (λ vs. move ! (1 ∷ []) $ loose_out ! h vs (λ ws. rewrite ! 0 (λ (x : Option item.struct.D). ‵ (owns_if item.the_row h.at x)) ev refl $
    in_a_block ! h.at (λ p. box_owns gives_back item.the_row p g) (fst∗ 𝓤 (never 𝓤) (sem 𝓛 (gives_back (bare (lone item.the_row.mir)) null_ptr))) (λ b o e. fsplit ! $
    rewrite ! 2 (λ (us : List Val). ‵ (cell_at full_share loose.the_row.mir us rb ro)) (ws ∙ ap (λ (p : Ptr). word p ∷ []) e) refl $
    -- [the value; the right to free its block; the handle's bytes; the open borrow; its two ghosts; true; true]
    first ! $ blocks ! $ sets ! (of_opd ! (load ! (through ! refl (fld ! refl (stop !))) (look_in ! 2 (sub ! 0 refl (whole !))))) refl (tt, tt) $ sets ! (of_opd ! (get ! refl)) refl (tt, tt) $ sets_last ! (addr ! (through ! refl (stop !))) refl (tt, tt) $
    exec ! 𝓣.C 𝓣.Λ Ev (after 1 fn.body) (at_ret Ev Post) $ sets ! (of_opd ! (get ! refl)) refl (tt, tt) $
    move ! (1 ∷ 2 ∷ []) $ fjoin ! $ move ! (2 ∷ 3 ∷ 4 ∷ 1 ∷ 0 ∷ []) $ group ! 5 $
    use1 𝓛 (later (some (λ (γ' : GName). raw (Part 𝓛 loose.the_row item.the_row (with_held h) (named 0) κ q rb ro b o γ (sem 𝓛 (Rest rb ro b o)) (back 𝓛 h rb ro b o e) g γ'))))
    (lends_Part 𝓛 loose.the_row item.the_row (with_held h) (named 0) κ q rb ro b o γ (sem 𝓛 (Rest rb ro b o)) (back 𝓛 h rb ro b o e) (loose.the_row.coded.code h) (loose.the_row.coded.code h) g) $ await ! tt $ pick ! (λ γ'.
    returns ! (look_at ! 0 refl) $ free_all ! refl $ keep ! (0 ∷ []) $ by ! (
    qed 𝓛 (‵ ((MutRef (named 0) κ item.the_row).own_val (record { ref_ptr = (b, o); ghost_name = γ'; now = g }) (vptr b o ∷ [])) ∷ ‵ (flft κ q) ∷ ‵ (follows loose.the_row item.the_row γ γ' (with_held h)) ∷ []) ∵
    suffices ! _ (ends_at 𝓛 ended hs c y (vptr b o) (record { ref_ptr = (b, o); ghost_name = γ'; now = g }) (tt, tt) (tt, tt)) $
    nothing ! $ nothing ! $ fjoin ! $ join ! $ nothing ! $ move ! (2 ∷ 0 ∷ []) $ join ! $ join ! $ frame ! $ says ! (sym ev) $ done !))))))))
