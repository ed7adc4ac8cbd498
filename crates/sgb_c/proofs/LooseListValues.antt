-- The machine value of a `LooseList`: a struct of one pointer.
use Rattle.std.proofs.Common.{◌≡◌, List, [], ◌∷◌, ◌++◌, refl, sym, subst, true≢false}
use Rattle.std.specs.Prelude.{Option, Some, None, is_some, true}
use seplogic.Ra.Ura.{Ura}
use mir.Val.{Val, vstruct, vcons, vnil, of_list}
use types.Logic.{Logic}
use types.Kit.{Item, Goal, Seq, Step, step, ‵, ◌$◌, drop, fsplit, fjoin, fpick, fpack, feq_i, feq_l}
use denote.RattleType.{Valss}
use denote.Builtin.{RawPtr}
use denote.RawPtr.{Ptr, ptr_val}
use denote.Steps.{nothing}
use denote.Struct.Struct.{within}
use denote.Struct.Owning.{shape}
use Rattle.sgb_c.specs.Owns.{owns_if}
use Rattle.sgb_c.specs.contracts.entry_lists.EntryList as data'
use Rattle.sgb_c.specs.contracts.entry_lists.LooseList as loose
use Rattle.sgb_c.specs.declared.entry_lists.EntryList.{EntryList}
use Rattle.sgb_c.specs.declared.entry_lists.LooseList.{LooseList}

-- a struct of this one field
abbrev pub word : Ptr → Val
word p = vstruct (vcons (ptr_val p) vnil)

-- what is held, where something is
pub some_of : (x : Option EntryList) → is_some x ≡ true → (d : EntryList) × (x ≡ Some d)
some_of (Some d) e = (d, refl)
some_of None e = absurd (true≢false (sym e))

module _ {M : Type 1} {𝓤 : Ura M} {𝓛 : Logic 𝓤} {K : Type 0} {Γ : List (Item 𝓤)} {G : Goal 𝓤 𝓛.H} where
  pub loose_out : K → (d : LooseList) (vs : List Val)
      → (vs ≡ word d.at ∷ [] → Seq K 𝓛 (‵ (owns_if data'.the_row d.at d.value) ∷ Γ) G)
      → Seq K 𝓛 (‵ (loose.the_row.own_val d vs) ∷ Γ) G
  loose_out t d vs k =
      fsplit t $ fpick t (λ vss. fsplit t $ feq_l t (λ ev. fsplit t $ feq_l t (λ ep. drop t $
      k (subst (λ (ps : List Val). vs ≡ vstruct (of_list (ps ++ [])) ∷ []) ep ev))))

  pub loose_in : K → (p : Ptr) (x : Option EntryList)
      → Step K 𝓛 (‵ (loose.the_row.own_val (record { at = p; value = x }) (word p ∷ [])) ∷ Γ) G (‵ (owns_if data'.the_row p x) ∷ Γ) G
  loose_in t p x = step (λ s.
      nothing t $ feq_i t (List Val) (ptr_val p ∷ []) (ptr_val p ∷ []) refl $ fjoin t $
      feq_i t (List Val) (word p ∷ []) (word p ∷ []) refl $ fjoin t $
      fpack t (Valss (RawPtr ∷ [])) (within (shape loose.the_type) (p, tt) (word p ∷ [])) (ptr_val p ∷ [], tt) $ fjoin t $ s)
