-- Lists of arcs that were put into links, or refused.
use Rattle.std.proofs.Common.{◌≡◌, ℕ, List, [], ◌++◌, Result, Ok, Err, ap, ◌∙◌, arith}
use Rattle.std.specs.Prelude.{OnOk, IsOkUnless}
use Rattle.sgb_vec.specs.declared.panics.Panic.{Panic}
use Rattle.sgb_vec.specs.declared.panics.Panic.TheVariants.{NoRoom}
use Rattle.sgb_gen.specs.ArcSinks.{AreGiven}
use Rattle.sgb_gen.specs.LocalLists.{LinksData, LocalArc}
use Rattle.sgb_gen.specs.inner.LocalSimplexes.{with_arcs}

-- what was put whole is what the links hold in the end
pub list_ended_as : {T : Type 0} (put result : Result T Panic) (before after : LinksData) (arcs : List LocalArc) → result ≡ put → OnOk put (after ≡ before) → OnOk put (before.arcs ≡ arcs)
    → OnOk result (after.arcs ≡ arcs)
list_ended_as put result before after arcs same kept are = grind (arith)

-- arcs that were handed out are those that the links hold, or there was no memory
pub list_kept : {T : Type 0} (before mid : LinksData) (arcs : List LocalArc) (put : Result T Panic) → before.arcs ≡ []
    → AreGiven {R = LinksData} {S = ℕ} {F = Panic} (λ old _ given new _. new ≡ with_arcs old given) (λ _ _ _ _ _ f. f ≡ NoRoom) before 0 arcs mid 0 put → OnOk put (mid.arcs ≡ arcs)
list_kept before mid arcs (Ok x) none given = ap (λ l. l.arcs) given ∙ ap (λ l. l ++ arcs) none
list_kept before mid arcs (Err f) none given = tt

-- and that is the only fault
pub memory_told : {T : Type 0} (before mid : LinksData) (arcs : List LocalArc) (put : Result T Panic)
    → AreGiven {R = LinksData} {S = ℕ} {F = Panic} (λ old _ given new _. new ≡ with_arcs old given) (λ _ _ _ _ _ f. f ≡ NoRoom) before 0 arcs mid 0 put → IsOkUnless put NoRoom
memory_told before mid arcs (Ok x) given = tt
memory_told before mid arcs (Err f) given = given
