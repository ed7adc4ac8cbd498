-- What becomes of the arcs of a list that are handed out one by one.
use Rattle.std.specs.Prelude.{List, Result, Ok, Err}
use Rattle.sgb_gen.specs.LocalLists.{LocalArc}

-- these arcs were all taken, or a fault came before: by what their taker keeps (ra, rb) and where it puts them (oa, ob)
abbrev pub AreGiven : {R S F T : Type 0} → (R → S → List LocalArc → R → S → Type 0) → (R → S → List LocalArc → R → S → F → Type 0)
    → R → S → List LocalArc → R → S → Result T F → Type 0
AreGiven took cut ra oa arcs rb ob (Ok x) = took ra oa arcs rb ob
AreGiven took cut ra oa arcs rb ob (Err f) = cut ra oa arcs rb ob f
