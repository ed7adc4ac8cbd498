-- What calls answer that make a graph.
use Rattle.std.proofs.Common.{◌≡◌, ◌∙◌, ℕ, [], true, false, Option, None, Some, is_some, Result, Ok, Err, refl, ap, subst, inl, inr, arith}
use Rattle.std.specs.Prelude.{Bool, IsSomeAnd, List, is_err}
use Rattle.std.specs.Option.{option_map, option_map_or}
use Rattle.sgb_vec.specs.declared.panics.Panic.{Panic}
use Rattle.sgb_vec.specs.declared.panics.Panic.TheVariants.{NoRoom}
use Rattle.sgb_graph.specs.Graphs.{GraphData}
use Rattle.sgb_graph.specs.Descriptions.{Description, IsAnswerOf}
use Rattle.sgb_graph.specs.Vertices.{order_of}
use Rattle.sgb_ops.specs.Entries.{accepted_entries}
use Rattle.sgb_ops.specs.Induced.{induced_of}
use Rattle.sgb_ops.specs.declared.induced_graphs.entries.Entry.{Entry}
use Rattle.sgb_arrays.specs.OpenGraphs.{IsListed, graph_open}
use Rattle.sgb_arrays.specs.Given.{IsUnmade}
use Rattle.sgb_arrays.specs.declared.given.Unmade.{Unmade}
use Rattle.sgb_arrays.specs.declared.given.Unmade.TheVariants as unmade
use Rattle.sgb_c.specs.Answers.{answer_of_unmade, number_of}
use Rattle.sgb_c.specs.Made.{IsGiven, IsMade, of_both}
use Rattle.sgb_c.specs.inner.Operations.{IsPut}
use Rattle.sgb_c.specs.declared.answers.Answer.TheVariants as answer
use Rattle.sgb_c.specs.declared.entry_lists.EntryList.{EntryList}
use Rattle.sgb_c.specs.declared.held.Held.{Held}

-- the graph that is held
abbrev pub graph_of : Held → GraphData
graph_of h = graph_open h.graph

-- memory may run out before anything is made
pub memory_answer : (v : Result Description Panic) (p : Panic) → p ≡ NoRoom → IsAnswerOf v (Err p)
memory_answer (Ok d) p is = is
memory_answer (Err f) p is = inr is

-- what is refused is answered so, and with nothing else
pub refused_answer : (v : Result Description Panic) (p : Panic) → v ≡ Err p → IsAnswerOf v (Err p)
refused_answer v p is = rw is (inl refl)

pub induced_refused : (g : GraphData) (entries : List Entry) (self multi directed : Bool) (p : Panic) → accepted_entries (order_of g) entries ≡ Err p
    → IsAnswerOf (induced_of g entries self multi directed) (Err p)
induced_refused g entries self multi directed p is = rw is (inl refl)

pub refused_same : {T S : Type 0} (v : Result T Panic) (f p : Panic) → v ≡ Err f → v ≡ Err p → ◌≡◌ {A = Result S Panic} (Err f) (Err p)
refused_same v f p is also = cc

pub accepted_not : {T : Type 0} (v : Result T Panic) (p : Panic) → is_err v ≡ false → v ≡ Err p → ⊥
accepted_not (Ok x) p ok is = absurd cc
accepted_not (Err f) p ok is = absurd (grind (arith, ok))

pub ok_refused : {T : Type 0} (v : Result T Panic) (x : T) (p : Panic) → v ≡ Ok x → v ≡ Err p → ⊥
ok_refused v x p ok is = cc

-- and where what is made is held
no_room : (v : Result Description Panic) (g : GraphData) → IsAnswerOf v (Ok g) → IsAnswerOf v (Err NoRoom)
no_room (Ok d) g is = refl
no_room (Err f) g is = absurd is

-- what is made of operands that are open
pub put_made : (v : Result Description Panic) (made : Result GraphData Panic) (old new : Option Held) (number : ℕ) → is_some old ≡ false → IsAnswerOf v made → IsPut made old new number
    → IsMade (Some v) (option_map graph_of old) (option_map graph_of new) number
put_made v made (Some h) new number e is put = absurd (grind (arith, e))
put_made v (Ok g) None new number e is (inl (done, (h, holds, same, _))) = inl (done, (g, is, ap (option_map graph_of) holds ∙ ap Some same))
put_made v (Ok g) None new number e is (inr (told, kept)) = inr ((NoRoom, told, no_room v g is), ap (option_map graph_of) kept)
put_made v (Err p) None new number e is (told, kept) = inr ((p, told, is), ap (option_map graph_of) kept)

pub put_left : (made : Result GraphData Panic) (old new : Option Held) (number : ℕ) → IsPut made old new number → (number ≡ number_of answer.Done → ⊥) → new ≡ old
put_left (Ok g) old new number (inl (done, _)) fails = absurd (fails done)
put_left (Ok g) old new number (inr (told, kept)) fails = kept
put_left (Err p) old new number (told, kept) fails = kept

-- nothing is held that is not built, where nothing was
not_listed : (old : Option Held) → option_map graph_of old ≡ None → IsSomeAnd old (λ h. IsListed h.graph) → ⊥
not_listed None e listed = listed
not_listed (Some h) e listed = absurd (grind (arith, e))

pub put_built : (made : Result GraphData Panic) (old new : Option Held) (number : ℕ) → IsPut made old new number → option_map graph_of old ≡ None → IsSomeAnd new (λ h. IsListed h.graph) → ⊥
put_built (Ok g) old new number (inl (done, (h, holds, same, built))) none listed = built (subst (λ x. IsSomeAnd x (λ y. IsListed y.graph)) holds listed)
put_built (Ok g) old new number (inr (told, kept)) none listed = not_listed old none (subst (λ x. IsSomeAnd x (λ y. IsListed y.graph)) kept listed)
put_built (Err p) old new number (told, kept) none listed = not_listed old none (subst (λ x. IsSomeAnd x (λ y. IsListed y.graph)) kept listed)

pub put_refused : (made : Result GraphData Panic) (old new : Option Held) (number : ℕ) (p : Panic) → made ≡ Err p → IsPut made old new number → number ≡ number_of (answer.Panic p)
put_refused made old new number p is put = (subst (λ m. IsPut m old new number) is put).0

-- another graph is open
pub made_open : (value : Option (Result Description Panic)) (old : Option Held) (number : ℕ) → is_some old ≡ true → number ≡ number_of answer.AlreadyOpen
    → IsMade value (option_map graph_of old) (option_map graph_of old) number
made_open value None number e told = absurd (grind (arith, e))
made_open value (Some h) number e told = (told, refl)

-- an operand is not
pub made_closed : (old : Option Held) (number : ℕ) → is_some old ≡ false → number ≡ number_of answer.NotOpen → IsMade None (option_map graph_of old) (option_map graph_of old) number
made_closed (Some h) number e told = absurd (grind (arith, e))
made_closed None number e told = (told, refl)

-- one that is open holds something
pub open_holds : (old : Option Held) → is_some old ≡ true → option_map graph_of old ≡ None → ⊥
open_holds None e none = absurd (grind (arith, e))
open_holds (Some h) e none = absurd (grind (arith, none))

pub some_same : {T : Type 0} (x y : T) → Some x ≡ Some y → x ≡ y
some_same x y e = grind (arith, e)

of_none : (d : GraphData → GraphData → Result Description Panic) (first : Option Held) → of_both d (option_map graph_of first) None ≡ None
of_none d None = refl
of_none d (Some h) = refl

-- what is made of one graph, where its handle holds one or none
module _ (d : GraphData → Result Description Panic) (operand : Option Held) (old : Option Held) (number : ℕ) (empty : is_some old ≡ false) where
  pub one_made : (h : Held) → operand ≡ Some h → (made : Result GraphData Panic) (new : Option Held) → IsAnswerOf (d (graph_of h)) made → IsPut made old new number
      → IsMade (option_map d (option_map graph_of operand)) (option_map graph_of old) (option_map graph_of new) number
  one_made h is made new answered put = rw is (put_made (d (graph_of h)) made old new number empty answered put)

  pub one_closed : operand ≡ None → number ≡ number_of answer.NotOpen → IsMade (option_map d (option_map graph_of operand)) (option_map graph_of old) (option_map graph_of old) number
  one_closed is told = rw is (made_closed old number empty told)

-- of two
module _ (d : GraphData → GraphData → Result Description Panic) (first second : Option Held) (old : Option Held) (number : ℕ) (empty : is_some old ≡ false) where
  pub two_made : (h k : Held) → first ≡ Some h → second ≡ Some k → (made : Result GraphData Panic) (new : Option Held) → IsAnswerOf (d (graph_of h) (graph_of k)) made → IsPut made old new number
      → IsMade (of_both d (option_map graph_of first) (option_map graph_of second)) (option_map graph_of old) (option_map graph_of new) number
  two_made h k is same made new answered put = rw is (rw same (put_made (d (graph_of h) (graph_of k)) made old new number empty answered put))

  pub first_closed : first ≡ None → number ≡ number_of answer.NotOpen
      → IsMade (of_both d (option_map graph_of first) (option_map graph_of second)) (option_map graph_of old) (option_map graph_of old) number
  first_closed is told = rw is (made_closed old number empty told)

  pub second_closed : second ≡ None → number ≡ number_of answer.NotOpen
      → IsMade (of_both d (option_map graph_of first) (option_map graph_of second)) (option_map graph_of old) (option_map graph_of old) number
  second_closed is told = rw is (rw (of_none d first) (made_closed old number empty told))

-- what is refused whatever memory there is
pub two_refused : (d : GraphData → GraphData → Result Description Panic) (first second : Option Held) (h k : Held) → first ≡ Some h → second ≡ Some k → (made : Result GraphData Panic)
    → ((p : Panic) → d (graph_of h) (graph_of k) ≡ Err p → made ≡ Err p) → (old new : Option Held) (number : ℕ) → IsPut made old new number
    → (p : Panic) → of_both d (option_map graph_of first) (option_map graph_of second) ≡ Some (Err p) → number ≡ number_of (answer.Panic p)
two_refused d first second h k is same made refused old new number put p value =
    let said : Some (d (graph_of h) (graph_of k)) ≡ Some (Err p) = rw is at (rw same at value) in
    put_refused made old new number p (refused p (some_same _ _ said)) put

-- a graph of arrays
pub given_made : (fault : Option Unmade) (told g : GraphData) (old new : Option Held) (number : ℕ) → fault ≡ None → g ≡ told → is_some old ≡ false → IsPut (Ok g) old new number
    → IsGiven fault told (option_map graph_of old) (option_map graph_of new) number
given_made fault told g (Some h) new number none is e put = absurd (grind (arith, e))
given_made fault told g None new number none is e (inl (done, (h, holds, same, _))) = inl (done, none, ap (option_map graph_of) holds ∙ ap Some (same ∙ is))
given_made fault told g None new number none is e (inr (room, kept)) = inr ((unmade.NoRoom, room, rw none refl), ap (option_map graph_of) kept)

pub given_refused : (fault : Option Unmade) (told : GraphData) (old : Option Held) (number : ℕ) (why : Unmade) → is_some old ≡ false → IsUnmade fault why → number ≡ number_of (answer_of_unmade why)
    → IsGiven fault told (option_map graph_of old) (option_map graph_of old) number
given_refused fault told (Some h) number why e is said = absurd (grind (arith, e))
given_refused fault told None number why e is said = inr ((why, said, is), refl)

-- the entries of a list that was taken out of its handle
pub entries_taken : {B : Type 0} (list : B → EntryList) (taken : Option B) → option_map_or (λ b. (list b).entries.items) taken [] ≡ option_map_or (λ l. l.entries.items) (option_map list taken) []
entries_taken list None = refl
entries_taken list (Some b) = refl
