-- What takes memory in a text: a part of it that does, and readers that are out of memory.
use Rattle.std.proofs.Common.{◌≡◌, ℕ, List, [], ◌++◌, codes, Result, Ok, Err, refl, sym, ◌∙◌, ap, inl, inr, append_assoc}
use Rattle.sgb_expr.specs.Expression.{Expression, Entry}
use Rattle.sgb_expr.specs.Expressions.{IsOnGraphs, TakesMemory}
use Rattle.sgb_expr.specs.inner.Gives.{Fails, Gives}
use Rattle.sgb_expr.specs.inner.Memory.{MayTake, anything}
use Rattle.sgb_expr.specs.inner.Names.{openings}
use Rattle.sgb_expr.specs.inner.Operations.{Operands, induced_call}
use Rattle.sgb_expr.specs.inner.Readings.{integers_at}
use Rattle.sgb_expr.specs.inner.Reading.{arguments_with, entry_list_at, expression_at, induced_with, operands_with}
use Rattle.sgb_expr.specs.declared.names.FormName.{FormName}
use Rattle.sgb_expr.specs.declared.wrong.Wrong.{Wrong}
use Rattle.sgb_expr.specs.declared.wrong.Wrong.TheVariants.{Left, NoRoom}
use Rattle.sgb_text.proofs.Readers.{bind_of, bind_stops, no_ok, ok_same}
use Rattle.sgb_text.proofs.Readings.{then_read, read_after, read_as, fixed_at, word_at}
use Rattle.sgb_text.proofs.Words.{fixed_cases}
use Rattle.sgb_expr.proofs.Nesting.{expression_splits, name_read, opening_splits}

-- the end of a text takes memory
pub taken_after : (before rest text : List ℕ) → text ≡ before ++ rest → TakesMemory rest → TakesMemory text
taken_after before rest text e t =
    (before ++ t.0, t.1, t.2, e ∙ ap (λ u. before ++ u) t.3 ∙ sym (append_assoc before t.0 (t.1 ++ t.2)), t.4)

-- an expression that is read, on graphs
taken_whole : (text rest : List ℕ) (e : Expression) → expression_at text ≡ Ok (e, rest) → IsOnGraphs e → TakesMemory text
taken_whole text rest e read on = let s = expression_splits text e rest read in ([], s.0, rest, s.1, inr (e, s.2, on))

-- bytes that are read stand there
fixed_splits : (bytes text rest : List ℕ) → fixed_at bytes text ≡ Ok rest → text ≡ bytes ++ rest
fixed_splits bytes text rest e = elim (fixed_cases bytes text) [
  | inl r ↦ r.2 ∙ ap (λ u. bytes ++ u) (ok_same r.0 rest (sym r.1 ∙ e))
  | inr p ↦ absurd (no_ok (sym p.1 ∙ e))
]

-- a text that begins with `[`
pub taken_bracket : (text rest : List ℕ) → fixed_at (codes "[") text ≡ Ok rest → TakesMemory text
taken_bracket text rest e = ([], codes "[", rest, fixed_splits (codes "[") text rest e, inl refl)

-- what comes after an expression and a comma
taken_later : (text rest begun : List ℕ) (e : Expression) → expression_at text ≡ Ok (e, rest) → fixed_at (codes ",") rest ≡ Ok begun → TakesMemory begun → TakesMemory text
taken_later text rest begun e read comma t =
    let s = expression_splits text e rest read in
    taken_after s.0 rest text s.1 (taken_after (codes ",") begun rest (fixed_splits (codes ",") rest begun comma) t)

-- what takes memory after a name
after_name : (text : List ℕ) (name : FormName) (rest : List ℕ) → word_at openings text ≡ Ok (name, rest)
    → MayTake IsOnGraphs rest (arguments_with expression_at name rest) → TakesMemory text
after_name text name rest e (inl t) = let s = opening_splits text name rest e in taken_after s.0 rest text s.1 t
after_name text name rest e (inr (x, more, read, on)) = taken_whole text more x (name_read text name rest e ∙ read) on

-- what an expression gives by what its arguments give
pub name_gives : {X : Type 0} (view : X → Expression × List ℕ) (text : List ℕ) (name : FormName) (rest : List ℕ) (result : Result X Wrong) → word_at openings text ≡ Ok (name, rest)
    → Gives (MayTake IsOnGraphs rest (arguments_with expression_at name rest)) view result (arguments_with expression_at name rest) → Gives (TakesMemory text) view result (expression_at text)
name_gives view text name rest (Ok x) e given = name_read text name rest e ∙ given
name_gives view text name rest (Err (Left left)) e given = name_read text name rest e ∙ given
name_gives view text name rest (Err NoRoom) e given = after_name text name rest e given

-- what is read after the first graph and a comma, and after the second graph
abbrev numbers_after : Expression → Expression → List ℕ → Result (Operands × List ℕ) ℕ
numbers_after first second = read_as (λ numbers. record { first = first; second = second; numbers = numbers }) (integers_at (codes ",") 2 (codes ")"))

abbrev operands_after : Expression → List ℕ → Result (Operands × List ℕ) ℕ
operands_after first = then_read expression_at (numbers_after first)

-- what is read of an induced graph after the graph and a comma, and after the entries
abbrev flags_after : Expression → List Entry → List ℕ → Result (Expression × List ℕ) ℕ
flags_after graph entries = read_as (induced_call graph entries) (integers_at (codes ",") 3 (codes ")"))

abbrev entries_after : Expression → List ℕ → Result (Expression × List ℕ) ℕ
entries_after graph = then_read (entry_list_at expression_at) (flags_after graph)

-- the second graph is not read
pub second_fails : (w : Wrong) (text rest begun : List ℕ) (e : Expression) → expression_at text ≡ Ok (e, rest) → fixed_at (codes ",") rest ≡ Ok begun → Fails (TakesMemory begun) w (expression_at begun)
    → Fails (MayTake anything text (operands_with expression_at text)) w (operands_with expression_at text)
second_fails (Left left) text rest begun e read comma h =
    bind_of (expression_at text) (λ x. read_after (codes ",") (operands_after x.0) x.1) (e, rest) read
    ∙ (bind_of (fixed_at (codes ",") rest) (operands_after e) begun comma
    ∙ bind_stops (expression_at begun) (λ x. numbers_after e x.0 x.1) left h)
second_fails NoRoom text rest begun e read comma h = inl (taken_later text rest begun e read comma h)

-- nor the entries
pub entries_fail : (w : Wrong) (text rest begun : List ℕ) (e : Expression) → expression_at text ≡ Ok (e, rest) → fixed_at (codes ",") rest ≡ Ok begun → Fails (TakesMemory begun) w (entry_list_at expression_at begun)
    → Fails (MayTake IsOnGraphs text (induced_with expression_at text)) w (induced_with expression_at text)
entries_fail (Left left) text rest begun e read comma h =
    bind_of (expression_at text) (λ x. read_after (codes ",") (entries_after x.0) x.1) (e, rest) read
    ∙ (bind_of (fixed_at (codes ",") rest) (entries_after e) begun comma
    ∙ bind_stops (entry_list_at expression_at begun) (λ x. flags_after e x.0 x.1) left h)
entries_fail NoRoom text rest begun e read comma h = inl (taken_later text rest begun e read comma h)

-- where there is memory to take, an exit says where reading stops
pub fails_there : {Y : Type 0} (memory : Type 0) → memory → (w : Wrong) (read : Result Y ℕ) → Fails (Unit {0}) w read → Fails memory w read
fails_there memory there (Left left) read h = h
fails_there memory there NoRoom read h = there
