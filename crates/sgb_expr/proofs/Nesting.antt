-- Expressions inside expressions: their readers, and that as many levels as the text has bytes are enough.
use Rattle.sgb_vec.proofs.Common.{◌≡◌, ◌≤◌, ◌<◌, ◌&&◌, ℕ, zero, suc, Bool, true, List, [], ◌∷◌, ◌++◌, map, length, drop, get_or, cond, nat_eq, Ok, Err, refl, sym, ◌∙◌, ap, subst, inl, inr, arith, length-append, lit<, pointwise, and_parts, cases_lt}
use Rattle.sgb_expr.specs.Expression.{Expression}
use Rattle.sgb_expr.specs.Expressions.{IsExpression, IsNested}
use Rattle.sgb_text.specs.Languages.{As, Then}
use Rattle.sgb_expr.specs.Names.{name_opening}
use Rattle.sgb_expr.specs.inner.Names.{all_names, all_generator_names, generator_openings, openings}
use Rattle.sgb_expr.specs.Forms.{IsGeneratorCall}
use Rattle.sgb_expr.specs.Operations.{IsCallOf}
use Rattle.sgb_text.proofs.Readings.{then_read, word_at}
use Rattle.sgb_expr.specs.inner.Reading.{arguments_with, expression_at, nested_at}
use Rattle.sgb_expr.specs.declared.names.GeneratorName.{GeneratorName}
use Rattle.sgb_expr.specs.declared.names.GeneratorName.TheVariants.{Board}
use Rattle.sgb_expr.specs.declared.names.FormName.{FormName}
use Rattle.sgb_expr.specs.declared.names.FormName.TheVariants.{Generator}
use Rattle.sgb_text.proofs.Readers.{Anything, Reads, bind_of, bind_stops, reads_then, reads_as, reads_is}
use Rattle.sgb_text.proofs.Words.{IsWord, reads_words}
use Rattle.sgb_expr.proofs.GeneratorReaders.{reads_generator}
use Rattle.sgb_text.proofs.Lengths.{Within, no_longer, bind_agrees}
use Rattle.sgb_expr.proofs.EntryReaders.{Inside, is_lettered, lettered_more, lettered_some}
use Rattle.sgb_expr.proofs.Forms.{form_of}

-- a word stands among those of its list
word_there : {N : Type 0} (opening : N → List ℕ) (names : List N) (i : ℕ) (default : N) → i < length names → IsWord (map (λ n. (opening n, n)) names) (opening (get_or names i default)) (get_or names i default)
word_there opening [] i default h = absurd (omega (arith, h))
word_there opening (n ∷ names) zero default h = inl (refl, refl)
word_there opening (n ∷ names) (suc i) default h = inr (word_there opening names i default (omega (arith, h)))

-- at this place
abbrev place_of : {N : Type 0} → (N → List ℕ) → List N → List ℕ → ℕ
place_of opening [] text = 0
place_of opening (n ∷ names) text = cond (pointwise nat_eq (opening n) text) 0 (suc (place_of opening names text))

-- so each name does: the last clause is tried for each that is left
generator_is_there : (name : GeneratorName) → IsWord generator_openings (name_opening (Generator name)) name
unfolding generator_openings
generator_is_there Board = inl (refl, refl)
generator_is_there name =
    let opening = λ (other : GeneratorName). name_opening (Generator other) in
    word_there opening all_generator_names (place_of opening all_generator_names (opening name)) Board (lit< tt)

name_is_there : (name : FormName) → IsWord openings (name_opening name) name
unfolding openings
name_is_there (Generator Board) = inl (refl, refl)
name_is_there name = word_there name_opening all_names (place_of name_opening all_names (name_opening name)) (Generator Board) (lit< tt)

-- an opening is that of its name
opening_is : {N : Type 0} (opening : N → List ℕ) (names : List N) (text : List ℕ) (name : N) → IsWord (map (λ n. (opening n, n)) names) text name → text ≡ opening name
opening_is opening [] text name w = absurd w
opening_is opening (n ∷ names) text name (inl w) = w.0 ∙ ap opening (sym w.1)
opening_is opening (n ∷ names) text name (inr w) = opening_is opening names text name w

-- readers of openings
reads_generator_openings : Reads (IsWord generator_openings) Anything (word_at generator_openings)
unfolding generator_openings
reads_generator_openings =
    reads_words (name_opening (Generator Board), Board) (map (λ name. (name_opening (Generator name), name)) (drop 1 all_generator_names)) refl

reads_openings : Reads (IsWord openings) Anything (word_at openings)
unfolding openings
reads_openings = reads_words (name_opening (Generator Board), Generator Board) (map (λ name. (name_opening name, name)) (drop 1 all_names)) refl

-- each word begins with a letter
abbrev all_lettered : {V : Type 0} → List (List ℕ × V) → Bool
all_lettered [] = true
all_lettered (word ∷ words) = is_lettered word.0 && all_lettered words

word_lettered : {V : Type 0} (words : List (List ℕ × V)) (text : List ℕ) (v : V) → all_lettered words ≡ true → IsWord words text v → is_lettered text ≡ true
word_lettered [] text v e w = absurd w
word_lettered (word ∷ words) text v e (inl w) = ap is_lettered w.0 ∙ (and_parts (is_lettered word.0) (all_lettered words) e).0
word_lettered (word ∷ words) text v e (inr w) = word_lettered words text v (and_parts (is_lettered word.0) (all_lettered words) e).1 w

openings_lettered : all_lettered openings ≡ true
unfolding openings
openings_lettered = refl

-- what is left after a name is shorter than the text
pub opening_shorter : (text : List ℕ) (name : FormName) (rest : List ℕ) → word_at openings text ≡ Ok (name, rest) → length rest < length text
opening_shorter text name rest e =
    let f = reads_openings.found text name rest e in
    let some = lettered_some f.word (word_lettered openings f.word name openings_lettered f.is) in
    omega (arith, some, ap length f.whole, length-append f.word rest)

-- expressions in which no operation stands
generator_is : (text : List ℕ) (e : Expression) → Then (IsWord generator_openings) (λ name. As Expression.Generated (IsGeneratorCall name)) text e → IsNested 0 text e
unfolding generator_openings
generator_is text e h = (h.2, (h.1, h.3 ∙ ap (λ u. u ++ h.1) (opening_is (λ name. name_opening (Generator name)) all_generator_names h.0 h.2 h.4), h.5))

generator_from : (text : List ℕ) (e : Expression) → IsNested 0 text e → Then (IsWord generator_openings) (λ name. As Expression.Generated (IsGeneratorCall name)) text e
generator_from text e (name, (arguments, parts, is)) = (name_opening (Generator name), arguments, name, parts, generator_is_there name, is)

-- expressions in which operations may stand
call_is : (depth : ℕ) (text : List ℕ) (e : Expression) → Then (IsWord openings) (IsCallOf (IsNested depth)) text e → IsNested (suc depth) text e
unfolding openings
call_is depth text e h = (h.2, (h.1, h.3 ∙ ap (λ u. u ++ h.1) (opening_is name_opening all_names h.0 h.2 h.4), h.5))

call_from : (depth : ℕ) (text : List ℕ) (e : Expression) → IsNested (suc depth) text e → Then (IsWord openings) (IsCallOf (IsNested depth)) text e
call_from depth text e (name, (arguments, parts, is)) = (name_opening name, arguments, name, parts, name_is_there name, is)

-- an expression begins with a letter
opening_lettered : (name : FormName) (arguments text : List ℕ) → text ≡ name_opening name ++ arguments → is_lettered text ≡ true
opening_lettered name arguments text e =
    ap is_lettered e ∙ lettered_more (name_opening name) arguments (word_lettered openings (name_opening name) name openings_lettered (name_is_there name))

nested_lettered : (depth : ℕ) (text : List ℕ) (e : Expression) → IsNested depth text e → is_lettered text ≡ true
nested_lettered zero text e (name, (arguments, parts, is)) = opening_lettered (Generator name) arguments text parts
nested_lettered (suc depth) text e (name, (arguments, parts, is)) = opening_lettered name arguments text parts

-- a reader of expressions to each depth
pub reads_nested : (depth : ℕ) → Reads (IsNested depth) Anything (nested_at depth)
reads_nested zero =
    reads_is generator_is generator_from
    (reads_then reads_generator_openings (λ name. reads_as Expression.Generated (reads_generator name)) (λ v word tail value w t. tt))
reads_nested (suc depth) =
    reads_is (call_is depth) (call_from depth)
    (reads_then reads_openings (λ name. (form_of name).reads (IsNested depth) (nested_at depth) (record { reads = reads_nested depth; lettered = nested_lettered depth })) (λ v word tail value w t. tt))

-- expressions of each depth may stand inside others
inside_nested : (depth : ℕ) → Inside (IsNested depth) (nested_at depth)
inside_nested depth = record { reads = reads_nested depth; lettered = nested_lettered depth }

-- an expression stands at each greater depth
deeper : (depth : ℕ) → Within (IsNested depth) (IsNested (suc depth))
deeper zero text e (name, w) = (Generator name, w)
deeper (suc depth) text e (name, (arguments, parts, is)) = (name, (arguments, parts, (form_of name).more (IsNested depth) (IsNested (suc depth)) (deeper depth) arguments e is))

pub deep_enough : (more depth : ℕ) → depth ≤ more → Within (IsNested depth) (IsNested more)
deep_enough zero depth h text e w =
    let none : depth ≡ zero = omega (arith, h) in
    subst (λ (d : ℕ). IsNested d text e) none w
deep_enough (suc more) depth h text e w = elim (cases_lt depth (suc more)) [
  | inl lt ↦ deeper more text e (deep_enough more depth (omega (arith, lt)) text e w)
  | inr ge ↦
      let all : depth ≡ suc more = omega (arith, h, ge) in
      subst (λ (d : ℕ). IsNested d text e) all w
]

-- nothing is read of nothing
nothing_read : (depth : ℕ) → nested_at depth [] ≡ Err 0
unfolding generator_openings openings
nothing_read zero = refl
nothing_read (suc depth) = refl

-- depths of at least the text's length are all the same
pub enough : (depth other : ℕ) (text : List ℕ) → length text ≤ depth → length text ≤ other → nested_at depth text ≡ nested_at other text
enough depth other [] h k = nothing_read depth ∙ sym (nothing_read other)
enough zero other (byte ∷ text) h k = absurd (omega (arith, h))
enough (suc depth) zero (byte ∷ text) h k = absurd (omega (arith, k))
enough (suc depth) (suc other) (byte ∷ text) h k =
    bind_agrees (word_at openings (byte ∷ text)) (λ x. arguments_with (nested_at depth) x.0 x.1) (λ x. arguments_with (nested_at other) x.0 x.1)
    (λ x e.
    let shorter = opening_shorter (byte ∷ text) x.0 x.1 e in
    (form_of x.0).agrees (IsNested depth) (nested_at depth) (nested_at other) (length x.1) (inside_nested depth)
    (λ u within. enough depth other u (omega (arith, within, shorter, h)) (omega (arith, within, shorter, k))) x.1 (omega arith))

-- an expression is read to any depth of at least its length
pub expression_nested : (depth : ℕ) (text : List ℕ) → length text ≤ depth → expression_at text ≡ nested_at depth text
unfolding expression_at
expression_nested depth text h = enough (length text) depth text (omega arith) h

-- an expression is read by its name, and then its form, in which expressions are read
pub expression_read : (text : List ℕ) → expression_at text ≡ then_read (word_at openings) (arguments_with expression_at) text
expression_read text =
    expression_nested (suc (length text)) text (omega arith)
    ∙ bind_agrees (word_at openings text) (λ x. arguments_with (nested_at (length text)) x.0 x.1) (λ x. arguments_with expression_at x.0 x.1)
    (λ x e. (form_of x.0).agrees (IsNested (length text)) (nested_at (length text)) expression_at (length text) (inside_nested (length text))
    (λ u within. sym (expression_nested (length text) u within)) x.1 (omega (arith, opening_shorter text x.0 x.1 e)))

-- what is left after a name is the end of the text
pub opening_splits : (text : List ℕ) (name : FormName) (rest : List ℕ) → word_at openings text ≡ Ok (name, rest) → (word : List ℕ) × (text ≡ word ++ rest)
opening_splits text name rest e = let f = reads_openings.found text name rest e in (f.word, f.whole)

-- what is read as an expression is one, and what is left after it is the end of the text
pub expression_splits : (text : List ℕ) (e : Expression) (rest : List ℕ) → expression_at text ≡ Ok (e, rest) → (word : List ℕ) × (text ≡ word ++ rest) × IsExpression word e
expression_splits text e rest h =
    let f = (reads_nested (length text)).found text e rest (sym (expression_nested (length text) text (omega arith)) ∙ h) in
    (f.word, f.whole, (length text, f.is))

-- what is left after an expression is no longer than the text
pub expression_no_longer : (text : List ℕ) (e : Expression) (rest : List ℕ) → expression_at text ≡ Ok (e, rest) → length rest ≤ length text
expression_no_longer text e rest h =
    no_longer (reads_nested (length text)) text e rest (sym (expression_nested (length text) text (omega arith)) ∙ h)

-- after a name its form is read
pub name_read : (text : List ℕ) (name : FormName) (rest : List ℕ) → word_at openings text ≡ Ok (name, rest) → expression_at text ≡ arguments_with expression_at name rest
name_read text name rest e = expression_read text ∙ bind_of (word_at openings text) (λ x. arguments_with expression_at x.0 x.1) (name, rest) e

-- where no name begins, no expression does
pub name_wrong : (left : ℕ) (text : List ℕ) → word_at openings text ≡ Err left → expression_at text ≡ Err left
name_wrong left text e = expression_read text ∙ bind_stops (word_at openings text) (λ x. arguments_with expression_at x.0 x.1) left e
