-- The forms of names: languages made of that of the expressions inside, and their readers, made of the reader of these.
use Rattle.std.proofs.Common.{ℕ, ℤ, List, [], length, codes, Result, Ok, refl, ◌∙◌, ap, arith}
use Rattle.sgb_expr.specs.Expression.{Expression, OnGraphs}
use Rattle.sgb_expr.specs.Forms.{AreArguments, flag_at, nth_number}
use Rattle.sgb_text.specs.Languages.{Then, After, As}
use Rattle.sgb_expr.specs.Operations.{AreOperands, IsCallOf, IsEntryList}
use Rattle.sgb_expr.specs.inner.Operations.{AreEntries, AreTwoGraphs, Operands, complement_call, lines_call, induced_call, bi_complete_call, wheel_call}
use Rattle.sgb_text.proofs.Readings.{◌>>=◌, then_read, read_after, read_as, fixed_at}
use Rattle.sgb_expr.specs.inner.Readings.{integers_at}
use Rattle.sgb_expr.specs.inner.Reading.{arguments_with, entries_at, entry_list_at, operands_with}
use Rattle.sgb_expr.specs.declared.names.FormName.{FormName}
use Rattle.sgb_expr.specs.declared.names.FormName.TheVariants.{Generator, Complement, Gunion, Intersection, Lines, Product, Induced, BiComplete, Wheel, Stdin}
use Rattle.sgb_text.proofs.Readers.{Anything, Reads, reads_then, reads_as, reads_is}
use Rattle.sgb_text.proofs.Words.{reads_after, reads_fixed}
use Rattle.sgb_text.proofs.Lengths.{Language, Reader, Within, Agree, no_longer, fixed_takes, bind_agrees}
use Rattle.sgb_expr.proofs.GeneratorReaders.{close_end, reads_generator, reads_integers}
use Rattle.sgb_expr.proofs.EntryReaders.{Inside, none_before, reads_entries, entries_more, entries_agree}

-- a form: its reader reads it if the expressions inside are read; with more expressions inside it has more words; and
-- its reader asks for expressions in no longer texts
pub record Form {V : Type 0} (Word : Language Expression → Language V) (read : Reader Expression → Reader V) : Type 1 where
  pub reads : (Inner : Language Expression) (inner : Reader Expression) → Inside Inner inner → Reads (Word Inner) Anything (read inner)
  pub more : (Less More : Language Expression) → Within Less More → Within (Word Less) (Word More)
  pub agrees : (Inner : Language Expression) (inner other : Reader Expression) (n : ℕ) → Inside Inner inner → Agree n inner other → Agree n (read inner) (read other)

-- an expression inside
inside : Form (λ Inner. Inner) (λ inner. inner)
inside = record {
  reads = λ Inner inner r. r.reads;
  more = λ Less More h. h;
  agrees = λ Inner inner other n r h. h;
}

-- no expression inside
plain : {V : Type 0} {Word : Language V} {read : Reader V} → Reads Word Anything read → Form (λ Inner. Word) (λ inner. read)
plain r = record {
  reads = λ Inner inner i. r;
  more = λ Less More h word value w. w;
  agrees = λ Inner inner other n i h text short. refl;
}

-- one after another
form_then : {V W : Type 0} {First : Language Expression → Language V} {Second : V → Language Expression → Language W} {first : Reader Expression → Reader V} {second : V → Reader Expression → Reader W}
    → Form First first → ((v : V) → Form (Second v) (second v))
    → Form (λ Inner. Then (First Inner) (λ v. Second v Inner)) (λ inner. then_read (first inner) (λ v. second v inner))
form_then {V} {W} {First} {Second} {first} {second} f g = record {
  reads = λ Inner inner r. reads_then (f.reads Inner inner r) (λ v. (g v).reads Inner inner r) (λ v word tail value w t. tt);
  more = λ Less More h word value w. (w.0, w.1, w.2, w.3, f.more Less More h w.0 w.2 w.4, (g w.2).more Less More h w.1 value w.5);
  agrees = λ Inner inner other n r h text short.
      bind_agrees (first inner text) (λ x. second x.0 inner x.1) (λ x. second x.0 other x.1)
      (λ x e. (g x.0).agrees Inner inner other n r h x.1 (omega (arith, short, no_longer (f.reads Inner inner r) text x.0 x.1 e)))
      ∙ ap (λ (s : Result (V × List ℕ) ℕ). s >>= λ x. second x.0 other x.1) (f.agrees Inner inner other n r h text short);
}

-- after fixed bytes
form_after : {V : Type 0} {Word : Language Expression → Language V} {read : Reader Expression → Reader V} (bytes : List ℕ) → Form Word read → Form (λ Inner. After bytes (Word Inner)) (λ inner. read_after bytes (read inner))
form_after {V} {Word} {read} bytes f = record {
  reads = λ Inner inner r. reads_after bytes (f.reads Inner inner r);
  more = λ Less More h word value w. (w.0, w.1, f.more Less More h w.0 value w.2);
  agrees = λ Inner inner other n r h text short.
      bind_agrees (fixed_at bytes text) (read inner) (read other)
      (λ rest e. f.agrees Inner inner other n r h rest (omega (arith, short, fixed_takes bytes text rest e)));
}

-- under a function
form_as : {V W : Type 0} {Word : Language Expression → Language V} {read : Reader Expression → Reader V} (k : V → W) → Form Word read → Form (λ Inner. As k (Word Inner)) (λ inner. read_as k (read inner))
form_as {V} {W} {Word} {read} k f = record {
  reads = λ Inner inner r. reads_as k (f.reads Inner inner r);
  more = λ Less More h word value w. (w.0, f.more Less More h word w.0 w.1, w.2);
  agrees = λ Inner inner other n r h text short. ap (λ (s : Result (V × List ℕ) ℕ). s >>= λ x. Ok (k x.0, x.1)) (f.agrees Inner inner other n r h text short);
}

-- with the same words
form_is : {V : Type 0} {Word Other : Language Expression → Language V} {read : Reader Expression → Reader V} → ((Inner : Language Expression) → Within (Word Inner) (Other Inner))
    → ((Inner : Language Expression) → Within (Other Inner) (Word Inner)) → Form Word read → Form Other read
form_is to from f = record {
  reads = λ Inner inner r. reads_is (to Inner) (from Inner) (f.reads Inner inner r);
  more = λ Less More h word value w. to More word value (f.more Less More h word value (from Less word value w));
  agrees = f.agrees;
}

-- two graphs, and two integers after them
two_graphs_form : Form AreTwoGraphs operands_with
two_graphs_form =
    form_then inside (λ first. form_after (codes ",") (form_then inside (λ second.
    plain (reads_as (λ numbers. record { first = first; second = second; numbers = numbers }) (reads_integers (codes ",") 2 (codes ")") close_end)))))

-- as what is made of them
operands_form : (make : List ℤ → OnGraphs) → Form (λ Inner. AreOperands Inner make) (λ inner. read_as (λ (o : Operands). Expression.OfGraphs (make o.numbers) o.first o.second) (operands_with inner))
operands_form make =
    form_is (λ Inner word e w.
    let t = w.1 in
    let u = t.5.2 in
    (t.0, t.1, t.2, t.3, t.4, (t.5.0, t.5.1, (u.0, u.1, u.2, u.3, u.4, (u.5.0, u.5.1, w.2 ∙ ap (λ (o : Operands). Expression.OfGraphs (make o.numbers) o.first o.second) u.5.2)))))
    (λ Inner word e w.
    let u = w.5.2 in
    (record { first = w.2; second = u.2; numbers = u.5.0 }, (w.0, w.1, w.2, w.3, w.4, (w.5.0, w.5.1, (u.0, u.1, u.2, u.3, u.4, (u.5.0, u.5.1, refl)))), u.5.2))
    (form_as (λ (o : Operands). Expression.OfGraphs (make o.numbers) o.first o.second) two_graphs_form)

-- entries in brackets
entries_form : Form (λ Inner. AreEntries Inner []) (λ inner. entries_at inner [])
entries_form = record {
  reads = λ Inner inner r. reads_entries r [] none_before;
  more = λ Less More h word value w. entries_more Less More h (length value) [] word value w;
  agrees = λ Inner inner other n r h text short. entries_agree r h [] text short;
}

-- a graph, entries and three integers
induced_form : (graph : Expression) → Form (λ Inner. After (codes ",") (Then (IsEntryList Inner) (λ entries. As (induced_call graph entries) (AreArguments (codes ",") 3)))) (λ inner. read_after (codes ",") (then_read (entry_list_at inner) (λ entries. read_as (induced_call graph entries) (integers_at (codes ",") 3 (codes ")")))))
induced_form graph =
    form_after (codes ",") (form_then (form_after (codes "[") entries_form) (λ entries.
    plain (reads_as (induced_call graph entries) (reads_integers (codes ",") 3 (codes ")") close_end))))

-- the form of each name
pub form_of : (name : FormName) → Form (λ Inner. IsCallOf Inner name) (λ inner. arguments_with inner name)
form_of (Generator name) = plain (reads_as Expression.Generated (reads_generator name))
form_of Complement = form_then inside (λ graph. plain (reads_as (complement_call graph) (reads_integers (codes ",") 3 (codes ")") close_end)))
form_of Gunion = operands_form (λ numbers. OnGraphs.Gunion (flag_at numbers 0) (flag_at numbers 1))
form_of Intersection = operands_form (λ numbers. OnGraphs.Intersection (flag_at numbers 0) (flag_at numbers 1))
form_of Lines = form_then inside (λ graph. plain (reads_as (lines_call graph) (reads_integers (codes ",") 1 (codes ")") close_end)))
form_of Product = operands_form (λ numbers. OnGraphs.Product (nth_number numbers 0) (flag_at numbers 1))
form_of Induced = form_then inside induced_form
form_of BiComplete = plain (reads_as bi_complete_call (reads_integers [] 3 (codes ")") close_end))
form_of Wheel = plain (reads_as wheel_call (reads_integers [] 3 (codes ")") close_end))
form_of Stdin = plain (reads_fixed Expression.Stdin [])
