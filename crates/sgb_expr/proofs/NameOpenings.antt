-- The openings of names, one after another.
use Rattle.std.proofs.Common.{◌≡◌, ◌≤◌, ◌<◌, ◌+◌, ℕ, List, ◌∷◌, length, get_or, map, drop, min, Ok, Err, sym, ◌∙◌, ap, subst, arith, suc, drop-cons}
use Rattle.sgb_expr.specs.Names.{name_opening}
use Rattle.sgb_expr.specs.inner.Names.{openings, all_names}
use Rattle.sgb_text.proofs.Readings.{either, fixed_at, word_at}
use Rattle.sgb_expr.specs.declared.names.FormName.{FormName}
use Rattle.sgb_expr.specs.declared.names.GeneratorName.TheVariants.{Board}
use Rattle.sgb_expr.specs.declared.names.FormName.TheVariants.{Generator}
use Rattle.sgb_text.proofs.Words.{word_passed, word_found, word_begins}

-- the openings from one name on
abbrev pub openings_from : ℕ → List (List ℕ × FormName)
openings_from i = map (λ name. (name_opening name, name)) (drop i all_names)

-- all of them
pub openings_all : (text : List ℕ) → either (Err (length text)) (word_at (openings_from 0) text) ≡ word_at openings text
unfolding openings
openings_all text = word_begins openings text

-- the openings from a name on
openings_more : (i : ℕ) → i < length all_names → openings_from i ≡ (name_opening (get_or all_names i (Generator Board)), get_or all_names i (Generator Board)) ∷ openings_from (i + 1)
openings_more i h =
    let next : suc i ≡ i + 1 = omega arith in
    ap (map (λ name. (name_opening name, name)))
    (drop-cons all_names i (Generator Board) h ∙ ap (λ n. get_or all_names i (Generator Board) ∷ drop n all_names) next)

-- a name is not there
pub name_passed : (i left other : ℕ) (bytes text : List ℕ) → i < length all_names → bytes ≡ name_opening (get_or all_names i (Generator Board)) → fixed_at bytes text ≡ Err other
    → either (Err left) (word_at (openings_from i) text) ≡ word_at openings text → either (Err (min left other)) (word_at (openings_from (i + 1)) text) ≡ word_at openings text
name_passed i left other bytes text h is e all =
    word_passed (get_or all_names i (Generator Board)) (name_opening (get_or all_names i (Generator Board))) text (openings_from (i + 1)) left other (word_at openings text)
    (ap (λ b. fixed_at b text) (sym is) ∙ e)
    (ap (λ (ws : List (List ℕ × FormName)). either (Err left) (word_at ws text)) (sym (openings_more i h)) ∙ all)

-- a name is there
pub name_found : (i left : ℕ) (bytes text rest : List ℕ) → i < length all_names → bytes ≡ name_opening (get_or all_names i (Generator Board)) → fixed_at bytes text ≡ Ok rest
    → either (Err left) (word_at (openings_from i) text) ≡ word_at openings text → word_at openings text ≡ Ok (get_or all_names i (Generator Board), rest)
name_found i left bytes text rest h is e all =
    word_found (get_or all_names i (Generator Board)) (name_opening (get_or all_names i (Generator Board))) text rest (openings_from (i + 1)) left (word_at openings text)
    (ap (λ b. fixed_at b text) (sym is) ∙ e)
    (ap (λ (ws : List (List ℕ × FormName)). either (Err left) (word_at ws text)) (sym (openings_more i h)) ∙ all)

-- no name is there
pub names_end : (i left : ℕ) (text : List ℕ) → i ≡ length all_names → left ≤ length text → either (Err left) (word_at (openings_from i) text) ≡ word_at openings text → word_at openings text ≡ Err left
names_end i left text end within all =
    let last : either {A = FormName × List ℕ} (Err left) (Err (length text)) ≡ word_at openings text =
    subst (λ (n : ℕ). either (Err left) (word_at (openings_from n) text) ≡ word_at openings text) end all in
    sym last ∙ ap Err (omega (arith, within))
