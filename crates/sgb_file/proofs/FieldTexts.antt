-- The texts of fields, laid out as pieces one after another.
use Rattle.sgb_vec.proofs.Common.{rules, ◌≡◌, ◌<◌, ◌≤◌, ◌+◌, ◌++◌, ℕ, Bool, true, false, List, [], ◌∷◌, Result, Ok, Err, length, drop, take, get_or, map, ◌∙◌, flat_map-append, slice_index_or, refl, sym, subst, append-nil, Some, arith, slice_get, flat_map, at_drop_more, drop_all}
use Rattle.sgb_graph.specs.Columns.{util_seen}
use Rattle.sgb_graph.specs.declared.fields.UtilRef.{UtilRef}
use Rattle.sgb_graph.specs.declared.fields.Util.{Util}
use Rattle.sgb_graph.specs.declared.fields.Util.TheVariants.{Nothing}
use Rattle.sgb_file.specs.Saving.{field_texts, pieces_of, laid_out}
use Rattle.sgb_file.specs.inner.SavedLines.{lines_ended, line_begun}
use Rattle.sgb_file.specs.inner.Layouts.{Stage, HasLaid, IsStopped, IsLaid, IsPlaced, IsNextPlaced, AreLaidOut, LinesSoFar, has_any, piece_of}
use Rattle.sgb_file.proofs.LaidLines.{lines-more, lines-cut, lines-last, stopped-first, laid-after}

-- the texts of fields
abbrev pub texts_of : List UtilRef → List (List ℕ)
texts_of fields = flat_map field_texts (map util_seen fields)

-- the texts from the i-th field on
pub texts-from : (fields : List UtilRef) (i : ℕ) (field : UtilRef) → i < length fields → field ≡ slice_index_or fields i field
    → texts_of (drop i fields) ≡ field_texts (util_seen field) ++ texts_of (drop (i + 1) fields)
texts-from fields i field h e = rw (at_drop_more texts_of fields i field h, sym e) refl

-- the first text as a piece, and the others after it
pub first_piece : (line text : List ℕ) (rest : List (List ℕ)) → laid_out line (pieces_of (text ∷ rest))
    ≡ lines_ended line (piece_of (has_any rest) text) ++ laid_out (line_begun line (piece_of (has_any rest) text)) (pieces_of rest)
unfolding laid_out pieces_of
first_piece line text rest = grind (arith, append-nil)

-- of all lines these are left, or the writing stopped within all
abbrev pub IsFurther : {T E : Type 0} → List (List ℕ) → List (List ℕ) → Stage → Stage → Result T E → Type 0
IsFurther all texts a c (Ok x) = LinesSoFar all (laid_out c.layout.line (pieces_of texts)) a c
IsFurther all texts a c (Err e) = IsStopped all a c

-- the first text was laid out, and the others are left
text-next : {T E : Type 0} (text : List ℕ) (rest all : List (List ℕ)) (a b c : Stage) (r : Result T E) → LinesSoFar all (laid_out b.layout.line (pieces_of (text ∷ rest))) a b
    → IsPlaced (piece_of (has_any rest) text) b c r → IsFurther all rest a c r
text-next text rest all a b c (Ok x) p q =
    subst (λ line. LinesSoFar all (laid_out line (pieces_of rest)) a c) (sym q.1)
    (lines-more all _ (lines_ended b.layout.line (piece_of (has_any rest) text)) _ a b c (first_piece b.layout.line text rest) p q.0)
text-next text rest all a b c (Err e) p q = lines-cut all _ (lines_ended b.layout.line (piece_of (has_any rest) text)) _ a b c (first_piece b.layout.line text rest) p q

-- the same of a field, which may have no text
field-next : {T E : Type 0} (f : Util) (rest all : List (List ℕ)) (a b c : Stage) (r : Result T E) → LinesSoFar all (laid_out b.layout.line (pieces_of (field_texts f ++ rest))) a b
    → IsNextPlaced (has_any rest) (field_texts f) b c r → IsFurther all rest a c r
field-next Nothing rest all a b c (Ok x) p q =
    subst (λ line. LinesSoFar all (laid_out line (pieces_of rest)) a c) (sym q.1) (lines-more all _ [] _ a b c refl p q.0)
field-next Nothing rest all a b c (Err e) p q = lines-cut all _ [] _ a b c refl p q
field-next _ rest all a b c r p q = text-next _ rest all a b c r p q

-- fields one by one: the next one was laid out, or the writing stopped there
pub fields-next : {T E : Type 0} (fields : List UtilRef) (i : ℕ) (field : UtilRef) (more : Bool) (all : List (List ℕ)) (a b c : Stage) (r : Result T E)
    → i < length fields → field ≡ slice_index_or fields i field → more ≡ has_any (texts_of (drop (i + 1) fields))
    → LinesSoFar all (laid_out b.layout.line (pieces_of (texts_of (drop i fields)))) a b
    → IsNextPlaced more (field_texts (util_seen field)) b c r → IsFurther all (texts_of (drop (i + 1) fields)) a c r
fields-next fields i field more all a b c r h e m p q = grind (arith, field-next, texts-from)

-- no field is left: the line ends
no_texts : (line : List ℕ) → laid_out line (pieces_of []) ≡ line ∷ []
unfolding laid_out pieces_of
no_texts line = refl

pub fields-end : {T E : Type 0} (fields : List UtilRef) (i : ℕ) (all : List (List ℕ)) (a b c : Stage) (r : Result T E) → length fields ≤ i
    → LinesSoFar all (laid_out b.layout.line (pieces_of (texts_of (drop i fields)))) a b → IsLaid (b.layout.line ∷ []) [] b c r → IsLaid all [] a c r
fields-end fields i all a b c r h p q = search (rules, drop_all, no_texts, lines-last)

-- no field is used: the line ends
pub fields-unused : {T E : Type 0} (texts : List (List ℕ)) (a b : Stage) (r : Result T E) → has_any texts ≡ false → IsLaid (a.layout.line ∷ []) [] a b r → AreLaidOut texts a b r
fields-unused texts a b r e p = grind (arith, no_texts)

-- a piece was laid out
abbrev pub HasPlaced : List ℕ → Stage → Stage → Type 0
HasPlaced piece a b = HasLaid (lines_ended a.layout.line piece) a b × (b.layout.line ≡ line_begun a.layout.line piece)

-- a record whose first text was laid out, or where the writing stopped there
pub record-cut : (text t : List ℕ) (rest : List (List ℕ)) (more : Bool) (a b : Stage) → t ≡ text → more ≡ has_any rest
    → IsStopped (lines_ended a.layout.line (piece_of more t)) a b → IsStopped (laid_out a.layout.line (pieces_of (text ∷ rest))) a b
record-cut text t rest more a b w e p =
    stopped-first (laid_out a.layout.line (pieces_of (text ∷ rest))) (lines_ended a.layout.line (piece_of (has_any rest) text)) _ a b (first_piece a.layout.line text rest) (rw (← e, ← w) p)

pub record-then : {T E : Type 0} (text t : List ℕ) (rest : List (List ℕ)) (more : Bool) (a b c : Stage) (r : Result T E) → t ≡ text
    → more ≡ has_any rest → HasPlaced (piece_of more t) a b → AreLaidOut rest b c r → AreLaidOut (text ∷ rest) a c r
record-then text t rest more a b c r w e p q = grind (arith, laid-after, first_piece)

pub record-stopped : (text t : List ℕ) (rest : List (List ℕ)) (more : Bool) (a b c : Stage) → t ≡ text
    → more ≡ has_any rest → HasPlaced (piece_of more t) a b → IsStopped (laid_out b.layout.line (pieces_of rest)) b c → IsStopped (laid_out a.layout.line (pieces_of (text ∷ rest))) a c
record-stopped text t rest more a b c w e p q = record-then {T = Bool} {E = Bool} text t rest more a b c (Err true) w e p q

-- six values in a list of six
pub six_values : {X : Type 0} (xs : List X) (a b c d e f : X) → length xs ≡ 6 → slice_get xs 0 ≡ Some a → slice_get xs 1 ≡ Some b → slice_get xs 2 ≡ Some c
    → slice_get xs 3 ≡ Some d → slice_get xs 4 ≡ Some e → slice_get xs 5 ≡ Some f → a ∷ b ∷ c ∷ d ∷ e ∷ f ∷ [] ≡ xs
six_values (x0 ∷ x1 ∷ x2 ∷ x3 ∷ x4 ∷ x5 ∷ []) a b c d e f n h0 h1 h2 h3 h4 h5 = cc
six_values _ a b c d e f n h0 h1 h2 h3 h4 h5 = absurd (omega (arith, n))

-- no text, where there is not any
nothing_any : (texts : List (List ℕ)) → false ≡ has_any texts → texts ≡ []
nothing_any [] e = refl
nothing_any (text ∷ texts) e = absurd cc

-- the texts of six fields, of which the first three have none and the others one each
pub three_texts :
    {U : Type 0} (seen : U → Util) (fields : List U) (a b c : U) (x y z : List ℕ) → length fields ≡ 6 → false ≡ has_any (flat_map field_texts (map seen (take 3 fields)))
    → a ≡ get_or fields 3 a → b ≡ get_or fields 4 b → c ≡ get_or fields 5 c → field_texts (seen a) ≡ x ∷ [] → field_texts (seen b) ≡ y ∷ [] → field_texts (seen c) ≡ z ∷ []
    → flat_map field_texts (map seen fields) ≡ x ∷ y ∷ z ∷ []
three_texts seen (u ∷ v ∷ w ∷ a' ∷ b' ∷ c' ∷ []) a b c x y z six none ea eb ec ta tb tc =
    let empty = nothing_any (flat_map field_texts (map seen (u ∷ v ∷ w ∷ []))) none in
    flat_map-append field_texts (map seen (u ∷ v ∷ w ∷ [])) (map seen (a' ∷ b' ∷ c' ∷ []))
    ∙ (rw (empty, ← ea, ← eb, ← ec, ta, tb, tc) refl)
three_texts seen _ a b c x y z six none ea eb ec ta tb tc = absurd (omega (arith, six))
