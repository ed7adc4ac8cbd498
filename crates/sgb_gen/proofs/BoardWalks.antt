-- Moves from a vector, one length after another, and what is made of them.
use Rattle.std.proofs.Common.{◌≡◌, ℕ, ◌+◌, ◌-◌, ◌<◌, ◌≤◌, ℤ, Bool, true, false, not, cond, List, [], ◌∷◌, ◌++◌, length, map, Option, Some, None, sym, ap, ◌∙◌, arith, append-nil, append_assoc, length-append}
use Rattle.std.specs.Prelude.{◌==◌}
use Rattle.std.specs.List.{filter, range_with_len}
use Rattle.std.specs.Option.{option_map, option_map_or}
use Rattle.std.proofs.lemmas.Bool.{eq-eqb, ne_eqb}
use Rattle.std.proofs.lemmas.List.Elements.{length_all_zip}
use Rattle.sgb_vec.specs.Boxes.{box}
use Rattle.sgb_vec.specs.Lexicographic.{IsBelow}
use Rattle.sgb_gen.specs.Boards.{BoardData}
use Rattle.sgb_moves.specs.Moves.{sides_of, moves_from}
use Rattle.sgb_moves.specs.VectorMoves.{Move}
use Rattle.sgb_gen.specs.VectorGraphs.{vertex_among}
use Rattle.sgb_gen.specs.inner.LocalBoards.{other_starts}
use Rattle.sgb_moves.specs.inner.Moves.{destination, longest_move}
use Rattle.sgb_gen.proofs.Reaches.{destination-below, move, moves_until, moves_from-until}

-- where a piece moves on a board
abbrev pub leads : BoardData → List ℕ → List ℤ → ℕ → Option (List ℕ)
leads b x t l = destination (sides_of b.sizes b.wrap) b.piece x t l

-- the greatest length
abbrev pub longest : BoardData → ℕ
longest b = longest_move (sides_of b.sizes b.wrap) b.piece

-- the moves of the lengths from l on
abbrev pub moves_left : BoardData → List ℤ → List ℕ → ℕ → List Move
moves_left b t x l = moves_until x (leads b x t) (range_with_len l (longest b + 1 - l))

-- the moves from x by t
abbrev pub moves_of : BoardData → List ℤ → List ℕ → List Move
moves_of b t x = moves_from (sides_of b.sizes b.wrap) b.piece x t

-- at length 1 all are left
pub left-all : (b : BoardData) (t : List ℤ) (x : List ℕ) → moves_left b t x 1 ≡ moves_of b t x
left-all b t x = grind (arith, moves_from-until)

-- past the greatest length none are left
pub left-none : (b : BoardData) (t : List ℤ) (x : List ℕ) (l : ℕ) → longest b < l → moves_left b t x l ≡ []
left-none b t x l h = grind (arith, moves_until)

-- at a length up to it, that at the length itself comes first
pub left-first : (b : BoardData) (t : List ℤ) (x : List ℕ) (l : ℕ) → l ≤ longest b → moves_left b t x l ≡ option_map_or (λ y. move x l y ∷ moves_left b t x (l + 1)) (leads b x t l) []
left-first b t x l h = grind (arith, moves_until)

-- where the piece leads nowhere none are left
pub left-out : (b : BoardData) (t : List ℤ) (x : List ℕ) (l : ℕ) → l ≤ longest b → leads b x t l ≡ None → moves_left b t x l ≡ []
left-out b t x l h e =
    left-first b t x l h ∙ ap (λ o. option_map_or (λ y. move x l y ∷ moves_left b t x (l + 1)) o []) e

-- where it leads to y the move there is the next
pub left-next : (b : BoardData) (t : List ℤ) (x : List ℕ) (l : ℕ) (y : List ℕ) → l ≤ longest b → leads b x t l ≡ Some y → moves_left b t x l ≡ move x l y ∷ moves_left b t x (l + 1)
left-next b t x l y h e =
    left-first b t x l h ∙ ap (λ o. option_map_or (λ y. move x l y ∷ moves_left b t x (l + 1)) o []) e

-- ---- what is made

-- one element more, of what is made of the moves that are left
pub one_more : {X Y : Type 0} (f : X → Y) (done new whole : List Y) (m : X) (ms left : List X) → done ++ map f ms ≡ whole → ms ≡ m ∷ left → new ≡ done ++ f m ∷ [] → new ++ map f left ≡ whole
one_more f done new whole m ms left h e added =
    ap (λ ys. ys ++ map f left) added ∙ append_assoc done (f m ∷ []) (map f left) ∙ sym (ap (λ es. done ++ map f es) e) ∙ h

-- none are left
pub no_more : {X Y : Type 0} (f : X → Y) (done whole : List Y) (ms : List X) → done ++ map f ms ≡ whole → ms ≡ [] → done ≡ whole
no_more f done whole ms h e = sym (append-nil done) ∙ sym (ap (λ es. done ++ map f es) e) ∙ h

-- a move that does not count
pub not_one : {X : Type 0} (p : X → Bool) (m : X) (ms left : List X) → ms ≡ m ∷ left → p m ≡ false → filter p ms ≡ filter p left
not_one p m ms left e h = ap (filter p) e ∙ ap (λ c. cond c (m ∷ filter p left) (filter p left)) h

-- and one that does
pub one_that : {X : Type 0} (p : X → Bool) (m : X) (ms left : List X) → ms ≡ m ∷ left → p m ≡ true → filter p ms ≡ m ∷ filter p left
one_that p m ms left e h = ap (filter p) e ∙ ap (λ c. cond c (m ∷ filter p left) (filter p left)) h

-- ---- what is made of those that pass

-- one that passes stands before the others
passing_first : {Y : Type 0} (c : Bool) (y : Y) (ys : List Y) → cond c (y ∷ []) [] ++ ys ≡ cond c (y ∷ ys) ys
passing_first c y ys = grind (arith)

-- one element more, if it passes
pub one_passing : {X Y : Type 0} (p : Y → Bool) (f : X → Y) (done new whole : List Y) (m : X) (ms left : List X) → done ++ filter p (map f ms) ≡ whole → ms ≡ m ∷ left → new ≡ done ++ cond (p (f m)) (f m ∷ []) []
    → new ++ filter p (map f left) ≡ whole
one_passing p f done new whole m ms left h e added =
    ap (λ ys. ys ++ filter p (map f left)) added
    ∙ append_assoc done (cond (p (f m)) (f m ∷ []) []) (filter p (map f left))
    ∙ ap (λ ys. done ++ ys) (passing_first (p (f m)) (f m) (filter p (map f left)))
    ∙ sym (ap (λ es. done ++ filter p (map f es)) e)
    ∙ h

-- a vertex where the piece leads is that of a vector
pub led_to : (g : List ℕ → ℕ) (o : Option (List ℕ)) (v : ℕ) → option_map g o ≡ Some v → (y : List ℕ) × (o ≡ Some y) × (g y ≡ v)
led_to g o v e = grind (arith)

pub led_nowhere : (g : List ℕ → ℕ) (o : Option (List ℕ)) → option_map g o ≡ None → o ≡ None
led_nowhere g o e = grind (arith)

-- the start of a move to another vertex is one more, if it passes
pub others_next : (b : BoardData) (t : List ℤ) (x : List ℕ) (u l v : ℕ) (p : ℕ × ℕ → Bool) (done new whole : List (ℕ × ℕ)) → l ≤ longest b → option_map (vertex_among (box b.sizes)) (leads b x t l) ≡ Some v → (v ≡ u → ⊥)
    → done ++ filter p (other_starts (box b.sizes) u (moves_left b t x l)) ≡ whole → new ≡ done ++ cond (p (v, l)) ((v, l) ∷ []) []
    → new ++ filter p (other_starts (box b.sizes) u (moves_left b t x (l + 1))) ≡ whole
others_next b t x u l v p done new whole few goes other h added =
    let far : Move → Bool = λ m. not (vertex_among (box b.sizes) m.to == u) in
    let pairs : Move → ℕ × ℕ = λ m. (vertex_among (box b.sizes) m.to, m.len) in
    let led = led_to (vertex_among (box b.sizes)) (leads b x t l) v goes in
    let m = move x l led.0 in
    let ms = moves_left b t x l in
    let left = moves_left b t x (l + 1) in
    let passes : far m ≡ true = ap (λ i. not (i == u)) led.2 ∙ ap not (ne_eqb v u other) in
    one_passing p pairs done new whole m (filter far ms) (filter far left) h (one_that far m ms left (left-next b t x l led.0 few led.1) passes) (added ∙ ap (λ i. done ++ cond (p (i, l)) ((i, l) ∷ []) []) (sym led.2))

-- one to the vertex itself is none
pub others_same : (b : BoardData) (t : List ℤ) (x : List ℕ) (u l v : ℕ) → l ≤ longest b → option_map (vertex_among (box b.sizes)) (leads b x t l) ≡ Some v → v ≡ u
    → other_starts (box b.sizes) u (moves_left b t x (l + 1)) ≡ other_starts (box b.sizes) u (moves_left b t x l)
others_same b t x u l v few goes same =
    let far : Move → Bool = λ m. not (vertex_among (box b.sizes) m.to == u) in
    let led = led_to (vertex_among (box b.sizes)) (leads b x t l) v goes in
    let fails = ap (λ i. not (i == u)) led.2 ∙ ap not (eq-eqb v u same) in
    ap (map (λ (m : Move). (vertex_among (box b.sizes) m.to, m.len))) (sym (not_one far (move x l led.0) (moves_left b t x l) (moves_left b t x (l + 1)) (left-next b t x l led.0 few led.1) fails))

-- where none are left, all are had
pub others_ended : (b : BoardData) (t : List ℤ) (x : List ℕ) (u l : ℕ) (p : ℕ × ℕ → Bool) (done whole : List (ℕ × ℕ)) → moves_left b t x l ≡ [] → done ++ filter p (other_starts (box b.sizes) u (moves_left b t x l)) ≡ whole → done ≡ whole
others_ended b t x u l p done whole none h = sym (append-nil done) ∙ sym (ap (λ ms. done ++ filter p (other_starts (box b.sizes) u ms)) none) ∙ h

-- one that is there already, and one that is to come
pub two_at_least : {X : Type 0} (done rest whole : List X) (c : Bool) (s : X) → c ≡ true → 0 < length done → (done ++ cond c (s ∷ []) []) ++ rest ≡ whole → 1 < length whole
two_at_least done rest whole c s within some e =
    let one : length (cond c (s ∷ []) []) ≡ 1 = ap (λ d. length (cond d (s ∷ []) [])) within in
    omega (arith, some, one, length-append done (cond c (s ∷ []) []), length-append (done ++ cond c (s ∷ []) []) rest, ap length e)

-- where the piece leads to has as many entries
pub lands_width : (b : BoardData) (t : List ℤ) (x y : List ℕ) (l : ℕ) → IsBelow x b.sizes → leads b x t l ≡ Some y → length y ≡ length x
lands_width b t x y l below e =
    length_all_zip (λ c n. c < n) y b.sizes (destination-below b.sizes b.wrap b.piece x t l y below e) ∙ sym (length_all_zip (λ c n. c < n) x b.sizes below)
