-- The arcs to vectors that begin alike; sizes that they cannot have in common; and the vectors down to one and from it.
use Rattle.std.proofs.Common.{◌≡◌, ℕ, suc, ◌+◌, ◌-◌, ◌<◌, ◌≤◌, ◌⊎◌, min, pos, Bool, false, cond, List, [], ◌∷◌, ◌++◌, length, map, filter, reverse, take, drop, sum, get_or, refl, sym, ap, ap₂, subst, ◌∙◌, inl, arith, append-nil, append_assoc}
use Rattle.std.specs.List.{Contains}
use Rattle.std.proofs.lemmas.List.{drop_at, length-append, map-append, reverse-append, reverse-reverse, take_at}
use Rattle.std.proofs.lemmas.List.Elements.{All-contains_itself}
use Rattle.std.proofs.lemmas.Option.{slice_get_read}
use Rattle.std.proofs.Math.Seq.{get_or-append_seam}
use Rattle.std.proofs.Math.Path.{fun_ext}
use Rattle.sgb_vec.specs.Boxes.{box}
use Rattle.sgb_vec.specs.Lexicographic.{IsWithin}
use Rattle.sgb_vec.specs.Limits.{most_vertices}
use Rattle.sgb_vec.specs.Sums.{BoundedSum, bounded_sums}
use Rattle.sgb_vec.proofs.Lists.{All-reverse, filter-none, made-append, reverse-first}
use Rattle.sgb_vec.proofs.SumMembers.{Contains-bounded_sums, bounded_sums-rise}
use Rattle.sgb_vec.proofs.SumSuccessors.{sum-cons}
use Rattle.sgb_gen.specs.Subsets.{common_size, is_wanted_size}
use Rattle.sgb_gen.specs.VectorGraphs.{vertex_among}
use Rattle.sgb_gen.specs.inner.Descents.{IsBegun, arcs_under, down_from, down_to, row, rows}
use Rattle.sgb_gen.specs.inner.LocalSubsets.{arcs_by_walk, arcs_to}
use Rattle.sgb_gen.proofs.Descents.{row-within, rows-end, rows-parts, sums-past, sums-rows}
use Rattle.sgb_gen.proofs.RisingVectors.{vertex_in_rising}

-- ---- arcs to vectors that begin alike

-- to some vectors and then others
pub under-append : (sb : ℕ) (front : List ℕ) (c : ℕ) (x : List ℕ) (us ws : List (List ℕ)) → arcs_under sb front c x (us ++ ws) ≡ arcs_under sb front c x us ++ arcs_under sb front c x ws
under-append sb front c x us ws = made-append (λ v. is_wanted_size sb (common_size x v + c)) (λ v. record { tip = front ++ v; len = pos 1 }) us ws

pub under-front : (sb : ℕ) (front : List ℕ) (c h : ℕ) (x : List ℕ) (e : ℕ) (vs : List (List ℕ)) → arcs_under sb front c (h ∷ x) (map (λ v. e ∷ v) vs) ≡ arcs_under sb (front ++ e ∷ []) (c + min h e) x vs
under-front sb front c h x e [] = refl
under-front sb front c h x e (v ∷ vs) = grind (arith, min, filter, cond, append_assoc, under-front sb front c h x e vs)

-- ---- what two vectors may have in common

common-most : (x v : List ℕ) → (common_size x v ≤ sum x) × (common_size x v ≤ sum v)
common-most [] v = (omega arith, omega arith)
common-most (h ∷ x) [] = (omega arith, omega arith)
common-most (h ∷ x) (e ∷ v) = grind (arith, sum-cons, common-most x v)

common-least : (bs x v : List ℕ) → IsWithin x bs → IsWithin v bs → sum v + sum x ≤ common_size x v + sum bs
common-least [] [] [] hx hv = omega arith
common-least [] (h ∷ x) v hx hv = absurd hx
common-least (b ∷ bs) [] v hx hv = absurd hx
common-least (b ∷ bs) (h ∷ x) (e ∷ v) hx hv =
    omega (arith, sum-cons h x, sum-cons e v, sum-cons b bs, hx.0, hv.0, common-least bs x v hx.1 hv.1)
common-least _ _ _ hx hv = absurd hv

-- where none of the vectors has a wanted size in common there are no arcs
pub under-none : (sb : ℕ) (front : List ℕ) (c : ℕ) (bs x : List ℕ) (left : ℕ) → ((v : List ℕ) → IsWithin v bs → sum v ≡ left → is_wanted_size sb (common_size x v + c) ≡ false) → arcs_under sb front c x (reverse (bounded_sums left bs)) ≡ []
under-none sb front c bs x left none =
    ap (map (λ v. record { tip = front ++ v; len = pos 1 })) (filter-none (λ v. is_wanted_size sb (common_size x v + c)) (reverse (bounded_sums left bs))
    (All-reverse (λ v. is_wanted_size sb (common_size x v + c) ≡ false) (bounded_sums left bs) (λ k d within. unwanted _ (All-contains_itself (bounded_sums left bs) k d within)))) where
      unwanted : (v : List ℕ) → Contains (bounded_sums left bs) v → is_wanted_size sb (common_size x v + c) ≡ false
      unwanted v there =
          let is = (Contains-bounded_sums left bs v).0 there in
          none v is.0 is.1

-- and where none of these sizes is wanted
pub under-unwanted : (sb : ℕ) (front : List ℕ) (c : ℕ) (bs x : List ℕ) (room shared left : ℕ) → IsBegun bs x room shared left c
    → ((k : ℕ) → left ≤ k + (room - shared) → k ≤ left → k ≤ shared → is_wanted_size sb (k + c) ≡ false)
    → arcs_under sb front c x (reverse (bounded_sums left bs)) ≡ []
under-unwanted sb front c bs x room shared left begun none =
    under-none sb front c bs x left (λ v within adds. none (common_size x v)
    (omega (arith, common-least bs x v begun.within within, begun.bounds_add, begun.own_add, adds)) (omega (arith, common-most x v, adds)) (omega (arith, common-most x v, begun.own_add)))

-- ---- where nothing is left to be placed

-- the one vector that adds to 0
abbrev pub zeros : List ℕ → List ℕ
zeros bs = map (λ b. 0) bs

sums-zero : (bs : List ℕ) → bounded_sums 0 bs ≡ zeros bs ∷ []
unfolding bounded_sums box
sums-zero [] = grind (arith)
sums-zero (b ∷ bs) =
    sym (reverse-reverse (bounded_sums 0 (b ∷ bs)))
    ∙ ap reverse (sums-rows 0 b bs ∙ ap (rows 0 bs 0) {x = b + 1} {y = b + 1 - 0} (omega arith) ∙ rows-end 0 bs 0 b (omega arith) ∙ ap (rows 0 bs 0) {x = min 0 b + 1 - 0} {y = 1} (omega arith))
    ∙ ap (λ vs. reverse (map (λ v. 0 ∷ v) (reverse vs) ++ [])) (sums-zero bs)

common-zero : (x bs : List ℕ) → common_size x (zeros bs) ≡ 0
common-zero (h ∷ x) (b ∷ bs) = omega (arith, common-zero x bs)
common-zero _ _ = refl

pub under-zeros : (sb : ℕ) (front : List ℕ) (c left : ℕ) (bs x : List ℕ) (b : Bool) → left ≡ 0 → is_wanted_size sb c ≡ b → arcs_under sb front c x (reverse (bounded_sums left bs)) ≡ cond b (record { tip = front ++ zeros bs; len = pos 1 } ∷ []) []
under-zeros sb front c left bs x b none test = grind (arith, sums-zero, common-zero)

-- ---- the vectors above one and below it

abbrev above : List ℕ → List ℕ → List (List ℕ)
above [] x = []
above (b ∷ bs) [] = []
above (b ∷ bs) (x ∷ xs) = rows (x + sum xs) bs (x + 1) (b - x) ++ map (λ v. x ∷ v) (above bs xs)

abbrev below : List ℕ → List ℕ → List (List ℕ)
below [] x = []
below (b ∷ bs) [] = []
below (b ∷ bs) (x ∷ xs) = map (λ v. x ∷ v) (below bs xs) ++ rows (x + sum xs) bs 0 x

to-above : (bs x : List ℕ) → IsWithin x bs → down_to bs x ≡ above bs x ++ x ∷ []
to-above [] [] h = refl
to-above (b ∷ bs) (x ∷ xs) h =
    cc (to-above bs xs h.1, map-append (λ v. x ∷ v) (above bs xs) (xs ∷ []), append_assoc (rows (x + sum xs) bs (x + 1) (b - x)) (map (λ v. x ∷ v) (above bs xs)) ((x ∷ xs) ∷ []))
to-above _ _ h = absurd h

from-below : (bs x : List ℕ) → IsWithin x bs → down_from bs x ≡ x ∷ below bs x
from-below [] [] h = refl
from-below (b ∷ bs) (x ∷ xs) h = ap (λ l. map (λ v. x ∷ v) l ++ rows (x + sum xs) bs 0 x) (from-below bs xs h.1)
from-below _ _ h = absurd h

-- they are all
parted : (bs x : List ℕ) → IsWithin x bs → reverse (bounded_sums (sum x) bs) ≡ above bs x ++ x ∷ below bs x
unfolding bounded_sums box
parted [] [] h = refl
parted [] (x ∷ xs) h = absurd h
parted (b ∷ bs) [] h = absurd h
parted (b ∷ bs) (x ∷ xs) h =
    let r = x + sum xs in
    let upper = rows r bs (x + 1) (b - x) in
    let lower = rows r bs 0 x in
    let middle : row r bs x ≡ map (λ v. x ∷ v) (above bs xs) ++ (x ∷ xs) ∷ map (λ v. x ∷ v) (below bs xs) = grind (arith, row-within, reverse, map-append, above, below, parted bs xs h.1) in
    ap (λ k. reverse (bounded_sums k (b ∷ bs))) (sum-cons x xs)
    ∙ sums-rows r b bs
    ∙ ap (rows r bs 0) {y = x + 1 + (b - x)} (omega (arith, h.0))
    ∙ rows-parts r bs 0 (x + 1) (b - x)
    ∙ ap₂ (λ l m. l ++ m) (ap (λ a. rows r bs a (b - x)) (omega arith)) (own_row x middle)
    ∙ ap (λ l. upper ++ l) (append_assoc (map (λ v. x ∷ v) (above bs xs)) ((x ∷ xs) ∷ map (λ v. x ∷ v) (below bs xs)) lower)
    ∙ sym (append_assoc upper (map (λ v. x ∷ v) (above bs xs)) ((x ∷ xs) ∷ (map (λ v. x ∷ v) (below bs xs) ++ lower))) where
      own_row : {l : List (List ℕ)} (k : ℕ) → row (x + sum xs) bs k ≡ l → rows (x + sum xs) bs 0 (k + 1) ≡ l ++ rows (x + sum xs) bs 0 k
      own_row k is = ap (rows (x + sum xs) bs 0) {y = suc k} (omega arith) ∙ ap (λ e. row (x + sum xs) bs e ++ rows (x + sum xs) bs 0 k) (omega arith) ∙ ap (λ m. m ++ rows (x + sum xs) bs 0 k) is

-- where no vector has a wanted size in common, none of those has one
no_parts : {X : Type 0} (l m : List X) → l ++ m ≡ [] → (l ≡ []) × (m ≡ [])
no_parts [] m e = (refl, e)
no_parts (v ∷ l) m e = absurd (omega (arith, ap length e))

pub unwanted-to : (sb : ℕ) (front : List ℕ) (c left : ℕ) (bs x : List ℕ) → IsWithin x bs → left ≡ sum x → arcs_under sb front c x (reverse (bounded_sums left bs)) ≡ [] → arcs_under sb front c x (down_to bs x) ≡ []
unwanted-to sb front c left bs x h all none = grind (arith, no_parts, under-append, to-above, append_assoc, parted)

pub unwanted-from : (sb : ℕ) (front : List ℕ) (c left : ℕ) (bs x : List ℕ) → IsWithin x bs → left ≡ sum x → arcs_under sb front c x (reverse (bounded_sums left bs)) ≡ [] → arcs_under sb front c x (down_from bs x) ≡ []
unwanted-from sb front c left bs x h all none = grind (arith, no_parts, under-append, from-below, parted)

-- so those from x on, and those up to it, are these
module _ (bs x : List ℕ) (h : IsWithin x bs) where
  abbrev vectors : List (List ℕ)
  vectors = bounded_sums (sum x) bs

  whole : vectors ≡ reverse (below bs x) ++ x ∷ reverse (above bs x)
  whole =
      cc (reverse-reverse vectors, parted bs x h, reverse-append (above bs x) (x ∷ below bs x), reverse-first x (below bs x), append_assoc (reverse (below bs x)) (x ∷ []) (reverse (above bs x)))

  place : vertex_among vectors x ≡ length (reverse (below bs x))
  place =
      let k = length (reverse (below bs x)) in
      vertex_in_rising vectors k x (bounded_sums-rise (sum x) bs)
      (slice_get_read vectors (length vectors) k x refl (omega (arith, ap length whole, length-append (reverse (below bs x)) (x ∷ reverse (above bs x))))
      (sym (ap (λ vs. get_or vs k x) whole ∙ get_or-append_seam (reverse (below bs x)) x (reverse (above bs x)) x)))

  pub to-dropped : reverse (drop (vertex_among vectors x) vectors) ≡ down_to bs x
  to-dropped = grind (arith, whole, drop_at, reverse, below, above, vectors, place, reverse-first, reverse-reverse, to-above)

  pub from-taken : reverse (take (vertex_among vectors x + 1) vectors) ≡ down_from bs x
  from-taken =
      let front = reverse (below bs x) in
      ap (λ vs. reverse (take (vertex_among vectors x + 1) vs)) (whole ∙ sym (append_assoc front (x ∷ []) (reverse (above bs x))))
      ∙ ap reverse (take_at (front ++ x ∷ []) (reverse (above bs x)) (vertex_among vectors x + 1) (omega (arith, place, length-append front (x ∷ []))))
      ∙ reverse-append front (x ∷ [])
      ∙ ap (λ l. x ∷ l) (reverse-reverse (below bs x))
      ∙ sym (from-below bs x h)

  -- and the walk's arcs are these
  arcs_alike : (sb : ℕ) (vs : List (List ℕ)) → arcs_to sb x vs ≡ arcs_under sb [] 0 x vs
  arcs_alike sb vs = ap (λ t. map (λ v. record { tip = v; len = pos 1 }) (filter t vs)) (fun_ext (λ v. ap (is_wanted_size sb) (omega arith)))

  pub walk-descended : (directed : Bool) (sb : ℕ) → arcs_by_walk directed sb vectors x ≡ arcs_under sb [] 0 x (down_to bs x) ++ cond directed [] (arcs_under sb [] 0 x (down_from bs x))
  walk-descended directed sb = grind (arith, arcs_alike, reverse, vectors, to-dropped, append-nil, from-taken)

-- ---- steps of the descent

-- where there are no more entries, there is no bound more either
abbrev pub HasEnded : List ℕ → List ℕ → Type 0
HasEnded bs x = (length x ≡ 0) ⊎ (length bs ≡ 0)

pub both_ended : (bs x : List ℕ) → IsWithin x bs → HasEnded bs x → (bs ≡ []) × (x ≡ [])
both_ended [] [] h none = (refl, refl)
both_ended (b ∷ bs) (x ∷ xs) h (inl e) = absurd (omega arith)
both_ended bs x h none = grind (arith)

pub ended-zero : (bs x : List ℕ) → IsWithin x bs → HasEnded bs x → sum x ≡ 0
ended-zero bs x h none = ap sum (both_ended bs x h none).1

pub ended-part : (part : List ℕ → List ℕ → List (List ℕ)) → ((x : List ℕ) → part [] x ≡ [] ∷ []) → (sb : ℕ) (front : List ℕ) (c left : ℕ) (bs x : List ℕ) → IsWithin x bs → HasEnded bs x → left ≡ sum x
    → arcs_under sb front c x (reverse (bounded_sums left bs)) ≡ arcs_under sb front c x (part bs x)
unfolding bounded_sums box
ended-part part one sb front c left bs x h none all = grind (arith, both_ended)

-- and if something is left, no vector has it
pub ended-none : (sb : ℕ) (front : List ℕ) (c left : ℕ) (bs x : List ℕ) → IsWithin x bs → HasEnded bs x → 0 < left → arcs_under sb front c x (reverse (bounded_sums left bs)) ≡ []
ended-none sb front c left bs x h none some =
    let ended = both_ended bs x h none in
    ap₂ (λ v b. arcs_under sb front c v (reverse (bounded_sums left b))) ended.1 ended.0 ∙ ap (λ l. arcs_under sb front c [] (reverse l)) (sums-past left [] (omega (arith, some)))

-- all vectors by their rows
pub all-rows : (sb : ℕ) (front : List ℕ) (c left b h most : ℕ) (bs xs bounds x : List ℕ) → bounds ≡ b ∷ bs → x ≡ h ∷ xs → most ≡ min left b → arcs_under sb front c (h ∷ xs) (rows left bs 0 (most + 1 - 0)) ≡ arcs_under sb front c x (reverse (bounded_sums left bounds))
all-rows sb front c left b h most bs xs bounds x bounds_are x_is most_is =
    ap (λ n. arcs_under sb front c (h ∷ xs) (rows left bs 0 (n + 1 - 0))) most_is
    ∙ ap (arcs_under sb front c (h ∷ xs)) (sym (rows-end left bs 0 b (omega arith)) ∙ ap (rows left bs 0) (omega arith) ∙ sym (sums-rows left b bs))
    ∙ ap₂ (λ v cs. arcs_under sb front c v (reverse (bounded_sums left cs))) (sym x_is) (sym bounds_are)

-- a row by the vectors that go on
pub row-under : (sb : ℕ) (front : List ℕ) (c left h e : ℕ) (bs x : List ℕ) → e ≤ left → arcs_under sb (front ++ e ∷ []) (c + min h e) x (reverse (bounded_sums (left - e) bs)) ≡ arcs_under sb front c (h ∷ x) (row left bs e)
row-under sb front c left h e bs x within =
    sym (under-front sb front c h x e (reverse (bounded_sums (left - e) bs))) ∙ ap (arcs_under sb front c (h ∷ x)) (sym (row-within left e bs within))

-- some rows: the arcs by the greatest entry, and then the others
pub rows-under : (sb : ℕ) (front : List ℕ) (c : ℕ) (x : List ℕ) (left : ℕ) (bs : List ℕ) (low k : ℕ) → 0 < k
    → arcs_under sb front c x (rows left bs low k) ≡ arcs_under sb front c x (row left bs (low + (k - 1))) ++ arcs_under sb front c x (rows left bs low (k - 1))
rows-under sb front c x left bs low k some =
    ap (λ n. arcs_under sb front c x (rows left bs low n)) {x = k} {y = suc (k - 1)} (omega (arith, some)) ∙ under-append sb front c x (row left bs (low + (k - 1))) (rows left bs low (k - 1))

-- down to x: the rows above its first entry, and then on with that
pub to-more : (sb : ℕ) (front : List ℕ) (c left b h most : ℕ) (bs xs bounds x : List ℕ) → bounds ≡ b ∷ bs → x ≡ h ∷ xs → left ≡ sum x → most ≡ min left b
    → arcs_under sb front c x (down_to bounds x)
    ≡ arcs_under sb front c (h ∷ xs) (rows left bs (h + 1) (most + 1 - (h + 1))) ++ arcs_under sb (front ++ h ∷ []) (c + min h h) xs (down_to bs xs)
to-more sb front c left b h most bs xs bounds x bounds_are x_is adds most_is =
    let whole : left ≡ h + sum xs = adds ∙ ap sum x_is ∙ sum-cons h xs in
    ap₂ (λ cs v. arcs_under sb front c v (down_to cs v)) bounds_are x_is
    ∙ under-append sb front c (h ∷ xs) (rows (h + sum xs) bs (h + 1) (b - h)) (map (λ v. h ∷ v) (down_to bs xs))
    ∙ ap₂ (λ l m. l ++ m)
    (ap (λ n. arcs_under sb front c (h ∷ xs) (rows n bs (h + 1) (b - h))) (sym whole)
    ∙ ap (λ n. arcs_under sb front c (h ∷ xs) (rows left bs (h + 1) n)) {y = b + 1 - (h + 1)} (omega arith)
    ∙ ap (arcs_under sb front c (h ∷ xs)) (rows-end left bs (h + 1) b (omega arith) ∙ ap (λ n. rows left bs (h + 1) (n + 1 - (h + 1))) (sym most_is)))
    (under-front sb front c h xs h (down_to bs xs))

-- from x on: on with its first entry, and then the rows below that
pub from-more : (sb : ℕ) (front : List ℕ) (c left b h : ℕ) (bs xs bounds x : List ℕ) → bounds ≡ b ∷ bs → x ≡ h ∷ xs → left ≡ sum x
    → arcs_under sb front c x (down_from bounds x)
    ≡ arcs_under sb (front ++ h ∷ []) (c + min h h) xs (down_from bs xs) ++ arcs_under sb front c (h ∷ xs) (rows left bs 0 (h - 0))
from-more sb front c left b h bs xs bounds x bounds_are x_is adds =
    let whole : left ≡ h + sum xs = adds ∙ ap sum x_is ∙ sum-cons h xs in
    ap₂ (λ cs v. arcs_under sb front c v (down_from cs v)) bounds_are x_is
    ∙ under-append sb front c (h ∷ xs) (map (λ v. h ∷ v) (down_from bs xs)) (rows (h + sum xs) bs 0 h)
    ∙ ap₂ (λ l m. l ++ m)
    (under-front sb front c h xs h (down_from bs xs))
    (ap₂ (λ n k. arcs_under sb front c (h ∷ xs) (rows n bs 0 k)) (sym whole) (omega arith))

-- both lists of x as it is descended, of no first entries
pub walked : (b directed : Bool) (sb : ℕ) (front again : List ℕ) (c left : ℕ) (bs x : List ℕ) → IsWithin x bs → left ≡ sum x → c ≡ 0 → front ≡ [] → again ≡ [] → directed ≡ b
    → arcs_by_walk directed sb (bounded_sums left bs) x ≡ arcs_under sb front c x (down_to bs x) ++ cond b [] (arcs_under sb again c x (down_from bs x))
walked b directed sb front again c left bs x h adds none empty empty_again is =
    rw (is, adds, none, empty, empty_again) (walk-descended bs x h b sb)

-- at first nothing is placed
pub begun-all : (s : BoundedSum) (bounds x : List ℕ) (room shared total : ℕ) → Contains (bounded_sums s.total s.bounds) x → bounds ≡ s.bounds → room ≡ sum bounds → shared ≡ s.total → total ≡ s.total → total ≤ most_vertices → IsBegun bounds x room shared total 0
begun-all s bounds x room shared total member same adds own all small =
    let is = (Contains-bounded_sums s.total s.bounds x).0 member in
    record { within = subst (IsWithin x) (sym same) is.0; bounds_add = adds; own_add = own ∙ sym is.1; few = omega (arith, small) }
