-- Lines that are written one after another, with the checksum of those that count.
use Rattle.sgb_vec.proofs.Common.{arith, rules, ◌≡◌, ◌++◌, ℕ, true, false, List, [], ◌∷◌, Result, Ok, Err, refl, append_assoc, append-nil, flat_map-append, Appends-trans, Appends-nil, filter-append, fold-append, err_from_is_err_and, IsErrAnd}
use Rattle.sgb_file.specs.FileLines.{text_of_lines}
use Rattle.sgb_file.specs.Checksum.{has_star}
use Rattle.sgb_file.specs.inner.Layouts.{checksum_after, checksum_from, counted_bytes, Stage, HasLaid, IsStopped, IsLaid, LinesSoFar}
use Rattle.sgb_file.proofs.WrittenPrefixes.{prefix_more, prefix_after}

-- the checksum after two texts
pub checksum_from-append : (sum : ℕ) (xs ys : List ℕ) → checksum_from sum (xs ++ ys) ≡ checksum_from (checksum_from sum xs) ys
unfolding checksum_from
checksum_from-append sum xs ys = fold-append checksum_after sum xs ys

-- the bytes of lines that count, of lines after lines
pub counted-append : (xs ys : List (List ℕ)) → counted_bytes (xs ++ ys) ≡ counted_bytes xs ++ counted_bytes ys
unfolding counted_bytes
counted-append xs ys = simp (filter-append, flat_map-append)

-- a line that begins with a star leaves the checksum as it is; any other counts with its newline
pub checksum-starred : (sum : ℕ) (line : List ℕ) → has_star line ≡ true → checksum_from sum (counted_bytes (line ∷ [])) ≡ sum
unfolding counted_bytes checksum_from
checksum-starred sum line e = rw e refl

pub checksum-counted : (sum : ℕ) (line : List ℕ) → has_star line ≡ false
    → checksum_from (checksum_from sum line) (10 ∷ []) ≡ checksum_from sum (counted_bytes (line ∷ []))
unfolding counted_bytes
checksum-counted sum line e = grind (arith, checksum_from-append, append-nil)

-- no lines were written
pub laid-none : (a b : Stage) → b.written ≡ a.written → b.failed ≡ a.failed → b.layout.checksum ≡ a.layout.checksum → HasLaid [] a b
unfolding counted_bytes checksum_from
laid-none a b same sound sum = grind (arith, Appends-nil)

-- lines were written after lines
pub laid-append : (xs ys : List (List ℕ)) (a b c : Stage) → HasLaid xs a b → HasLaid ys b c → HasLaid (xs ++ ys) a c
laid-append xs ys a b c p q = search (rules, flat_map-append, Appends-trans, checksum_from-append, counted-append)

-- the writing stopped within the first lines
pub stopped-first : (all part rest : List (List ℕ)) (a b : Stage) → all ≡ part ++ rest → IsStopped part a b → IsStopped all a b
stopped-first all part rest a b e p =
    record { written = rw (e, flat_map-append) (prefix_more a.written b.written (text_of_lines part) (text_of_lines rest) p.written); failed = p.failed }

-- what stopped stands for the error that is passed on
pub stopped-on : {T E : Type 0} {lines : List (List ℕ)} {a b : Stage} (Q : E → Type 0) (line : List ℕ) (r : Result T E) → IsErrAnd r Q → IsStopped lines a b → IsLaid lines line a b r
stopped-on Q line r e p = rw (err_from_is_err_and r e).1 p

-- it stopped after the first lines
pub stopped-after : (all part rest : List (List ℕ)) (a b c : Stage) → all ≡ part ++ rest → HasLaid part a b → IsStopped rest b c → IsStopped all a c
stopped-after all part rest a b c e p q =
    record { written = rw (e, flat_map-append) (prefix_after a.written b.written c.written (text_of_lines part) (text_of_lines rest) p.written q.written); failed = q.failed }

-- what becomes of the rest after the first lines is what becomes of all
pub laid-after : {T E : Type 0} (all part rest : List (List ℕ)) (line : List ℕ) (a b c : Stage) (r : Result T E) → all ≡ part ++ rest
    → HasLaid part a b → IsLaid rest line b c r → IsLaid all line a c r
laid-after all part rest line a b c (Ok x) e p q = (rw e (laid-append part rest a b c p q.0), q.1)
laid-after all part rest line a b c (Err f) e p q = stopped-after all part rest a b c e p q

-- of all lines nothing was written
pub lines-none : (all : List (List ℕ)) (a : Stage) → LinesSoFar all all a a
lines-none all a = ([], refl, laid-none a a refl refl refl)

-- the next lines were written
pub lines-more : (all left part rest : List (List ℕ)) (a b c : Stage) → left ≡ part ++ rest → LinesSoFar all left a b → HasLaid part b c → LinesSoFar all rest a c
lines-more all left part rest a b c e p q = (p.0 ++ part, grind (arith, append_assoc), laid-append p.0 part a b c p.2 q)

-- of those that were left others are left now
pub lines-further : (all left rest : List (List ℕ)) (a b c : Stage) → LinesSoFar all left a b → LinesSoFar left rest b c → LinesSoFar all rest a c
lines-further all left rest a b c p q = lines-more all left q.0 rest a b c q.1 p q.2

-- the writing stopped within the next lines
pub lines-cut : (all left part rest : List (List ℕ)) (a b c : Stage) → left ≡ part ++ rest → LinesSoFar all left a b → IsStopped part b c → IsStopped all a c
lines-cut all left part rest a b c e p q = stopped-after all p.0 left a b c p.1 p.2 (stopped-first left part rest b c e q)

-- what becomes of the lines that are left becomes of all
pub lines-last : {T E : Type 0} (all left : List (List ℕ)) (line : List ℕ) (a b c : Stage) (r : Result T E) → LinesSoFar all left a b → IsLaid left line b c r → IsLaid all line a c r
lines-last all left line a b c r p q = laid-after all p.0 left line a b c r p.1 p.2 q
