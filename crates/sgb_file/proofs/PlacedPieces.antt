-- Bytes that are put on lines, and pieces that are laid out, one after another.
use Rattle.std.proofs.Common.{rules, ◌≡◌, ◌≤◌, ◌++◌, ◌∙◌, ℕ, Bool, true, false, List, [], ◌∷◌, Result, Ok, Err, length, take, drop, ◌+◌, refl, sym, ap, append_assoc, append-nil, arith, length-append, take-append-drop}
use Rattle.sgb_file.specs.inner.SavedLines.{broken_lines, last_part, fits_on, lines_ended, line_begun}
use Rattle.sgb_file.specs.inner.Layouts.{Stage, HasLaid, IsStopped, IsFilled, IsPlaced, lines_before}
use Rattle.sgb_file.proofs.BrokenLines.{broken-short, last-short, broken-once, last-once, broken-append, last-append}
use Rattle.sgb_file.proofs.LaidLines.{laid-none, laid-append, laid-after, stopped-first, stopped-after}

-- two stages that differ in the line alone
pub record AreAlike (a b : Stage) : Type 0 where
  pub written : b.written ≡ a.written
  pub failed : b.failed ≡ a.failed
  pub checksum : b.layout.checksum ≡ a.layout.checksum

-- lines that were written between stages alike
pub laid-alike : (lines : List (List ℕ)) (a b c d : Stage) → AreAlike a b → HasLaid lines b c → AreAlike c d → HasLaid lines a d
laid-alike lines a b c d p q r = grind (arith, laid-append, laid-none, append-nil)

pub stopped-alike : (lines : List (List ℕ)) (a b c : Stage) → AreAlike a b → IsStopped lines b c → IsStopped lines a c
stopped-alike lines a b c p q = search (rules, stopped-after, laid-none)

-- bytes that fit on the line
pub filled-short : (bytes : List ℕ) (a b : Stage) → length (a.layout.line ++ bytes) ≤ 79 → AreAlike a b → b.layout.line ≡ a.layout.line ++ bytes
    → HasLaid (broken_lines (a.layout.line ++ bytes)) a b × (b.layout.line ≡ last_part (a.layout.line ++ bytes))
filled-short bytes a b short alike line = search (rules, broken-short, laid-none, last-short)

-- a byte that breaks the line: the writing stopped, or the next line was begun
pub stopped-once : (byte : ℕ) (a b c : Stage) → length a.layout.line ≡ 79 → b.layout.line ≡ take 78 a.layout.line ++ 92 ∷ [] → AreAlike a b
    → IsStopped (b.layout.line ∷ []) b c → IsStopped (broken_lines (a.layout.line ++ byte ∷ [])) a c
stopped-once byte a b c full line alike p = rw (broken-once a.layout.line byte full, ← line) (stopped-alike (b.layout.line ∷ []) a b c alike p)

pub filled-once : (byte : ℕ) (a b c d : Stage) → length a.layout.line ≡ 79 → b.layout.line ≡ take 78 a.layout.line ++ 92 ∷ [] → AreAlike a b
    → HasLaid (b.layout.line ∷ []) b c → AreAlike c d → d.layout.line ≡ drop 78 a.layout.line ++ byte ∷ []
    → HasLaid (broken_lines (a.layout.line ++ byte ∷ [])) a d × (d.layout.line ≡ last_part (a.layout.line ++ byte ∷ []))
filled-once byte a b c d full line alike p same rest = search (rules, broken-once, laid-alike, last-once)

-- more bytes after the first ones
filled-parts : (line xs ys : List ℕ) → broken_lines (line ++ (xs ++ ys)) ≡ broken_lines (line ++ xs) ++ broken_lines (last_part (line ++ xs) ++ ys)
filled-parts line xs ys = ap broken_lines (sym (append_assoc line xs ys)) ∙ broken-append (line ++ xs) ys

pub filled-cut : (xs ys : List ℕ) (a b : Stage) → IsStopped (broken_lines (a.layout.line ++ xs)) a b → IsStopped (broken_lines (a.layout.line ++ (xs ++ ys))) a b
filled-cut xs ys a b p = stopped-first _ _ _ a b (filled-parts a.layout.line xs ys) p

pub filled-then : {T E : Type 0} (xs ys : List ℕ) (a b c : Stage) (r : Result T E)
    → HasLaid (broken_lines (a.layout.line ++ xs)) a b × (b.layout.line ≡ last_part (a.layout.line ++ xs)) → IsFilled ys b c r → IsFilled (xs ++ ys) a c r
filled-then xs ys a b c r p q = grind (arith, append_assoc, last-append, laid-after, filled-parts)

-- these bytes were put on lines
abbrev pub HasFilled : List ℕ → Stage → Stage → Type 0
HasFilled bytes a b = HasLaid (broken_lines (a.layout.line ++ bytes)) a b × (b.layout.line ≡ last_part (a.layout.line ++ bytes))

pub filled-more : (xs ys : List ℕ) (a b c : Stage) → HasFilled xs a b → HasFilled ys b c → HasFilled (xs ++ ys) a c
filled-more xs ys a b c p q = filled-then {T = Bool} {E = Bool} xs ys a b c (Ok true) p q

pub filled-stopped : (xs ys : List ℕ) (a b c : Stage) → HasFilled xs a b → IsStopped (broken_lines (b.layout.line ++ ys)) b c → IsStopped (broken_lines (a.layout.line ++ (xs ++ ys))) a c
filled-stopped xs ys a b c p q = filled-then {T = Bool} {E = Bool} xs ys a b c (Err true) p q

-- of these bytes, the ones before the rest were put on lines
abbrev pub FilledSoFar : List ℕ → List ℕ → Stage → Stage → Type 0
FilledSoFar bytes rest a b = (done : List ℕ) × (bytes ≡ done ++ rest) × HasFilled done a b

-- the next k bytes were put on lines, or the writing stopped there
more_apart : (done rest bytes : List ℕ) (k : ℕ) → bytes ≡ done ++ rest → bytes ≡ (done ++ take k rest) ++ drop k rest
more_apart done rest bytes k e = grind (arith, append_assoc, take-append-drop)

pub filling-more : (bytes rest next others : List ℕ) (k : ℕ) (a b c : Stage) → next ≡ take k rest → others ≡ drop k rest → FilledSoFar bytes rest a b → HasFilled next b c
    → FilledSoFar bytes others a c
filling-more bytes rest next others k a b c n o p q = (p.0 ++ next, grind (arith, more_apart), filled-more p.0 next a b c p.2 q)

pub filling-cut : (bytes rest next : List ℕ) (k : ℕ) (a b c : Stage) → next ≡ take k rest → FilledSoFar bytes rest a b → IsStopped (broken_lines (b.layout.line ++ next)) b c
    → IsStopped (broken_lines (a.layout.line ++ bytes)) a c
filling-cut bytes rest next k a b c n p q =
    rw (more_apart p.0 rest bytes k p.1, ← n) (filled-cut (p.0 ++ next) (drop k rest) a c (filled-stopped p.0 next a b c p.2 q))

-- the rest fits on the line
pub filling-last : (bytes rest : List ℕ) (a b c : Stage) → FilledSoFar bytes rest a b → length b.layout.line + length rest ≤ 79 → AreAlike b c → c.layout.line ≡ b.layout.line ++ rest
    → HasFilled bytes a c
filling-last bytes rest a b c p room alike line = rw p.1 (filled-more p.0 rest a b c p.2 (filled-short rest b c (grind (arith, length-append)) alike line))

-- no bytes
pub filling-none : (bytes : List ℕ) (a : Stage) → length a.layout.line ≤ 79 → FilledSoFar bytes bytes a a
filling-none bytes a short = ([], refl, grind (arith, append-nil, filled-short [] a a))

-- a piece that fits on the line
pub placed-here : (piece : List ℕ) (a b : Stage) → fits_on a.layout.line piece ≡ true → AreAlike a b → b.layout.line ≡ a.layout.line ++ piece
    → HasLaid (lines_ended a.layout.line piece) a b × (b.layout.line ≡ line_begun a.layout.line piece)
placed-here piece a b fits alike line = rw fits (laid-none a b alike.written alike.failed alike.checksum, line)

-- one that does not: what is written before it, and what its bytes fill
pub placed-cut : (piece : List ℕ) (a b : Stage) → fits_on a.layout.line piece ≡ false → IsStopped (lines_before a.layout.line) a b → IsStopped (lines_ended a.layout.line piece) a b
placed-cut piece a b e p = rw e (stopped-first _ (lines_before a.layout.line) (broken_lines piece) a b refl p)

pub placed-then : {T E : Type 0} (piece : List ℕ) (a b c : Stage) (r : Result T E) → fits_on a.layout.line piece ≡ false
    → HasLaid (lines_before a.layout.line) a b × (b.layout.line ≡ []) → IsFilled piece b c r → IsPlaced piece a c r
placed-then piece a b c r e p q = grind (arith, laid-after)
