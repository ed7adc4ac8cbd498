-- The plain forms of words, and what each is read as. Who uses these forms needs nothing of what clap takes: the law
-- `plain_words_law` says that the words are read so, and not otherwise.
use Rattle.std.specs.Prelude.{◌≡◌, ◌≢◌, ◌⊎◌, ℕ, List, [], ◌∷◌, Result, Ok, Err, codes, slice_index}
use Rattle.sgb_text.specs.Numbers.{IsNumber}
use Rattle.sgb_expr.specs.Numbers.{most_digits}
use Rattle.sgb_requests.specs.Reading.{IsFlipReadAs, IsReadAs}
use Rattle.sgb_vec.specs.declared.panics.Panic.TheVariants.{NoRoom}
use Rattle.sgb_expr.specs.declared.expressions.Expr.{Expr}
use Rattle.sgb_expr.specs.declared.flips.FlipParams.{FlipParams}
use Rattle.sgb_requests.specs.declared.faults.Fault.{Fault}
use Rattle.sgb_requests.specs.declared.faults.Fault.TheVariants as fault
use Rattle.sgb_requests.specs.declared.requests.Request.{Request}
use Rattle.sgb_requests.specs.declared.requests.Request.TheVariants as request
use Rattle.sgb_requests.specs.declared.requests.Resume.{Resume}
use Rattle.sgb_requests.specs.declared.requests.Resume.TheVariants.{Whole, Skip, After}

-- the word does not begin with `-` (45)
abbrev pub IsPlain : List ℕ → Type 0
IsPlain word = slice_index word 0 ≢ 45

-- the words after the expression say that the answer begins here: none, `--after NAME`, or `--skip K`
abbrev pub AreOptions : List (List ℕ) → Resume → Type 0
AreOptions words Whole = words ≡ []
AreOptions words (After name) = IsPlain name × (words ≡ codes "--after" ∷ name ∷ [])
AreOptions words (Skip k) = (count : List ℕ) × IsNumber 10 most_digits count k × (words ≡ codes "--skip" ∷ count ∷ [])

-- what the words are read as, where one of them is the text of an expression: the request that is made of that expression,
-- or the refusal of the text; out of memory words are refused before it is read
abbrev pub IsReadBy : (Expr → Request) → List ℕ → Result Request Fault → Type 0
IsReadBy make text (Ok r) = (e : Expr) × IsReadAs text (Ok e) × (r ≡ make e)
IsReadBy make text (Err f) = IsReadAs text (Err f) ⊎ (f ≡ fault.Panic NoRoom)

-- what the words are read as, where one is the text of a flip: its request or refusal; out of memory none of it is read
abbrev pub IsFlipReadBy : List ℕ → Result Request Fault → Type 0
IsFlipReadBy text (Ok r) = (p : FlipParams) × IsFlipReadAs text (Ok p) × (r ≡ request.Flip p)
IsFlipReadBy text (Err f) = IsFlipReadAs text (Err f) ⊎ (f ≡ fault.Panic NoRoom)

-- what the word `queen` is read as: its request; out of memory the words are refused, and for nothing else
abbrev pub IsQueenRead : Result Request Fault → Type 0
IsQueenRead (Ok r) = r ≡ request.Queen
IsQueenRead (Err f) = f ≡ fault.Panic NoRoom
