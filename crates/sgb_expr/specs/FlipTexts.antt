-- The texts that ask for numbers of the random generator [GB_FLIP]: flip(START,SKIP,COUNT,M).
use Rattle.std.specs.Prelude.{ℕ, ℤ, List, [], codes, Result}
use Rattle.sgb_expr.specs.Expressions.{IsTextRead}
use Rattle.sgb_expr.specs.Forms.{AreArguments, nth_number}
use Rattle.sgb_text.specs.Languages.{After, As}
use Rattle.sgb_expr.specs.declared.expressions.Unread.{Unread}
use Rattle.sgb_expr.specs.declared.flips.FlipParams.{FlipParams}

-- the parameters of a flip, of four integers: start, skip, count and m, in this order
abbrev pub flip_of : List ℤ → FlipParams
flip_of numbers = let nth = nth_number numbers in
    record { start = nth 0; skip = nth 1; count = nth 2; m = nth 3 }

-- the text is `flip(`, four integers and a `)`, and asks for the numbers of these parameters
abbrev pub IsFlip : List ℕ → FlipParams → Type 0
IsFlip = After (codes "flip(") (As flip_of (AreArguments [] 4))

-- the text is read as these parameters, or not read for this cause, which is never want of memory
abbrev pub IsFlipRead : List ℕ → Result FlipParams Unread → Type 0
IsFlipRead = IsTextRead IsFlip ⊥ (λ params. params)
