-- Reading what is asked of the random generator.
use Rattle.std.specs.Prelude.{ℕ, List, [], codes, Result}
use Rattle.sgb_text.proofs.Readings.{read_after, read_as, whole_by}
use Rattle.sgb_expr.specs.inner.Readings.{integers_at}
use Rattle.sgb_expr.specs.declared.flips.FlipParams.{FlipParams}
use Rattle.sgb_expr.specs.FlipTexts.{flip_of}

-- reading the parameters, from the beginning of a text
abbrev pub flip_at : List ℕ → Result (FlipParams × List ℕ) ℕ
flip_at = read_after (codes "flip(") (read_as flip_of (integers_at [] 4 (codes ")")))

-- the parameters that the whole text asks for
abbrev pub whole_flip_at : List ℕ → Result FlipParams ℕ
whole_flip_at = whole_by flip_at
