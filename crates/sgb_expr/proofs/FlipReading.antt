-- A reader of what is asked of the random generator.
use Rattle.std.proofs.Common.{[], codes}
use Rattle.sgb_expr.specs.FlipTexts.{IsFlip, flip_of}
use Rattle.sgb_expr.specs.inner.FlipTexts.{flip_at}
use Rattle.sgb_expr.proofs.GeneratorReaders.{close_end, reads_integers}
use Rattle.sgb_text.proofs.Readers.{Anything, Reads, reads_as}
use Rattle.sgb_text.proofs.Words.{reads_after}

pub reads_flip : Reads IsFlip Anything flip_at
reads_flip = reads_after (codes "flip(") (reads_as flip_of (reads_integers [] 4 (codes ")") close_end))
