use Rattle.std.proofs.Common.{rules}
use Rattle.std.proofs.lemmas.Int.{to_z-of_z}
use Rattle.sgb_gen.proofs.BoardCountsBoards.{product-more, product-all, starts_read}
use Rattle.sgb_gen.proofs.accepted.boards.counts.starts_product.Goals as goal

pub loop-k-preserved : goal.loop-k-preserved
loop-k-preserved c = search (rules, starts_read, product-more)

pub returns : goal.returns
returns c = search (rules, product-all, to_z-of_z)
