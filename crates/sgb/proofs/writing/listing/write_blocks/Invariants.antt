use Rattle.std.proofs.Common.{◌≡◌, false}
use Rattle.sgb.specs.Texts.{blocks}
use Rattle.sgb.proofs.Pages.{PagedSoFar}
use Rattle.sgb.proofs.writing.listing.write_blocks.Given as goal

-- the blocks from this vertex on are left
abbrev pub invariant-loop-v : goal.invariant-loop-v
invariant-loop-v g l =
    PagedSoFar (blocks l.graph l.from) (blocks l.graph l.v) l.initial.page l.page (g.W.Sink.written l.initial.out) (g.W.Sink.written l.out)
    × (g.W.Sink.has_failed l.out ≡ false)
