use Rattle.std.proofs.Common.{◌≡◌, drop, flat_map}
use Rattle.sgb_file.proofs.SoFar.{SoFar}
use Rattle.sgb_file.proofs.saving.put_texts.Given as goal

-- the texts from here on are left
abbrev pub invariant-loop-text : goal.invariant-loop-text
invariant-loop-text g l =
    SoFar (flat_map (λ text. text.now) l.texts) (flat_map (λ text. text.now) (drop l.text-index l.texts)) (g.W.Sink.written l.initial.sink) (g.W.Sink.written l.sink)
    × (g.W.Sink.has_failed l.sink ≡ g.W.Sink.has_failed l.initial.sink)
