use Rattle.std.proofs.Common.{◌≡◌, ◌≤◌, length, drop, map, Err}
use Rattle.sgb_expr.specs.Names.{name_opening}
use Rattle.sgb_expr.specs.inner.Names.{all_names, openings}
use Rattle.sgb_text.proofs.Readings.{either, word_at}
use Rattle.sgb_expr.proofs.names.opening.Given as goal

abbrev pub invariant-loop-name : goal.invariant-loop-name
invariant-loop-name l =
    (l.left ≤ length l.text)
    × (either (Err l.left) (word_at (map (λ name. (name_opening name, name)) (drop l.name-index all_names)) l.text) ≡ word_at openings l.text)
