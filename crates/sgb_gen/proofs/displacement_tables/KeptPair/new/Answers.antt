use Rattle.std.proofs.Common.{length, ap, sym, ◌∙◌}
use Rattle.sgb_moves.specs.MovedCoordinates.{parts_of}
use Rattle.sgb_moves.proofs.MovedCoordinates.{length_parts_opposite}
use Rattle.sgb_gen.proofs.displacement_tables.KeptPair.new.Goals as goal

pub kept_both-requires-2 : goal.kept_both-requires-2
kept_both-requires-2 c =
    ap length (c.as_slice-4.ensures.value ∙ c.put_parts_of-2.ensures)
    ∙ ap (λ t. length (parts_of t)) (c.as_slice.ensures.value ∙ c.put_opposite.ensures)
    ∙ length_parts_opposite c.args.t.now
    ∙ sym (ap length (c.as_slice-3.ensures.value ∙ c.put_parts_of.ensures))
