use Rattle.std.proofs.Common.{◌+◌, ◌-◌, ◌∷◌, refl, sym, ap, ◌∙◌, arith}
use Rattle.sgb_gen.proofs.DescentSteps.{others-add, rows-kept, wanted-among}
use Rattle.sgb_gen.proofs.accepted.subsets.sizes.wanted_entries.Goals as goal

pub returns-clause-same : goal.returns-clause-same
returns-clause-same c front bounds x begun =
    let b = c.args.begun in
    let entries = c.with_room-entries in
    rows-kept b.size_bits b.left b.common c.args.own front bounds x b.room c.args.bound (c.min-end.result + 1) entries.result.least entries.result.count
    (others-add (c.args.bound ∷ bounds) (c.args.own ∷ x) b.room b.shared b.left b.common c.args.bound bounds refl begun)
    (omega arith) (λ bs adds. entries.ensures.same bs (adds ∙ ap (λ n. b.room - n) (sym c.from.ensures)))
    ∙ wanted-among b.size_bits b.left b.common c.args.own front bounds x entries.result.least entries.result.count c.least_wanted-least.result c.end_of_wanted-end.result
    c.least_wanted-least.ensures.from c.least_wanted-least.ensures.end (λ e first last. c.least_wanted-least.ensures.none e first last front bounds x begun)
    c.end_of_wanted-end.ensures.from c.end_of_wanted-end.ensures.end (λ e first last. c.end_of_wanted-end.ensures.none e first last front bounds x begun)
