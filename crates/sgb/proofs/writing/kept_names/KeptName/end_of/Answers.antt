use Rattle.std.proofs.Common.{rules, ◌∙◌, [], length, take, sym, ap, slice_index_or}
use Rattle.sgb_vec.specs.Names.{name_of_vector}
use Rattle.sgb.proofs.KeptNames.{front-short, kept-end, name-within}
use Rattle.sgb.proofs.NameEntries.{name-entries}
use Rattle.sgb.proofs.writing.kept_names.KeptName.end_of.Goals as goal

pub returns-then-count-eq0-clause-value : goal.returns-then-count-eq0-clause-value
returns-then-count-eq0-clause-value c =
    ap length (sym (name-entries [])) ∙ ap (λ k. length (name_of_vector (take k c.args.self.now))) (sym c.if-count-eq0.true)

pub returns : goal.returns
returns c = search (rules, slice_index_or, kept-end, front-short, name-within, name_of_vector)
