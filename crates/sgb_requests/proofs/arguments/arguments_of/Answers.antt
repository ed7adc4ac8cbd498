use Rattle.std.proofs.Common.{◌∙◌, sym, codes}
use Rattle.clap.proofs.WalkLemmas.{first_value-rows}
use Rattle.clap.specs.Words.{found_of}
use Rattle.sgb_requests.proofs.arguments.arguments_of.Goals as goal

pub returns : goal.returns
returns c =
    let found = found_of c.args.entered.now in (
      c.expression_in.ensures,
      sym (first_value-rows found (codes "after")) ∙ sym c.get_str.ensures,
      sym (first_value-rows found (codes "skip")) ∙ sym c.get_str-2.ensures,
    )
