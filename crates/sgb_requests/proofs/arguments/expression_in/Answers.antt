use Rattle.std.proofs.Common.{◌∙◌, Bor, sym, ap, option_map, codes}
use Rattle.clap.proofs.CallerLemmas.{some_of_text}
use Rattle.clap.proofs.WalkLemmas.{first_value-rows}
use Rattle.clap.specs.Words.{Text, found_of}
use Rattle.sgb_requests.proofs.arguments.expression_in.Goals as goal

pub unwrap-requires : goal.unwrap-requires
unwrap-requires c =
    some_of_text (λ (s : Bor Text). s.now) _ _ (c.get_str.ensures ∙ first_value-rows (found_of c.args.entered.now) (codes "EXPR")) c.requires

pub returns : goal.returns
returns c =
    sym (first_value-rows (found_of c.args.entered.now) (codes "EXPR")) ∙ sym c.get_str.ensures ∙ ap (option_map (λ (s : Bor Text). s.now)) c.unwrap.ensures
