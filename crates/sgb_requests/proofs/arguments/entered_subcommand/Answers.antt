use Rattle.std.proofs.Common.{◌∙◌, refl, true≢false, sym, codes}
use Rattle.sgb_requests.proofs.EnteredCommands.{enters, enters_some, has_expression, not_called}
use Rattle.sgb_requests.proofs.arguments.entered_subcommand.Goals as goal

pub arguments_of-requires : goal.arguments_of-requires
arguments_of-requires c =
    has_expression _ _ (codes "names") _ refl c.in_ok-matches.ensures (c.in-Some.ensures.found.0 refl) c.in-Some.ensures.rows

pub arguments_of-requires-in-Some-subcommand_matches : goal.arguments_of-requires-in-Some-subcommand_matches
arguments_of-requires-in-Some-subcommand_matches c =
    let list = c.in-Some-subcommand_matches.ensures in
    has_expression _ _ (codes "list") _ refl c.in_ok-matches.ensures (list.found.0 refl) list.rows

pub returns-in-Some : goal.returns-in-Some
returns-in-Some c =
    (_, enters _ _ _ _ c.in_ok-matches.ensures (c.in-Some.ensures.found.0 refl) c.in-Some.ensures.rows, c.arguments_of.ensures)

pub returns-in-Some-subcommand_matches : goal.returns-in-Some-subcommand_matches
returns-in-Some-subcommand_matches c =
    let list = c.in-Some-subcommand_matches.ensures in
    (_, enters _ _ _ _ c.in_ok-matches.ensures (list.found.0 refl) list.rows, c.arguments_of-in-Some-subcommand_matches.ensures)

pub expression_in-requires : goal.expression_in-requires
expression_in-requires c =
    let save = c.in-Some-subcommand_matches-2.ensures in
    has_expression _ _ (codes "save") _ refl c.in_ok-matches.ensures (save.found.0 refl) save.rows

pub returns-in-Some-subcommand_matches-2 : goal.returns-in-Some-subcommand_matches-2
returns-in-Some-subcommand_matches-2 c =
    let save = c.in-Some-subcommand_matches-2.ensures in
    (_, (enters _ _ _ _ c.in_ok-matches.ensures (save.found.0 refl) save.rows, c.expression_in.ensures))

pub returns-then-is_some : goal.returns-then-is_some
returns-then-is_some c =
    enters_some _ _ _ c.in_ok-matches.ensures (c.subcommand_matches-4.ensures.found.0 (sym c.is_some.ensures ∙ c.if-is_some.true))

pub expression_in-requires-in-Some-subcommand_matches-3 : goal.expression_in-requires-in-Some-subcommand_matches-3
expression_in-requires-in-Some-subcommand_matches-3 c =
    let flip = c.in-Some-subcommand_matches-3.ensures in
    has_expression _ _ (codes "flip") _ refl c.in_ok-matches.ensures (flip.found.0 refl) flip.rows

pub returns-in-Some-subcommand_matches-3 : goal.returns-in-Some-subcommand_matches-3
returns-in-Some-subcommand_matches-3 c =
    let flip = c.in-Some-subcommand_matches-3.ensures in
    (_, (enters _ _ _ _ c.in_ok-matches.ensures (flip.found.0 refl) flip.rows, c.expression_in-in-Some-subcommand_matches-3.ensures))

pub returns : goal.returns
returns c =
    let no_names = c.in_default.ensures.found.1 in
    let no_list = c.in_default-subcommand_matches.ensures.found.1 in
    let no_save = c.in_default-subcommand_matches-2.ensures.found.1 in
    let no_queen = c.subcommand_matches-4.ensures.found.1 in
    let no_flip = c.in_default-subcommand_matches-3.ensures.found.1 in
    not_called _ _ c.in_ok-matches.ensures (λ e. true≢false (sym (no_names e))) (λ e. true≢false (sym (no_list e)))
    (λ e. true≢false (sym (no_save e)))
    (λ e. true≢false (sym (no_queen e) ∙ sym c.is_some.ensures ∙ c.if-is_some.false))
    (λ e. true≢false (sym (no_flip e)))
