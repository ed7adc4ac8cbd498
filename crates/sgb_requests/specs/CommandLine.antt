-- The command line by clap's meaning of it, and what its words ask for.
use Rattle.std.specs.Prelude.{◌≡◌, true, List, [], ◌∷◌, map, fold, Some, codes}
use Rattle.clap.specs.Simple.{new_shape}
use Rattle.clap.specs.Words.{App, Row, Rule, Shape, Text, fault_of, first_of, new_app, new_rule, subcommand_of, with_subcommand}
use Rattle.clap.specs.declared.builder.action.ArgAction.TheVariants.{Set}

-- `EXPR`, which is required
abbrev pub expression_rule : Rule
expression_rule = record (new_rule (codes "EXPR")) { action = Some Set; required = true }

-- an option `--NAME` that takes a value
abbrev pub option_rule : Text → Rule
option_rule name = record (new_rule name) { long = Some name; action = Some Set }

-- the command of this name, with `EXPR` and these options; that not both `--after` and `--skip` stand is no rule of clap's here
abbrev pub command_shape : Text → List Text → Shape
command_shape name options = record (new_shape name) { rules = expression_rule ∷ map option_rule options }

-- `sgb` and its commands
abbrev pub command_line : App
command_line = fold with_subcommand (new_app (codes "sgb"))
    (command_shape (codes "names") (codes "after" ∷ codes "skip" ∷ []) ∷ command_shape (codes "list") (codes "after" ∷ codes "skip" ∷ [])
    ∷ command_shape (codes "save") [] ∷ new_shape (codes "queen") ∷ command_shape (codes "flip") [] ∷ [])

-- clap takes the words, which enter the command of this name, and these are its matches
pub record Enters (words : List Text) (command : Text) (rows : List Row) : Type 0 where
  pub taken : fault_of command_line words ≡ []
  pub entered : subcommand_of command_line words ≡ Some (command, rows)

-- clap takes the words, which enter this command with these matches, and its EXPR is this text
abbrev pub Asks : List Text → Text → List Row → Text → Type 0
Asks words command rows text = Enters words command rows × (first_of (codes "EXPR") rows ≡ Some text)
