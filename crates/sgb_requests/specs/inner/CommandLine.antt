-- What the steps of reading a command line give.
use Rattle.std.specs.Prelude.{◌≡◌, ◌≢◌, ◌⊎◌, List, [], ◌∷◌, Option, Some, None, codes, option_map}
use Rattle.std.specs.Borrow.{Bor}
use Rattle.clap.specs.Words.{App, Row, Shape, Text, fault_of, first_of, new_app, subcommand_of, subcommand_rows_of, with_subcommand}
use Rattle.clap.specs.declared.parser.matches.ArgMatches.{ArgMatches}
use Rattle.sgb_vec.specs.declared.panics.Panic.TheVariants.{NoRoom}
use Rattle.sgb_requests.specs.declared.arguments.Subcommand.{Subcommand}
use Rattle.sgb_requests.specs.declared.arguments.Subcommand.TheVariants as subcommand
use Rattle.sgb_requests.specs.declared.arguments.Arguments.{Arguments}
use Rattle.sgb_requests.specs.declared.faults.Fault.{Fault}
use Rattle.sgb_requests.specs.declared.faults.Fault.TheVariants as fault
use Rattle.sgb_requests.specs.CommandLine.{Asks, Enters, command_line, command_shape}

-- the command of this name, with `EXPR [--after NAME|--skip K]`
abbrev pub output_shape : Text → Shape
output_shape name = command_shape name (codes "after" ∷ codes "skip" ∷ [])

-- the command of this name, with `EXPR` alone
abbrev pub alone_shape : Text → Shape
alone_shape name = command_shape name []

-- `sgb` with the commands that begin where the options say
abbrev pub output_command_line : App
output_command_line = with_subcommand (with_subcommand (new_app (codes "sgb")) (output_shape (codes "names"))) (output_shape (codes "list"))

-- clap takes the words, and these are its matches
pub record IsTaken (words : List Text) (matches : ArgMatches) : Type 0 where
  pub taken : fault_of command_line words ≡ []
  pub entered : subcommand_rows_of matches ≡ subcommand_of command_line words

-- the bytes of a value, if there is one
abbrev pub bytes_of : Option (Bor Text) → Option Text
bytes_of = option_map (λ text. text.now)

-- a command's matches give these values
abbrev pub Gives : List Row → Arguments → Type 0
Gives rows values =
    (first_of (codes "EXPR") rows ≡ Some values.expression.now)
    × (first_of (codes "after") rows ≡ bytes_of values.after)
    × (first_of (codes "skip") rows ≡ bytes_of values.skip)

-- the words are those of this command with these values
abbrev pub AsksBy : List Text → Text → Arguments → Type 0
AsksBy words command values = (rows : List Row) × Enters words command rows × Gives rows values

-- the words enter this command with these values
abbrev pub EntersSubcommand : List Text → Subcommand → Type 0
EntersSubcommand words (subcommand.Names values) = AsksBy words (codes "names") values
EntersSubcommand words (subcommand.List values) = AsksBy words (codes "list") values
EntersSubcommand words (subcommand.Save text) = (rows : List Row) × Asks words (codes "save") rows text.now
EntersSubcommand words subcommand.Queen = (rows : List Row) × Enters words (codes "queen") rows
EntersSubcommand words (subcommand.Flip text) = (rows : List Row) × Asks words (codes "flip") rows text.now

-- clap refuses the words, or there is no command
abbrev pub HasNoCommand : List Text → Type 0
HasNoCommand words = (fault_of command_line words ≢ []) ⊎ (subcommand_of command_line words ≡ None)

-- the words are refused with this fault before their values are looked at
abbrev pub IsRefusedAtOnce : List Text → Fault → Type 0
IsRefusedAtOnce words fault.Usage = HasNoCommand words
IsRefusedAtOnce words (fault.Panic p) = p ≡ NoRoom
IsRefusedAtOnce words _ = ⊥

-- a command with the values of its argument and its options, as the words give them
pub record Asked : Type 0 where
  pub command : Text
  pub expression : Option Text
  pub after : Option Text
  pub skip : Option Text

-- what is asked of a command, by its name and its matches
abbrev pub asked_by : Text × List Row → Asked
asked_by entered = record {
  command = entered.0;
  expression = first_of (codes "EXPR") entered.1;
  after = first_of (codes "after") entered.1;
  skip = first_of (codes "skip") entered.1;
}

-- what the words ask for, where clap takes them
abbrev pub asked_of : List Text → Option Asked
asked_of words = option_map asked_by (subcommand_of command_line words)
