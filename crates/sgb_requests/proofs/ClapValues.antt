-- Values of clap's and of std's: options, pairs and the matches of a command.
use Rattle.std.proofs.Common.{◌≡◌, Option, option_map, arith}
use Rattle.clap.specs.Words.{subcommand_name_of, subcommand_rows_of}
use Rattle.clap.specs.declared.parser.matches.ArgMatches.{ArgMatches}

-- a map of a map
maps : {X Y Z : Type 0} (f : X → Y) (g : Y → Z) (o : Option X) → option_map g (option_map f o) ≡ option_map (λ x. g (f x)) o
maps f g o = grind (arith)

-- the name of the command entered, by its rows
pub name_by_rows : (m : ArgMatches) → subcommand_name_of m ≡ option_map (λ p. p.0) (subcommand_rows_of m)
name_by_rows m = simp (maps)
