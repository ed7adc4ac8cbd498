-- Words that clap takes do not enter its own command `help`.
use Rattle.std.proofs.Common.{◌≡◌, ◌≢◌, ◌∷◌, false, List, [], Option, Some, None, fold, codes, arith}
use Rattle.clap.specs.Faults.{turn_fault, walk_fault}
use Rattle.clap.specs.Simple.{Shape}
use Rattle.clap.specs.Walk.{Names, Text, Walk, walked}
use Rattle.sgb_requests.proofs.ClapRequired.{none_first, none_second}

-- the walk has not entered `help`
abbrev pub IsNotHelp : Option (Text × List Text) → Type 0
IsNotHelp None = Unit {0}
IsNotHelp (Some stop) = stop.0 ≢ codes "help"

module _ (s : Shape) (names : Names) (enabled : s.disable_help_subcommand ≡ false) where
  -- where it stands after a word
  turn_stops : (w : Walk) (word : Text) → turn_fault s names w word ≡ [] → IsNotHelp w.stopped → IsNotHelp (walked s.rules names w word).stopped
  unfolding walked
  turn_stops w word e no_help = grind arith

  -- a walk that has no fault does not enter `help`
  pub walk_stops : (w : Walk) (words : List Text) → walk_fault s names w words ≡ [] → IsNotHelp w.stopped → IsNotHelp (fold (walked s.rules names) w words).stopped
  unfolding walk_fault
  walk_stops w [] e h = h
  walk_stops w (word ∷ rest) e h = walk_stops (walked s.rules names w word) rest (none_second _ _ e) (turn_stops w word (none_first _ _ e) h)
