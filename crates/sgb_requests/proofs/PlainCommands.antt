-- The commands that plain words enter, and what they ask of them.
use Rattle.std.proofs.Common.{◌≡◌, ◌∙◌, false, List, [], ◌∷◌, Option, Some, None, refl, ap, codes, fold, arith}
use Rattle.clap.specs.Faults.{defaults_fault, level_fault, step_fault, turn_fault, walk_fault}
use Rattle.clap.specs.Kinds.{Kinds, or_else}
use Rattle.clap.specs.Simple.{Shape, rows_at}
use Rattle.clap.specs.Walk.{Row, Text, Walk, finished, first_of, nothing_held, plain_word, subcommand_met, walk_from, walked}
use Rattle.clap.specs.Words.{fault_of, subcommand_of}
use Rattle.sgb_requests.specs.CommandLine.{Asks, command_line}
use Rattle.sgb_requests.specs.Requests.{IsResumeOf}
use Rattle.sgb_requests.specs.declared.requests.Resume.{Resume}
use Rattle.sgb_requests.specs.inner.CommandLine.{Asked, asked_by}
use Rattle.sgb_requests.proofs.Beginnings.{begins_by}
use Rattle.sgb_requests.specs.PlainWords.{IsPlain}
use Rattle.sgb_requests.proofs.EnteredCommands.{alone_leaf, built_line, output_leaf, queen_leaf}
use Rattle.sgb_requests.proofs.PlainWalks.{EntersShape, ends_fault, level_passes, passed, shape_entered, shape_passes, turn_passes, walk_passes}

-- ---- a command of an expression alone

module _ (name text : Text) (plain : IsPlain text) where
  -- the walk over its one word
  alone_walk : fold (walked (alone_leaf name).rules []) (walk_from nothing_held) (text ∷ []) ≡ passed (alone_leaf name) text (walk_from nothing_held)
  alone_walk = walk_passes (alone_leaf name) [] text plain (walk_from nothing_held) refl refl refl

  alone_turn : walk_fault (alone_leaf name) [] (walk_from nothing_held) (text ∷ []) ≡ []
  unfolding walk_fault
  alone_turn = ap (λ (kinds : Kinds). or_else kinds []) (turn_passes (alone_leaf name) [] text plain (walk_from nothing_held) refl refl refl refl)

  -- it is taken
  pub alone_passes : level_fault (alone_leaf name) [] nothing_held (text ∷ []) false [] ≡ []
  unfolding defaults_fault
  alone_passes = level_passes (alone_leaf name) (text ∷ []) (passed (alone_leaf name) text (walk_from nothing_held)) alone_walk alone_turn refl

  -- with no option
  pub alone_asked : asked_by (rows_at (alone_leaf name) (text ∷ [])) ≡ record { command = name; expression = Some text; after = None; skip = None }
  alone_asked = grind (arith, alone_walk)

-- ---- a command that begins where the options say

module _ (name text : Text) (plain : IsPlain text) where
  -- the walk after the expression
  abbrev first : Walk
  first = passed (output_leaf name) text (walk_from nothing_held)

  output_first : walked (output_leaf name).rules [] (walk_from nothing_held) text ≡ first
  output_first = walk_passes (output_leaf name) [] text plain (walk_from nothing_held) refl refl refl

  output_turn : turn_fault (output_leaf name) [] (walk_from nothing_held) text ≡ []
  output_turn = turn_passes (output_leaf name) [] text plain (walk_from nothing_held) refl refl refl refl

  -- it is taken with no option
  pub whole_passes : level_fault (output_leaf name) [] nothing_held (text ∷ []) false [] ≡ []
  unfolding defaults_fault walk_fault
  whole_passes = level_passes (output_leaf name) (text ∷ []) first output_first (ap (λ (kinds : Kinds). or_else kinds []) output_turn) refl

  pub whole_asked : asked_by (rows_at (output_leaf name) (text ∷ [])) ≡ record { command = name; expression = Some text; after = None; skip = None }
  whole_asked = ap (λ (w : Walk). asked_by (name, finished (output_leaf name).rules w.held)) output_first

  module _ (option_name given : Text) (plain_given : IsPlain given) where
    -- the walk after an option's name, and after its value
    abbrev second : Walk
    second = walked (output_leaf name).rules [] first option_name

    abbrev third : Walk
    third = passed (output_leaf name) given second

    -- an option's name is met, and its value comes
    record IsMet : Type 0 where
      going : second.stopped ≡ None
      before : second.is_trailing ≡ false
      waits : subcommand_met [] second.waiting given ≡ None
      taken : turn_fault (output_leaf name) [] first option_name ≡ []
      step : step_fault (output_leaf name) second.position (plain_word (output_leaf name).rules second.waiting given second.held).0
          (plain_word (output_leaf name).rules second.waiting given second.held).1 ≡ []
      ends : ends_fault (output_leaf name) third.held ≡ []

    module _ (met : IsMet) where
      option_walk : fold (walked (output_leaf name).rules []) (walk_from nothing_held) (text ∷ option_name ∷ given ∷ []) ≡ third
      option_walk =
          ap (λ (w : Walk). walked (output_leaf name).rules [] (walked (output_leaf name).rules [] w option_name) given) output_first
          ∙ walk_passes (output_leaf name) [] given plain_given second met.going met.before met.waits

      option_turns : walk_fault (output_leaf name) [] (walk_from nothing_held) (text ∷ option_name ∷ given ∷ []) ≡ []
      unfolding walk_fault
      option_turns = grind (arith, output_turn, output_first, turn_passes)

      option_passes : level_fault (output_leaf name) [] nothing_held (text ∷ option_name ∷ given ∷ []) false [] ≡ []
      option_passes = level_passes (output_leaf name) (text ∷ option_name ∷ given ∷ []) third option_walk option_turns met.ends

      option_asked : asked_by (rows_at (output_leaf name) (text ∷ option_name ∷ given ∷ [])) ≡ asked_by (name, finished (output_leaf name).rules third.held)
      option_asked = ap (λ (w : Walk). asked_by (name, finished (output_leaf name).rules w.held)) option_walk

  module _ (given : Text) (plain_given : IsPlain given) where
    after_met : IsMet (codes "--after") given plain_given
    unfolding walked defaults_fault
    after_met = record { going = refl; before = refl; waits = refl; taken = refl; step = refl; ends = refl }

    skip_met : IsMet (codes "--skip") given plain_given
    unfolding walked defaults_fault
    skip_met = record { going = refl; before = refl; waits = refl; taken = refl; step = refl; ends = refl }

    -- it is taken with a name after `--after`
    pub after_passes : level_fault (output_leaf name) [] nothing_held (text ∷ codes "--after" ∷ given ∷ []) false [] ≡ []
    after_passes = option_passes (codes "--after") given plain_given after_met

    pub after_asked : asked_by (rows_at (output_leaf name) (text ∷ codes "--after" ∷ given ∷ [])) ≡ record { command = name; expression = Some text; after = Some given; skip = None }
    unfolding walked
    after_asked = option_asked (codes "--after") given plain_given after_met

    -- and with a count after `--skip`
    pub skip_passes : level_fault (output_leaf name) [] nothing_held (text ∷ codes "--skip" ∷ given ∷ []) false [] ≡ []
    skip_passes = option_passes (codes "--skip") given plain_given skip_met

    pub skip_asked : asked_by (rows_at (output_leaf name) (text ∷ codes "--skip" ∷ given ∷ [])) ≡ record { command = name; expression = Some text; after = None; skip = Some given }
    unfolding walked
    skip_asked = option_asked (codes "--skip") given plain_given skip_met

-- ---- the commands by their names

pub queen_enters : EntersShape built_line (codes "queen") queen_leaf
unfolding walked defaults_fault
queen_enters = record { stops = refl; turn = refl; found = refl; others = refl }

-- ---- what is asked

-- the words ask the command of this name for the answer to this expression, from here on
pub record AsksSo (words : List Text) (name text : Text) (resume : Resume) : Type 0 where
  pub rows : List Row
  pub asks : Asks words name rows text
  pub begins : IsResumeOf (first_of (codes "after") rows) (first_of (codes "skip") rows) resume

module _ (program name text : Text) (leaf : Shape) (enters : EntersShape built_line name leaf) where
  -- the words ask the command for what it makes of those after its name
  pub asks : (words : List Text) (after skip : Option Text) (resume : Resume) → level_fault leaf [] nothing_held words false [] ≡ []
      → asked_by (rows_at leaf words) ≡ record { command = name; expression = Some text; after = after; skip = skip }
      → IsResumeOf after skip resume → AsksSo (program ∷ name ∷ words) name text resume
  asks words after skip resume passes asked begins =
      let rows = (rows_at leaf words).1 in record {
        rows = rows;
        asks = (
          record {
            taken = shape_passes built_line name leaf enters words passes;
            entered = shape_entered built_line name leaf enters words ∙ ap (λ (a : Asked). Some (a.command, rows)) asked;
          },
          ap (λ (a : Asked). a.expression) asked,
        );
        begins = begins_by rows after skip resume (ap (λ (a : Asked). a.after) asked) (ap (λ (a : Asked). a.skip) asked) begins;
      }

pub queen_taken : (program : Text) → fault_of command_line (program ∷ codes "queen" ∷ []) ≡ []
unfolding walk_fault defaults_fault
queen_taken program = grind (arith, queen_enters)

pub queen_entered : (program : Text) → subcommand_of command_line (program ∷ codes "queen" ∷ []) ≡ Some (rows_at queen_leaf [])
queen_entered program = shape_entered built_line (codes "queen") queen_leaf queen_enters []
