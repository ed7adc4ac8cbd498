-- The walk of clap's over words that are no options, and over words that it passes over.
use Rattle.std.proofs.Common.{◌≡◌, ◌∙◌, ℕ, Bool, true, false, List, [], ◌∷◌, ◌++◌, append_assoc, append-nil, Option, Some, None, slice_index, refl, sym, ap, find, fold, option_map, arith, option_and_then, bytes_eq}
use Rattle.std.proofs.lemmas.Slice.Eq.{bytes_eq-Decides}
use Rattle.clap.specs.Faults.{built_fault, check_fault, defaults_fault, level_fault, settle_fault, step_fault, turn_fault, walk_fault, word_fault}
use Rattle.clap.specs.Kinds.{Kinds, or_else}
use Rattle.clap.specs.Lexer.{long_of, long_of_rest, short_of, short_of_rest, strip_byte}
use Rattle.clap.specs.Simple.{App, Shape, entered, label_of, names_of, rows_at}
use Rattle.clap.specs.Walk.{Held, Names, Text, Waiting, Walk, after_step, answers_to, finished, nothing_held, plain_word, settled, stop_after, subcommand_met, walk_from, walked, word_met}
use Rattle.sgb_vec.proofs.Lists.{never_true}
use Rattle.sgb_requests.specs.PlainWords.{IsPlain}

-- ---- words after a command's name

-- a walk that stopped at this command, with these words after it
abbrev pub stopped_at : Text → List Text → Walk
stopped_at name words = record (walk_from nothing_held) { stopped = Some (name, words) }

module _ (s : Shape) (names : Names) where
  -- further words are passed over, and kept
  pub words_kept : (name : Text) (before words : List Text) → fold (walked s.rules names) (stopped_at name before) words ≡ stopped_at name (before ++ words)
  unfolding walked
  words_kept name before [] = ap (stopped_at name) (sym (append-nil before))
  words_kept name before (word ∷ rest) = words_kept name (before ++ word ∷ []) rest ∙ ap (stopped_at name) (append_assoc before (word ∷ []) rest)

  -- without a fault
  pub words_pass : (name : Text) (before words : List Text) → walk_fault s names (stopped_at name before) words ≡ []
  unfolding walk_fault walked
  words_pass name before [] = refl
  words_pass name before (word ∷ rest) = words_pass name (before ++ word ∷ []) rest

-- ---- words that are no options

-- there is no hyphen to take off
no_strip : (word : Text) → IsPlain word → strip_byte 45 word ≡ None
no_strip word plain = grind arith

-- it is not `--`
no_trailing : (word : Text) → IsPlain word → bytes_eq word (45 ∷ 45 ∷ []) ≡ false
no_trailing word plain = never_true (bytes_eq word (45 ∷ 45 ∷ [])) (λ e. plain (ap (λ (t : Text). slice_index t 0) ((bytes_eq-Decides word (45 ∷ 45 ∷ [])).0 e)))

-- it is no `--name`
no_long : (word : Text) → IsPlain word → long_of word ≡ None
no_long word plain = ap (λ (o : Option Text). option_and_then long_of_rest (option_and_then (strip_byte 45) o)) (no_strip word plain)

-- it is no `-abc`
no_short : (word : Text) → IsPlain word → short_of word ≡ None
no_short word plain = ap (λ (o : Option Text). option_and_then short_of_rest o) (no_strip word plain)

-- the walk after such a word
abbrev pub passed : Shape → Text → Walk → Walk
passed s word w =
    after_step s.rules word w (plain_word s.rules w.waiting word w.held).0 (plain_word s.rules w.waiting word w.held).1

module _ (s : Shape) (names : Names) (word : Text) (plain : IsPlain word) where
  -- such a word is a value, where it names no command
  word_is : (waiting : Waiting) (position : ℕ) (h : Held) → subcommand_met names waiting word ≡ None
      → word_met s.rules names false waiting position word h ≡ plain_word s.rules waiting word h
  word_is waiting position h none = rw (none, no_trailing word plain, no_long word plain, no_short word plain) refl

  -- and has no fault of its own
  word_passes : (waiting : Waiting) (h : Held) → subcommand_met names waiting word ≡ None → word_fault s names false waiting word h ≡ []
  word_passes waiting h none = rw (none, no_trailing word plain, no_long word plain, no_short word plain) refl

  -- the walk goes on after it
  pub walk_passes : (w : Walk) → w.stopped ≡ None → w.is_trailing ≡ false → subcommand_met names w.waiting word ≡ None
      → walked s.rules names w word ≡ passed s word w
  unfolding walked
  walk_passes w going before none = rw (going, before, word_is w.waiting w.position w.held none) refl

  -- a fault at it is one of the argument before it, which ends
  pub turn_passes : (w : Walk) → w.stopped ≡ None → w.is_trailing ≡ false → subcommand_met names w.waiting word ≡ None
      → step_fault s w.position (plain_word s.rules w.waiting word w.held).0 (plain_word s.rules w.waiting word w.held).1 ≡ []
      → turn_fault s names w word ≡ []
  turn_passes w going before none ends = rw (going, before, word_passes w.waiting w.held none, word_is w.waiting w.position w.held none) ends

-- ---- one level of the parse, whose walk is known

-- what is wrong after the walk, with what it holds
abbrev pub ends_fault : Shape → Held → Kinds
ends_fault s end =
    or_else (settle_fault s.rules s.args_override_self end)
    (or_else (defaults_fault (settled s.rules end).rows s.rules) (check_fault s (finished s.rules end) false))

-- nothing is where nothing is on the walk, nor after it
pub level_passes : (s : Shape) (words : List Text) (w : Walk) → fold (walked s.rules []) (walk_from nothing_held) words ≡ w
    → walk_fault s [] (walk_from nothing_held) words ≡ [] → ends_fault s w.held ≡ [] → level_fault s [] nothing_held words false [] ≡ []
level_passes s words w walk_is none ends = rw (none, walk_is) ends

-- ---- the command that is named first

module _ (a : App) where
  -- what is wrong after the walk of the words before a command's own
  abbrev pub rest_fault : Bool → Kinds
  rest_fault has_command =
      or_else (settle_fault a.top.rules a.top.args_override_self nothing_held)
      (or_else (defaults_fault (settled a.top.rules nothing_held).rows a.top.rules) (check_fault a.top (finished a.top.rules nothing_held) has_command))

  -- the first word enters the command of this shape
  pub record EntersShape (name : Text) (s : Shape) : Type 0 where
    pub stops : walked a.top.rules (names_of a) (walk_from nothing_held) name ≡ stopped_at name []
    pub turn : turn_fault a.top (names_of a) (walk_from nothing_held) name ≡ []
    pub found : find (λ s. answers_to name (label_of s)) a.subs ≡ Some s
    pub others : rest_fault true ≡ []

  module _ (name : Text) (s : Shape) (enters : EntersShape name s) (words : List Text) where
    -- the walk over all words
    walk_is : fold (walked a.top.rules (names_of a)) (walk_from nothing_held) (name ∷ words) ≡ stopped_at name words
    walk_is = ap (λ (w : Walk). fold (walked a.top.rules (names_of a)) w words) enters.stops ∙ words_kept a.top (names_of a) name [] words

    -- the command's matches are those of the words after its name
    pub shape_entered : entered a (stop_after a.top.rules (names_of a) (name ∷ words)) ≡ Some (rows_at s words)
    shape_entered = ap (λ (w : Walk). entered a w.stopped) walk_is ∙ ap (option_map (λ (s : Shape). rows_at s words)) enters.found

    -- a fault is one of the words after its name
    pub shape_passes : level_fault s [] nothing_held words false [] ≡ [] → built_fault a nothing_held (name ∷ words) ≡ []
    unfolding walk_fault
    shape_passes none = grind (arith, words_pass, walk_is)
