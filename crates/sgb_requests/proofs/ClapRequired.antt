-- Words that clap takes give each argument that is required its value: where a walk over the words has no fault, each row has a value.
use Rattle.sgb_vec.proofs.Common.{◌≡◌, ◌<◌, ◌&&◌, ℕ, Bool, cond, true, false, not, zero, suc, List, [], ◌∷◌, ◌++◌, length, length-append, Option, Some, None, IsSome, is_some, refl, arith, fold, rules, encode_utf8, drop, find, nat_lt, slice_get, list_all, list_any, cond_both}
use Rattle.clap.specs.declared.error.kind.ErrorKind.TheVariants as kind
use Rattle.std.specs.Str.{chars}
use Rattle.clap.specs.Facts.{unwrap_or_range}
use Rattle.clap.specs.Faults.{bundle_step_fault, check_fault, flag_word_fault, flags_fault, level_fault, long_fault, option_fault, other_fault, react_fault, settle_fault, short_fault, step_fault, turn_fault, use_fault, walk_fault, word_fault}
use Rattle.clap.specs.Kinds.{Kinds, or_else, check_kinds}
use Rattle.clap.specs.Simple.{Shape}
use Rattle.clap.specs.Takes.{is_given}
use Rattle.clap.specs.Walk.{Held, Names, Outcome, Row, Rule, Step, Text, Waiting, Walk, action_of, after_step, arg_by_short, at_row, attached_value, bundle_met, bundle_step, done, first_of, flag_met, long_met, long_or_other, next, nothing_held, option_met, reacted, rows_after, settled, short_met, subcommand, subcommand_or_other, takes_values, trailing, used, value, walk, walk_from, walked, with_default, with_values, without, word_met}
use Rattle.clap.proofs.WalkLemmas.{both}
use Rattle.clap.specs.declared.builder.action.ArgAction.{ArgAction}
use Rattle.clap.specs.declared.builder.action.ArgAction.TheVariants.{Help, Set}
use Rattle.clap.specs.declared.parser.matches.ValueSource.{ValueSource}
use Rattle.clap.specs.declared.builder.value_parser.Reading.{Reading}

-- ---- kinds of error, one after another

-- no kind is in the first
pub none_first : (a b : Kinds) → or_else a b ≡ [] → a ≡ []
none_first a b e = grind (arith)

-- no kind is in the second
pub none_second : (a b : Kinds) → or_else a b ≡ [] → b ≡ []
none_second a b e = grind (arith)

-- ---- what each of a list has

abbrev pub Each : {X : Type 0} → (X → Type 0) → List X → Type 0
Each P [] = Unit {0}
Each P (x ∷ xs) = P x × Each P xs

-- the one has it, if there is one
abbrev IfThere : {X : Type 0} → (X → Type 0) → Option X → Type 0
IfThere P None = Unit {0}
IfThere P (Some x) = P x

-- one that is looked up
found_has : {X : Type 0} (P : X → Type 0) (p : X → Bool) (xs : List X) → Each P xs → IfThere P (find p xs)
found_has P p [] each = tt
found_has P p (x ∷ rest) each = cond_both (p x) (Some x) (find p rest) (IfThere P) (λ _. each.0) (λ _. found_has P p rest each.1)

-- ---- rows with values

-- the row has a value
abbrev HasValue : Row → Type 0
HasValue r = 0 < length r.values

-- each row has a value
abbrev pub IsFilled : List Row → Type 0
IsFilled = Each HasValue

-- rows joined
filled_append : (xs ys : List Row) → IsFilled xs → IsFilled ys → IsFilled (xs ++ ys)
filled_append [] ys p q = q
filled_append (x ∷ xs) ys p q = (p.0, filled_append xs ys p.1 q)

-- one row may change, or be added
filled_at : (id : Text) (change : Row → List Row) (missing rows : List Row) → ((r : Row) → 0 < length r.values → IsFilled (change r)) → IsFilled missing
    → IsFilled rows → IsFilled (at_row id change missing rows)
filled_at id change missing [] changes miss p = miss
filled_at id change missing (r ∷ rs) changes miss p = grind (arith, filled_append, filled_at id change missing rs changes miss p.1)

-- the row of an id goes
filled_without : (id : Text) (rows : List Row) → IsFilled rows → IsFilled (without id rows)
filled_without id rows p = filled_at id (λ _. []) [] rows (λ r h. tt) tt p

-- the row of an id gets a value or more
filled_with : (id : Text) (how : Reading) (s : ValueSource) (v : Text) (vs : List Text) (rows : List Row) → IsFilled rows → IsFilled (with_values id how s (v ∷ vs) rows)
filled_with id how s v vs rows p = grind (arith, filled_at, length-append)

-- ---- the rules

-- a use of the argument that has no fault keeps the rows filled
abbrev pub Fills : Rule → Type 0
Fills a = (again : Bool) (values : List Text) (rows : List Row) → use_fault again a values rows ≡ [] → IsFilled rows → IsFilled (used a values rows)

-- each of the arguments does
abbrev pub EachFills : List Rule → Type 0
EachFills = Each Fills

-- ---- the walk, of rules that each fill

module _ (c : List Rule) (again : Bool) (each : EachFills c) where
  -- the pending argument is used
  settled_filled : (h : Held) → settle_fault c again h ≡ [] → IsFilled h.rows → IsFilled (settled c h).rows
  settled_filled h e p = grind (arith, found_has)

  -- another argument is used after it
  reacted_filled : (a : Rule) (values : List Text) (h : Held) → Fills a → react_fault c again a values h ≡ [] → IsFilled h.rows → IsFilled (reacted c a values h).rows
  reacted_filled a values h fills e p = grind (arith, settled_filled)

  -- an option, with a value attached or not
  option_filled : (a : Rule) (v : Option Text) (h : Held) → Fills a → option_fault c again a v h ≡ [] → IsFilled h.rows → IsFilled (option_met c a v h).0.rows
  option_filled a (Some v) h fills e p = reacted_filled a (v ∷ []) h fills e p
  option_filled a None h fills e p = settled_filled h e p

  -- `--name` or `--name=value`
  long_filled : (found : Option Rule) (v : Option Text) (h : Held) → IfThere Fills found → long_fault c again found v h ≡ [] → IsFilled h.rows
      → IsFilled (long_met c found v h).0.rows
  long_filled None v h fills e p = p
  long_filled (Some a) v h fills e p = go (takes_values a) v e
    where
      go : (b : Bool) (v : Option Text) → cond b (option_fault c again a v h) (cond (is_some v) (kind.TooManyValues ∷ []) (react_fault c again a [] h)) ≡ []
          → IsFilled (cond b (option_met c a v h) (flag_met c a v h)).0.rows
      go true v e = option_filled a v h fills e p
      go false (Some v) e = p
      go false None e = reacted_filled a [] h fills e p

  -- one letter of a bundle, and then those after it
  short_filled : (found : Option Rule) (rest : Text) (h : Held) (fault : Held → Kinds) (then : Held → Held × Outcome) → IfThere Fills found
      → ((h : Held) → fault h ≡ [] → IsFilled h.rows → IsFilled (then h).0.rows) → short_fault c again found rest h fault ≡ [] → IsFilled h.rows
      → IsFilled (short_met c found rest h then).0.rows
  short_filled None rest h fault then fills keeps e p = p
  short_filled (Some a) rest h fault then fills keeps e p = go (takes_values a) e
    where
      go : (b : Bool) → cond b (option_fault c again a (attached_value rest) h) (or_else (react_fault c again a [] h) (fault (reacted c a [] h))) ≡ []
          → IsFilled (cond b (option_met c a (attached_value rest) h) (then (reacted c a [] h))).0.rows
      go true e = option_filled a (attached_value rest) h fills e p
      go false e = keeps (reacted c a [] h) (none_second _ _ e) (reacted_filled a [] h fills (none_first _ _ e) p)

  -- a bundle `-abc`
  bundle_filled : (k : ℕ) (flags : Text) (skip : ℕ) (so_far : Outcome) (h : Held) → flags_fault c again k flags skip h ≡ [] → IsFilled h.rows
      → IsFilled (bundle_met c k flags skip so_far h).0.rows
  unfolding flags_fault bundle_met
  bundle_filled zero flags skip so_far h e p = p
  bundle_filled (suc k) flags skip so_far h e p = go (slice_get (chars flags) 0) skip (bundle_filled k) e
    where
      go : (first : Option ℕ) (skip : ℕ)
          → ((flags : Text) (skip : ℕ) (so_far : Outcome) (h : Held) → flags_fault c again k flags skip h ≡ [] → IsFilled h.rows
          → IsFilled (bundle_met c k flags skip so_far h).0.rows) → bundle_step_fault c again first flags skip h (flags_fault c again k) ≡ []
          → IsFilled (bundle_step c first flags skip so_far h (bundle_met c k)).0.rows
      go None skip keeps e = p
      go (Some x) zero keeps e =
          let rest = drop (length (encode_utf8 x)) flags in
          short_filled (arg_by_short c x) rest h (flags_fault c again k rest 0) (bundle_met c k rest 0 done) (found_has Fills _ c each) (keeps rest 0 done) e p
      go (Some x) (suc skip) keeps e = keeps (drop (length (encode_utf8 x)) flags) skip so_far h e p

  -- a word that may be a flag
  flag_word_filled : (waiting : Waiting) (word : Text) (long : Option (Text × Option Text)) (h : Held) → flag_word_fault c again long word h ≡ [] → IsFilled h.rows
      → IsFilled (long_or_other c waiting word long h).0.rows
  flag_word_filled waiting word (Some q) h e p = grind (arith, long_filled, found_has)
  flag_word_filled waiting word None h e p = grind (arith, bundle_filled)

-- ---- a turn of the walk

module _ (s : Shape) (names : Names) (each : EachFills s.rules) where
  -- a word that may name a command
  other_filled : (met : Option Text) (waiting : Waiting) (position : ℕ) (word : Text) (h : Held) → other_fault s met word h ≡ [] → IsFilled h.rows
      → IsFilled (subcommand_or_other s.rules met waiting position word h).0.rows
  other_filled (Some name) waiting position word h e p = p
  other_filled None waiting position word h e p = grind (arith, flag_word_filled)

  -- any word, before it goes to a positional
  word_filled : (is_trailing : Bool) (waiting : Waiting) (position : ℕ) (word : Text) (h : Held) → word_fault s names is_trailing waiting word h ≡ [] → IsFilled h.rows
      → IsFilled (word_met s.rules names is_trailing waiting position word h).0.rows
  word_filled is_trailing waiting position word h e p = grind (arith, other_filled)

  -- the word goes to a positional, or has been read
  step_filled : (step : Step) (word : Text) (w : Walk) (h : Held) → step_fault s w.position h step ≡ [] → IsFilled h.rows → IsFilled (after_step s.rules word w h step).held.rows
  step_filled (next waiting) word w h e p = p
  step_filled (trailing position) word w h e p = p
  step_filled (subcommand name) word w h e p = p
  step_filled value word w h e p = grind (arith, settled_filled)

  -- a word's turn
  turn_filled : (w : Walk) (word : Text) → turn_fault s names w word ≡ [] → IsFilled w.held.rows → IsFilled (walked s.rules names w word).held.rows
  unfolding walked
  turn_filled w word e p = grind (arith, step_filled, word_filled)

  -- the whole walk
  walk_filled : (w : Walk) (words : List Text) → walk_fault s names w words ≡ [] → IsFilled w.held.rows → IsFilled (fold (walked s.rules names) w words).held.rows
  unfolding walk_fault
  walk_filled w [] e p = p
  walk_filled w (word ∷ rest) e p =
      walk_filled (walked s.rules names w word) rest (none_second _ _ e) (turn_filled w word (none_first _ _ e) p)

-- ---- defaults

-- the default of one argument
default_filled : (rows : List Row) (a : Rule) → IsFilled rows → IsFilled (with_default rows a)
default_filled rows a p = grind (arith, filled_with)

-- the defaults of all
defaults_filled : (rules : List Rule) (rows : List Row) → IsFilled rows → IsFilled (fold with_default rows rules)
defaults_filled [] rows p = p
defaults_filled (a ∷ rest) rows p = defaults_filled rest (with_default rows a) (default_filled rows a p)

-- ---- what is required is there

-- a list that is not empty has a first
first_there : (values : List Text) → 0 < length values → IsSome (slice_get values 0)
first_there [] h = absurd (omega arith)
first_there (v ∷ vs) h = refl

-- an argument that was given has a first value
given_first : (id : Text) (rows : List Row) → IsFilled rows → is_given id rows ≡ true → IsSome (first_of id rows)
given_first id rows filled given = grind (arith, found_has, first_there)

-- the last check of three passed
last_check : (x y z : Bool) → check_kinds x y z ≡ [] → z ≡ false
last_check x y z e = grind (arith)

-- the check of what is missing, at a command with no subcommand
nothing_missing : (n z : Bool) → (not (n && false) && z) ≡ false → z ≡ false
nothing_missing n z e = grind (arith)

-- the first rule, where nothing that is required is missing
first_given : (rules rest : List Rule) (a : Rule) (given : Text → Bool) → rules ≡ a ∷ rest → a.required ≡ true
    → list_any (λ a. a.required && not (given a.id)) rules ≡ false → given a.id ≡ true
first_given rules rest a given first required e = grind arith

-- where the words have no fault, the first argument has a value if it is required
pub required_first : (s : Shape) (a : Rule) (rest : List Rule) (words : List Text) → EachFills s.rules → s.rules ≡ a ∷ rest → a.required ≡ true
    → level_fault s [] nothing_held words false [] ≡ [] → IsSome (first_of a.id (rows_after s.rules [] words))
required_first s a rest words each first required e =
    let end = (walk s.rules [] nothing_held words).held in
    let filled_end : IsFilled end.rows = walk_filled s [] each (walk_from nothing_held) words (none_first _ _ e) tt in
    let ended = none_second [] _ (none_second (walk_fault s [] (walk_from nothing_held) words) _ e) in
    let rows = rows_after s.rules [] words in
    let checked : check_fault s rows false ≡ [] = grind arith in
    let given = first_given s.rules rest a (λ id. is_given id rows) first required (nothing_missing s.subcommand_negates_reqs _ (last_check _ _ _ checked)) in
    grind (arith, defaults_filled, settled_filled, given_first)

-- ---- which rules fill

-- the same, by its action
abbrev is_valued_at : ArgAction → Rule → Bool
is_valued_at Set a = nat_lt 0 (unwrap_or_range a.range).start_inclusive
is_valued_at Help a = true
is_valued_at _ a = false

-- the rule is an option or a positional of a value or more, or asks for help
abbrev pub is_valued : Rule → Bool
is_valued a = is_valued_at (action_of a) a

-- a rule of these two kinds
valued_fills : (a : Rule) (x : ArgAction) → action_of a ≡ x → is_valued_at x a ≡ true → Fills a
valued_fills a x is e = grind (arith, filled_with, filled_without)

-- rules that are all of these two kinds
pub each_valued : (rules : List Rule) → list_all is_valued rules ≡ true → EachFills rules
each_valued [] e = tt
each_valued (a ∷ rest) e = let parts = both _ _ e in (valued_fills a (action_of a) refl parts.0, each_valued rest parts.1)
