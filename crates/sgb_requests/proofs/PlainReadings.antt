-- What words are read as, where it is known what they ask.
use Rattle.std.proofs.Common.{◌≡◌, ◌⊎◌, ◌∙◌, ◌↔◌, true≢false, false, List, None, Result, Ok, Err, inl, inr, refl, sym, ap, subst, codes, rules, arith, bytes_eq}
use Rattle.std.proofs.lemmas.Slice.Eq.{bytes_eq-Decides}
use Rattle.clap.specs.Words.{Row, Text, first_of}
use Rattle.sgb_requests.specs.CommandLine.{Asks, Enters}
use Rattle.sgb_expr.specs.Expressions.{IsExpressionRead}
use Rattle.sgb_requests.specs.PlainWords.{IsFlipReadBy, IsQueenRead, IsReadBy}
use Rattle.sgb_requests.specs.Reading.{IsFlipReadAs, IsReadAs}
use Rattle.sgb_requests.specs.Requests.{IsAskedOf, IsCommandLineReadAs, IsInvalidCommandLine, IsRefusedCommandLine, IsRequest, IsResumeOf}
use Rattle.sgb_vec.specs.declared.panics.Panic.TheVariants.{NoRoom}
use Rattle.sgb_expr.specs.declared.expressions.Expr.{Expr}
use Rattle.sgb_requests.specs.declared.faults.Fault.{Fault}
use Rattle.sgb_requests.specs.declared.faults.Fault.TheVariants as fault
use Rattle.sgb_requests.specs.declared.requests.Request.{Request}
use Rattle.sgb_requests.specs.declared.requests.Request.TheVariants as request
use Rattle.sgb_requests.specs.declared.requests.Resume.{Resume}
use Rattle.sgb_requests.specs.declared.requests.Resume.TheVariants.{Whole}
use Rattle.sgb_requests.proofs.Beginnings.{begins_once}
use Rattle.sgb_requests.proofs.PlainCommands.{AsksSo}
use Rattle.sgb_requests.proofs.RefusedTexts.{IsRefusedWithText, faults_here}

-- ---- the words enter one command

-- of one name, with its matches
same_entered : (words : List Text) (name other : Text) (rows others : List Row) → Enters words name rows → Enters words other others → (name ≡ other) × (rows ≡ others)
same_entered words name other rows others is other_is = grind arith

-- not two
apart : (words : List Text) (name other : Text) (rows others : List Row) → bytes_eq name other ≡ false → Enters words name rows → Enters words other others → ⊥
apart words name other rows others differ is other_is =
    true≢false (sym ((bytes_eq-Decides name other).1 (same_entered words name other rows others is other_is).0) ∙ differ)

-- the command of a request
abbrev command_of : Request → Text
command_of (request.Names e resume) = codes "names"
command_of (request.List e resume) = codes "list"
command_of (request.Save e) = codes "save"
command_of request.Queen = codes "queen"
command_of (request.Flip p) = codes "flip"

-- no request of another command is made
other_request : (words : List Text) (name : Text) (rows : List Row) (r : Request) → Enters words name rows → bytes_eq name (command_of r) ≡ false → IsRequest words r → ⊥
other_request words name rows r is differ h = grind arith

-- ---- words that are refused

-- what holds of a refusal for the text, and for want of memory, holds of each
faults_there : (words : List Text) (P : Fault → Type 0) → (IsInvalidCommandLine words → ⊥) → ((f : Fault) → IsRefusedWithText words f → P f) → P (fault.Panic NoRoom)
    → (f : Fault) → IsCommandLineReadAs words (Err f) → P f
faults_there words P valid by_text no_room fault.Usage h = absurd (valid h)
faults_there words P valid by_text no_room f h = search (rules)

-- where the text is refused, or memory ran out before it was read, the words are refused
text_refused : (words : List Text) (text : Text) → ((f : Fault) → IsReadAs text (Err f) → IsRefusedWithText words f) → (f : Fault) → IsReadAs text (Err f) ⊎ (f ≡ fault.Panic NoRoom) → IsRefusedCommandLine words f
text_refused words text given f (inl h) = faults_here words (IsExpressionRead text) given f h
text_refused words text given f (inr none) = subst (IsRefusedCommandLine words) (sym none) refl

-- ---- a command with its expression

module _ (words : List Text) (name text : Text) (rows : List Row) (asks : Asks words name rows text) (resume : Resume)
    (begins : IsResumeOf (first_of (codes "after") rows) (first_of (codes "skip") rows) resume) where
  -- what is asked is known
  text_is : (other t : Text) (others : List Row) → Asks words other others t → text ≡ t
  text_is other t others asked = grind arith

  -- and where its answer begins
  begins_there : (other : Text) (others : List Row) → Enters words other others → IsResumeOf (first_of (codes "after") others) (first_of (codes "skip") others) resume
  begins_there other others is = grind arith

  -- the words are no invalid command line
  valid : IsInvalidCommandLine words → ⊥
  valid h = grind arith

  -- what is asked of a command with options is asked of this expression
  asked_same : (other : Text) (r : Resume) (read : Result Expr Fault) → IsAskedOf words other r read → IsReadAs text read × (r ≡ resume)
  asked_same other r read h = (
    subst (λ (t : Text). IsReadAs t read) (sym (text_is other h.1 h.0 h.2)) h.4,
    begins_once (first_of (codes "after") h.0) (first_of (codes "skip") h.0) r resume h.3 (begins_there other h.0 h.2.0),
  )

  -- no other command is asked
  other_asked : (other t : Text) (others : List Row) → bytes_eq name other ≡ false → Asks words other others t → ⊥
  other_asked other t others differ asked = apart words name other rows others differ asks.0 asked.0

-- a command with options
module _ (words : List Text) (name text : Text) (rows : List Row) (asks : Asks words name rows text) (resume : Resume)
    (begins : IsResumeOf (first_of (codes "after") rows) (first_of (codes "skip") rows) resume) (no_save : bytes_eq name (codes "save") ≡ false)
    (no_flip : bytes_eq name (codes "flip") ≡ false) where
  -- a refusal is that of its text
  refused_same : (f : Fault) → IsRefusedWithText words f → IsReadAs text (Err f)
  refused_same f (inl (r, (inl h))) = (asked_same words name text rows asks resume begins (codes "names") r (Err f) h).0
  refused_same f (inl (r, (inr h))) = (asked_same words name text rows asks resume begins (codes "list") r (Err f) h).0
  refused_same f (inr (inl h)) = absurd (other_asked words name text rows asks resume begins (codes "save") h.1 h.0 no_save h.2)
  refused_same f (inr (inr h)) = absurd (other_asked words name text rows asks resume begins (codes "flip") h.1 h.0 no_flip h.2)

  -- so the words are read as the expression is, in a request that is made of it
  options_read : (make : Expr → Request) → ((r : Request) → IsRequest words r → IsReadBy make text (Ok r)) → ((e : Expr) → IsAskedOf words name resume (Ok e) → IsRequest words (make e))
      → ((f : Fault) → IsAskedOf words name resume (Err f) → IsRefusedWithText words f) → (result : Result Request Fault) → IsCommandLineReadAs words result ↔ IsReadBy make text result
  options_read make there here refused (Ok r) = (there r, λ h. subst (IsRequest words) (sym h.2) (here h.0 (rows, text, asks, begins, h.1)))
  options_read make there here refused (Err f) = (
    faults_there words (λ f. IsReadBy make text (Err f)) (valid words name text rows asks resume begins) (λ f h. inl (refused_same f h)) (inr refl) f,
    text_refused words text (λ f h. refused f (rows, text, asks, begins, h)) f,
  )

-- `names` and `list`
module _ (words : List Text) (text : Text) (resume : Resume) where
  module _ (so : AsksSo words (codes "names") text resume) where
    names_there : (r : Request) → IsRequest words r → IsReadBy (λ e. request.Names e resume) text (Ok r)
    names_there (request.Names e r) h =
        let same = asked_same words (codes "names") text so.rows so.asks resume so.begins (codes "names") r (Ok e) h in
        (e, same.0, ap (request.Names e) same.1)
    names_there r h = absurd (other_request words (codes "names") so.rows r so.asks.0 refl h)

    pub names_read : (result : Result Request Fault) → IsCommandLineReadAs words result ↔ IsReadBy (λ e. request.Names e resume) text result
    names_read =
        options_read words (codes "names") text so.rows so.asks resume so.begins refl refl (λ e. request.Names e resume) names_there (λ e h. h) (λ f h. inl (resume, inl h))

  module _ (so : AsksSo words (codes "list") text resume) where
    list_there : (r : Request) → IsRequest words r → IsReadBy (λ e. request.List e resume) text (Ok r)
    list_there (request.List e r) h =
        let same = asked_same words (codes "list") text so.rows so.asks resume so.begins (codes "list") r (Ok e) h in
        (e, same.0, ap (request.List e) same.1)
    list_there r h = absurd (other_request words (codes "list") so.rows r so.asks.0 refl h)

    pub list_read : (result : Result Request Fault) → IsCommandLineReadAs words result ↔ IsReadBy (λ e. request.List e resume) text result
    list_read =
        options_read words (codes "list") text so.rows so.asks resume so.begins refl refl (λ e. request.List e resume) list_there (λ e h. h) (λ f h. inl (resume, inr h))

-- ---- a command of an expression alone

-- `save`
module _ (words : List Text) (text : Text) (so : AsksSo words (codes "save") text Whole) where
  save_is : (t : Text) (rows : List Row) → Asks words (codes "save") rows t → text ≡ t
  save_is t rows = text_is words (codes "save") text so.rows so.asks Whole so.begins (codes "save") t rows

  save_there : (r : Request) → IsRequest words r → IsReadBy (λ e. request.Save e) text (Ok r)
  save_there r h = search rules

  save_text : (f : Fault) → IsRefusedWithText words f → IsReadAs text (Err f)
  save_text f (inl (r, (inl h))) = absurd (apart words (codes "save") (codes "names") so.rows h.0 refl so.asks.0 h.2.0)
  save_text f (inl (r, (inr h))) = absurd (apart words (codes "save") (codes "list") so.rows h.0 refl so.asks.0 h.2.0)
  save_text f (inr (inl h)) = subst (λ (t : Text). IsReadAs t (Err f)) (sym (save_is h.1 h.0 h.2)) h.3
  save_text f (inr (inr h)) = absurd (apart words (codes "save") (codes "flip") so.rows h.0 refl so.asks.0 h.2.0)

  pub save_read : (result : Result Request Fault) → IsCommandLineReadAs words result ↔ IsReadBy (λ e. request.Save e) text result
  save_read (Ok r) = (save_there r, λ h. subst (IsRequest words) (sym h.2) (so.rows, text, so.asks, h.1))
  save_read (Err f) = (
    faults_there words (λ f. IsReadBy (λ e. request.Save e) text (Err f)) (valid words (codes "save") text so.rows so.asks Whole so.begins) (λ f h. inl (save_text f h)) (inr refl) f,
    text_refused words text (λ f h. inr (inl (so.rows, text, so.asks, h))) f,
  )

-- `flip`
module _ (words : List Text) (text : Text) (so : AsksSo words (codes "flip") text Whole) where
  flip_is : (t : Text) (rows : List Row) → Asks words (codes "flip") rows t → text ≡ t
  flip_is t rows = text_is words (codes "flip") text so.rows so.asks Whole so.begins (codes "flip") t rows

  flip_there : (r : Request) → IsRequest words r → IsFlipReadBy text (Ok r)
  flip_there (request.Flip p) h = (p, subst (λ (t : Text). IsFlipReadAs t (Ok p)) (sym (flip_is h.1 h.0 h.2)) h.3, refl)
  flip_there r h = absurd (other_request words (codes "flip") so.rows r so.asks.0 refl h)

  flip_text : (f : Fault) → IsRefusedWithText words f → IsFlipReadBy text (Err f)
  flip_text f h = grind arith

  flip_refused : (f : Fault) → IsFlipReadBy text (Err f) → IsCommandLineReadAs words (Err f)
  flip_refused f h = grind arith

  pub flip_read : (result : Result Request Fault) → IsCommandLineReadAs words result ↔ IsFlipReadBy text result
  flip_read (Ok r) = (flip_there r, λ h. subst (IsRequest words) (sym h.2) (so.rows, text, so.asks, h.1))
  flip_read (Err f) =
      (faults_there words (λ f. IsFlipReadBy text (Err f)) (valid words (codes "flip") text so.rows so.asks Whole so.begins) flip_text (inr refl) f, flip_refused f)

-- ---- `queen`

module _ (words : List Text) (rows : List Row) (enters : Enters words (codes "queen") rows) (alone : first_of (codes "EXPR") rows ≡ None) where
  pub queen_read : (result : Result Request Fault) → IsCommandLineReadAs words result ↔ IsQueenRead result
  queen_read result = search rules
