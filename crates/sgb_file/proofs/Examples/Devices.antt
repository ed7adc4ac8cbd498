-- What was done to sinks.
use Rattle.std.specs.Prelude.{ℕ, List, Bool, true, false, codes, Some, Ok, Err, ◌≡◌, refl}
use Rattle.sgb_file.specs.Devices.{AppendsPrefix, AppendsUnlessFailed, Change, IsPut, change}

-- a sink that told an `a` and then `ab`
abbrev told : Bool → Change
told failed = record { before = Some (codes "a"); after = Some (codes "ab"); failed = failed }

pub of_a_sink : change {S = List ℕ} (λ s. Some s) (λ s. false) (codes "a") (codes "ab") ≡ told false
of_a_sink = refl

-- of `bc` it took a prefix
pub a_prefix : AppendsPrefix (Some (codes "a")) (Some (codes "ab")) (codes "bc")
a_prefix = (codes "b", codes "c", refl, refl)

-- all of a text where it is sound, else a prefix
pub all : AppendsUnlessFailed (told false) (codes "b")
all = refl

pub until_failed : AppendsUnlessFailed (told true) (codes "bc")
until_failed = a_prefix

-- likewise a text that was put
pub put : IsPut {T = ℕ} {E = ℕ} (codes "b") (told false) (Ok 0)
put = refl

pub put_until_failed : IsPut {T = ℕ} {E = ℕ} (codes "bc") (told true) (Err 0)
put_until_failed = (a_prefix, refl)
