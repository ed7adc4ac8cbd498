-- How an adapted reader or writer is stored.
use Rattle.std.specs.Prelude.{Bool, refl}
use Rattle.std.specs.Coded.{Coded, code_by, coded×, coded_bool}
use Rattle.sgb_file.specs.Devices.{Adapted}

-- an adapted value is stored as the pair of its fields
abbrev pub adapted_code : {Inner : Type 0} → Coded Inner → Coded (Adapted Inner)
adapted_code {Inner = Inner} code =
    code_by (Inner × Bool) (coded× code coded_bool) (λ a. (a.inner, a.failed)) (λ p. record { inner = p.0; failed = p.1 }) (λ _. refl)
