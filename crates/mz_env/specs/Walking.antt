-- What names let in, behind an environment that is there.
use Rattle.std.specs.Prelude.{◌≡◌, List, Option, None, Some, Result, Ok, Err}
use Rattle.mz_base.specs.declared.name.Name.{Name}
use Rattle.mz_core.specs.declared.outcome.Export.{Export}
use Rattle.mz_environment.specs.declared.environment.Environment.{Environment}
use Rattle.mz_env.specs.declared.directed.Directed.{Directed}
use Rattle.mz_env.specs.declared.env_fault.EnvFault.{EnvFault}
use Rattle.mz_env.specs.LetIn.{behind, Gives}

abbrev pub GivesBehind : List Export → List Name → List Name → List Directed → Environment → Result Environment EnvFault → Type 0
GivesBehind exports articles begun ds e outcome =
    (told : Result Environment EnvFault) × Gives exports articles begun ds told × (outcome ≡ behind e told)

-- an environment, or the first fault where there is one
abbrev pub told : Option EnvFault → Environment → Result Environment EnvFault
told None e = Ok e
told (Some f) e = Err f
