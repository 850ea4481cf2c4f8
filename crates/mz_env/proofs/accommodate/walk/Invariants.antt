use Rattle.std.proofs.Common.{drop}
use Rattle.std.specs.Prelude.{Result}
use Rattle.mz_environment.specs.declared.environment.Environment.{Environment}
use Rattle.mz_env.specs.declared.env_fault.EnvFault.{EnvFault}
use Rattle.mz_env.specs.LetIn.{behind, Gives}
use Rattle.mz_env.specs.Walking.{GivesBehind}
use Rattle.mz_env.proofs.accommodate.walk.Given as goal

abbrev pub invariant-loop-d : goal.invariant-loop-d
invariant-loop-d l = (told : Result Environment EnvFault) → Gives l.exports l.articles l.begun (drop l.d-index l.d-items) told → GivesBehind l.exports l.articles l.initial.begun l.d-items l.initial.env (behind l.env told)
