-- Laws of chains.
use Rattle.std.specs.Prelude.{◌≡◌, List}
use Rattle.mz_logic.specs.Term.{Term}
use Rattle.mz_core.specs.declared.radix.Radix.{Radix}
use Rattle.mz_context.specs.declared.context.Context.{Context}
use Rattle.mz_ground.specs.declared.clause.Clause.{Clause}
use Rattle.mz_environment.specs.declared.environment.Environment.{Environment}
use Rattle.mz_types.specs.Chain.{IsChain}

-- a term has one chain
abbrev pub OneChainLaw : Type 0
OneChainLaw = (cs : List Clause) (e : Environment) (c : Context) (t : Term) (rs qs : List Radix) → IsChain cs e c t rs → IsChain cs e c t qs → rs ≡ qs
