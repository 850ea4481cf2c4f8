-- One value at most.
use Rattle.std.specs.Prelude.{◌≡◌, List, Option}
use Rattle.mz_context.specs.declared.context.Context.{Context}
use Rattle.mz_ground.specs.declared.clause.Clause.{Clause}
use Rattle.mz_environment.specs.declared.unfoldings.Unfolding.{Unfolding}
use Rattle.mz_steps.specs.Effects.{Acts}
use Rattle.mz_steps.specs.declared.read_step.ReadStep.{ReadStep}
use Rattle.mz_steps.specs.declared.block.Block.{Block}
use Rattle.mz_steps.specs.declared.block.Effect.{Effect}

-- a step does one thing at most in a block
abbrev pub OneEffectLaw : Type 0
OneEffectLaw =
    (cs : List Clause) (us : List Unfolding) (b : Block) (c : Context) (s : ReadStep) (o p : Option Effect) → Acts cs us b c s o → Acts cs us b c s p → o ≡ p
