-- A step does one thing at most in a block.
use Rattle.std.proofs.Common.{◌≡◌, List, ap, sym, ◌∙◌, Option, Some, None}
use Rattle.mz_core.specs.Statement.{Statement}
use Rattle.mz_context.specs.declared.context.Context.{Context}
use Rattle.mz_ground.specs.declared.clause.Clause.{Clause}
use Rattle.mz_environment.specs.declared.unfoldings.Unfolding.{Unfolding}
use Rattle.mz_thesis.specs.Applied.{most_unfoldings}
use Rattle.mz_thesis.specs.declared.step.Step.{Step}
use Rattle.mz_thesis.proofs.OneValue.{one_thesis_law}
use Rattle.mz_steps.specs.Rows.{thesis_step}
use Rattle.mz_steps.specs.Effects.{left_of, Led, ActsBy, Acts}
use Rattle.mz_steps.specs.declared.read_step.ReadStep.{ReadStep}
use Rattle.mz_steps.specs.declared.block.Block.{Block}
use Rattle.mz_steps.specs.declared.block.Block.TheVariants.{Proof, Now}
use Rattle.mz_steps.specs.declared.block.Effect.{Effect}
use Rattle.mz_steps.specs.Laws.{OneEffectLaw}

one_led : (cs : List Clause) (us : List Unfolding) (c : Context) (thesis : Option Statement) (step : Step) (o p : Option Effect) → Led cs us c thesis step o → Led cs us c thesis step p → o ≡ p
one_led cs us c None step o p h k = h ∙ sym k
one_led cs us c (Some thesis) step o p h k = h.2 ∙ (ap left_of (one_thesis_law cs c.constants us most_unfoldings thesis step h.0 k.0 h.1 k.1) ∙ sym k.2)

one_acts_by : (cs : List Clause) (us : List Unfolding) (c : Context) (step : Option Step) (o p : Option Effect) → ActsBy cs us c step o → ActsBy cs us c step p → o ≡ p
one_acts_by cs us c None o p h k = h ∙ sym k
one_acts_by cs us c (Some step) o p h k = one_led cs us c c.thesis step o p h k

pub one_effect_law : OneEffectLaw
one_effect_law cs us Proof c s o p h k = one_acts_by cs us c (thesis_step c s) o p h k
one_effect_law cs us (Now ps) c s o p h k = h ∙ sym k
