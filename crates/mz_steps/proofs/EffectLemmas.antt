-- What the code of effects tells.
use Rattle.std.proofs.Common.{◌≡◌, List, refl, sym, ap, ◌∙◌, subst, Option, Some, None, Result}
use Rattle.std.specs.Prelude.{IfOk, IfErr}
use Rattle.std.proofs.lemmas.Result.{IfOk-weaker}
use Rattle.mz_core.specs.Statement.{Statement}
use Rattle.mz_context.specs.declared.context.Context.{Context}
use Rattle.mz_ground.specs.declared.clause.Clause.{Clause}
use Rattle.mz_environment.specs.declared.unfoldings.Unfolding.{Unfolding}
use Rattle.mz_thesis.specs.Applied.{Leads, Refuses}
use Rattle.mz_thesis.specs.declared.step.Step.{Step}
use Rattle.mz_thesis.specs.declared.thesis_fault.ThesisFault.{ThesisFault}
use Rattle.mz_thesis.specs.declared.thesis_fault.ThesisFault.TheVariants.{NoFit, Memory}
use Rattle.mz_steps.specs.Effects.{Led, IsUnled}
use Rattle.mz_steps.specs.declared.block.Effect.{Effect}
use Rattle.mz_steps.specs.declared.block.Effect.TheVariants.{Unchanged, Leaves, Says}

pub told_led : (cs : List Clause) (us : List Unfolding) (c : Context) (o : Option Statement) (thesis after : Statement) (step : Step) → o ≡ Some thesis → Leads cs c.constants us thesis step after → Led cs us c o step (Some (Leaves after))
told_led cs us c o thesis after step e h = subst (λ p. Led cs us c p step (Some (Leaves after))) (sym e) (Some after, h, refl)

unled : (cs : List Clause) (us : List Unfolding) (c : Context) (thesis : Statement) (step : Step) (f : ThesisFault) → Refuses cs c.constants us thesis step f → IsUnled cs us c (Some thesis) step f
unled cs us c thesis step NoFit h = (None, h, refl)
unled cs us c thesis step Memory h = tt

pub told_unled : (cs : List Clause) (us : List Unfolding) (c : Context) (o : Option Statement) (thesis : Statement) (step : Step) (f : ThesisFault) → o ≡ Some thesis → Refuses cs c.constants us thesis step f → IsUnled cs us c o step f
told_unled cs us c o thesis step f e h = subst (λ p. IsUnled cs us c p step f) (sym e) (unled cs us c thesis step f h)

pub told_no_thesis : (cs : List Clause) (us : List Unfolding) (c : Context) (o : Option Statement) (step : Step) → o ≡ None → Led cs us c o step None
told_no_thesis cs us c o step e = subst (λ p. Led cs us c p step None) (sym e) refl

pub ruleset led_rules = (told_led, told_unled, told_no_thesis)
