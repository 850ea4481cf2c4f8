use Rattle.std.proofs.Common.{[], ◌∷◌, sym, ap, ◌∙◌}
use Rattle.mz_parts.specs.Propositions.{label_in}
use Rattle.mz_walk.specs.declared.compact.Compact.{Compact}
use Rattle.mz_walk.specs.Compact.{stated_under}
use Rattle.mz_walk.specs.Walk.{step_of}
use Rattle.mz_compact.proofs.BegunLemmas.{told_unfit, told_fits}
use Rattle.mz_compact.proofs.begun.fit_compact.Goals as goal

pub returns-in-Ok : goal.returns-in-Ok
returns-in-Ok c = told_fits _ _ _ _ _ _ c.args.x.value _ _ _ _ _ _ (c.deref-3.ensures ∙ (c.in_ok-step-2.ensures.ok ∙ (c.in_ok-step.ensures ∙ ap (λ (z : Compact). step_of c.args.concluded z.said.states) c.deref-2.ensures))) (c.into_inner-in-Ok.ensures ∙ sym c.deref-3.ensures) c.fit.ensures c.in-Ok.is (c.in_ok-stated.ensures ∙ ap (λ (z : Compact). stated_under (label_in c.args.p.now.label) z.said.states ∷ []) c.deref.ensures) c.into_inner.ensures

pub returns-in-Err : goal.returns-in-Err
returns-in-Err c = told_unfit _ _ _ _ _ _ c.args.x.value _ _ _ (c.deref-3.ensures ∙ (c.in_ok-step-2.ensures.ok ∙ (c.in_ok-step.ensures ∙ ap (λ (z : Compact). step_of c.args.concluded z.said.states) c.deref-2.ensures))) c.fit.ensures c.in-Err.is
