use Rattle.std.proofs.Common.{ap, ◌∙◌}
use Rattle.mz_walk.specs.Compact.{sides_keep}
use Rattle.mz_walk.specs.declared.compact.Compact.{Compact}
use Rattle.mz_compact.proofs.BegunLemmas.{told_large, told_not_fit}
use Rattle.mz_compact.proofs.begun.fit_kept.Goals as goal

pub returns-else-kept : goal.returns-else-kept
returns-else-kept c =
    told_large _ _ _ _ _ _ _ c.args.x.value _ _ _ c.fit_compact.ensures c.in-Ok.is
    (c.in_ok-kept.ensures ∙ ap (sides_keep c.args.walker.env.now c.args.ctx.now c.args.sides.now) (c.as_slice.ensures.value ∙ ap (λ (z : Compact). z.said.further) (c.behind-x.view_is ∙ c.deref.ensures))) c.if-kept.false

pub returns-in-Err : goal.returns-in-Err
returns-in-Err c = told_not_fit _ _ _ _ _ _ _ c.args.x.value _ _ c.fit_compact.ensures c.in-Err.is
