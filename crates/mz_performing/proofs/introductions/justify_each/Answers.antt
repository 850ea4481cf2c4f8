use Rattle.std.proofs.Common.{sym, ap, ◌∙◌}
use Rattle.mz_justified.specs.Kept.{justifications_keep}
use Rattle.mz_performing.proofs.EachLemmas.{told_too_large}
use Rattle.mz_performing.proofs.introductions.justify_each.Goals as goal

pub justify_kept-requires : goal.justify_kept-requires
justify_kept-requires c =
    ap (justifications_keep c.args.walker.env.now c.args.ctx.now c.args.opening.linked c.args.tree.now) (sym (c.as_slice.ensures.value ∙ c.ss.view_is)) ∙ (sym c.in_ok-kept.ensures ∙ c.if-not-kept.false)

pub returns-then-not-kept : goal.returns-then-not-kept
returns-then-not-kept c = told_too_large _ _ _ _ _ _ _ _ _ _ _ _ _ _ _ _ c.in_ok-kept.ensures (c.as_slice.ensures.value ∙ c.ss.view_is) c.if-not-kept.true c.too_large.ensures
