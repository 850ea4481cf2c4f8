use Rattle.std.proofs.Common.{sym, ap, ◌∙◌}
use Rattle.mz_tree_proof.specs.Views.{just_view}
use Rattle.mz_compact.proofs.EarlierLemmas.{told_simple, told_proof}
use Rattle.mz_compact.proofs.earlier.told_first.Goals as goal

pub returns-in-Simple : goal.returns-in-Simple
returns-in-Simple c = told_simple c.args.walker.env.now c.args.ctx.now c.args.semicolon c.args.count c.args.just.now _ c.args.sides.now c.args.r _ (sym c.just.view_is ∙ ap just_view c.in-Simple.is) c.told_from.ensures

pub returns-in-Proof : goal.returns-in-Proof
returns-in-Proof c = told_proof c.args.walker.env.now c.args.ctx.now c.args.semicolon c.args.count c.args.just.now _ _ _ c.args.sides.now c.args.r (sym c.just.view_is ∙ ap just_view c.in-Proof.is)
