use Rattle.std.proofs.Common.{sym, ap, ◌∙◌}
use Rattle.mz_tree_proof.specs.Views.{just_view}
use Rattle.mz_compact.proofs.AheadLemmas.{told_simple_keeps, told_proof_keeps}
use Rattle.mz_compact.proofs.ahead.first_keeps.Goals as goal

pub returns-in-Simple : goal.returns-in-Simple
returns-in-Simple c = told_simple_keeps c.args.walker.env.now c.args.ctx.now c.args.linked c.args.just.now _ c.args.s.now _ (sym c.just.view_is ∙ ap just_view c.in-Simple.is) c.justification_keeps.ensures

pub returns-in-Proof : goal.returns-in-Proof
returns-in-Proof c = told_proof_keeps c.args.walker.env.now c.args.ctx.now c.args.linked c.args.just.now _ _ _ c.args.s.now (sym c.just.view_is ∙ ap just_view c.in-Proof.is)
