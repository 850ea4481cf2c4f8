use Rattle.std.proofs.Common.{subst}
use Rattle.mz_tree.specs.Places.{first_place}
use Rattle.mz_tree.specs.Spell.{spell_term}
use Rattle.mz_ground.specs.Instance.{term_nodes}
use Rattle.mz_formulas.specs.Atoms.{ReadsTerm}
use Rattle.mz_resolve.proofs.CallLemmas.{told_counted, told_beyond}
use Rattle.mz_resolve.proofs.calls.term.Goals as goal

pub returns-then-branch : goal.returns-then-branch
returns-then-branch c =
    told_counted (ReadsTerm c.args.env.now c.args.ctx.now c.args.least c.args.tree.now) term_nodes (first_place (spell_term c.args.tree.now)) c.args.left.now c.spend.new.left _ c.in-Ok.t _ _ _ (subst (λ z. ReadsTerm c.args.env.now c.args.ctx.now c.args.least z c.in_ok-r.field-0) c.node.ensures c.in_ok-r.ensures) c.in-Ok.is c.budget.ensures c.after_term-rest.ensures c.in_ok-spend-in-Ok.ensures c.if-branch.true

pub returns-else-branch : goal.returns-else-branch
returns-else-branch c =
    told_beyond (ReadsTerm c.args.env.now c.args.ctx.now c.args.least c.args.tree.now) term_nodes (first_place (spell_term c.args.tree.now)) c.args.left.now c.spend.new.left _ c.in-Ok.t _ _ _ _ (subst (λ z. ReadsTerm c.args.env.now c.args.ctx.now c.args.least z c.in_ok-r.field-0) c.node.ensures c.in_ok-r.ensures) c.in-Ok.is c.first_place.ensures c.budget.ensures c.after_term-rest.ensures c.in_ok-spend-in-Ok.ensures c.if-branch.false
