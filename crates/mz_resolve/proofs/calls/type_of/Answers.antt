use Rattle.std.proofs.Common.{subst}
use Rattle.mz_tree.specs.Places.{first_place}
use Rattle.mz_tree.specs.Spell.{spell_type}
use Rattle.mz_sizes.specs.Sizes.{type_nodes}
use Rattle.mz_formulas.specs.Atoms.{ReadsType}
use Rattle.mz_resolve.proofs.CallLemmas.{told_counted, told_beyond}
use Rattle.mz_resolve.proofs.calls.type_of.Goals as goal

pub returns-then-branch-clause-reads : goal.returns-then-branch-clause-reads
returns-then-branch-clause-reads c =
    told_counted (ReadsType c.args.env.now c.args.ctx.now c.args.least c.args.tree.now) type_nodes (first_place (spell_type c.args.tree.now)) c.args.left.now c.spend.new.left _ c.in-Ok.t _ _ _ (subst (λ z. ReadsType c.args.env.now c.args.ctx.now c.args.least z c.in_ok-r.field-0) c.node.ensures c.in_ok-r.ensures.reads) c.in-Ok.is c.budget.ensures c.after_type-rest.ensures c.in_ok-spend-in-Ok.ensures c.if-branch.true

pub returns-else-branch-clause-reads : goal.returns-else-branch-clause-reads
returns-else-branch-clause-reads c =
    told_beyond (ReadsType c.args.env.now c.args.ctx.now c.args.least c.args.tree.now) type_nodes (first_place (spell_type c.args.tree.now)) c.args.left.now c.spend.new.left _ c.in-Ok.t _ _ _ _ (subst (λ z. ReadsType c.args.env.now c.args.ctx.now c.args.least z c.in_ok-r.field-0) c.node.ensures c.in_ok-r.ensures.reads) c.in-Ok.is c.first_place.ensures c.budget.ensures c.after_type-rest.ensures c.in_ok-spend-in-Ok.ensures c.if-branch.false
