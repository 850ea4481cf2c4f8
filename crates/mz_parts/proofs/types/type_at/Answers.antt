use Rattle.mz_tree.specs.Places.{first_place}
use Rattle.mz_tree.specs.Spell.{spell_type}
use Rattle.mz_tree.specs.Views.{type_of}
use Rattle.mz_sizes.specs.Sizes.{type_nodes}
use Rattle.mz_terms.specs.Types.{ReadsType}
use Rattle.mz_resolve.proofs.CallLemmas.{told_counted, told_beyond}
use Rattle.mz_parts.proofs.types.type_at.Goals as goal

pub returns-then-branch-clause-reads : goal.returns-then-branch-clause-reads
returns-then-branch-clause-reads c =
    told_counted (ReadsType c.args.env.now c.args.ctx.now c.args.least (type_of c.args.node.now)) type_nodes (first_place (spell_type (type_of c.args.node.now))) c.args.left.now c.spend.new.left _ c.in-Ok.t _ _ _ c.in_ok-r.ensures.reads c.in-Ok.is c.budget.ensures c.after_type-rest.ensures c.in_ok-spend-in-Ok.ensures c.if-branch.true

pub returns-else-branch-clause-reads : goal.returns-else-branch-clause-reads
returns-else-branch-clause-reads c =
    told_beyond (ReadsType c.args.env.now c.args.ctx.now c.args.least (type_of c.args.node.now)) type_nodes (first_place (spell_type (type_of c.args.node.now))) c.args.left.now c.spend.new.left _ c.in-Ok.t _ _ _ _ c.in_ok-r.ensures.reads c.in-Ok.is c.first_place.ensures c.budget.ensures c.after_type-rest.ensures c.in_ok-spend-in-Ok.ensures c.if-branch.false
