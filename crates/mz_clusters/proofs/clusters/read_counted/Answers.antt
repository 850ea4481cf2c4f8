use Rattle.mz_tree.specs.Places.{first_place}
use Rattle.mz_tree.specs.Spell.{spell_adjective}
use Rattle.mz_tree.specs.Views.{adjective_of}
use Rattle.mz_sizes.specs.Sizes.{adjective_nodes}
use Rattle.mz_terms.specs.Adjectives.{ReadsAdjective}
use Rattle.mz_resolve.proofs.CallLemmas.{told_counted, told_beyond}
use Rattle.mz_clusters.proofs.clusters.read_counted.Goals as goal

pub returns-then-branch : goal.returns-then-branch
returns-then-branch c =
    told_counted (ReadsAdjective c.args.env.now c.args.ctx.now c.args.least c.args.wanted.now c.args.subject.now (adjective_of c.args.node.now)) adjective_nodes (first_place (spell_adjective (adjective_of c.args.node.now))) c.args.left.now c.spend.new.left _ c.in-Ok.a _ _ _ c.in_ok-r.ensures c.in-Ok.is c.budget.ensures c.after_adjective-rest.ensures c.in_ok-spend-in-Ok.ensures c.if-branch.true

pub returns-else-branch : goal.returns-else-branch
returns-else-branch c =
    told_beyond (ReadsAdjective c.args.env.now c.args.ctx.now c.args.least c.args.wanted.now c.args.subject.now (adjective_of c.args.node.now)) adjective_nodes (first_place (spell_adjective (adjective_of c.args.node.now))) c.args.left.now c.spend.new.left _ c.in-Ok.a _ _ _ _ c.in_ok-r.ensures c.in-Ok.is c.first_place.ensures c.budget.ensures c.after_adjective-rest.ensures c.in_ok-spend-in-Ok.ensures c.if-branch.false
