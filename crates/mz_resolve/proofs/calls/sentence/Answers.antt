use Rattle.std.proofs.Common.{subst}
use Rattle.mz_tree.specs.Places.{first_place}
use Rattle.mz_tree.specs.Spell.{spell_formula}
use Rattle.mz_resolve.specs.Calls.{sentence_nodes}
use Rattle.mz_formulas.specs.Sentences.{ReadsSentence}
use Rattle.mz_resolve.proofs.CallLemmas.{told_beyond}
use Rattle.mz_resolve.proofs.calls.sentence.Goals as goal

pub returns-else-branch-clause-reads : goal.returns-else-branch-clause-reads
returns-else-branch-clause-reads c =
    told_beyond (ReadsSentence c.args.env.now c.args.least c.args.ctx.now c.args.tree.now) sentence_nodes (first_place (spell_formula c.args.tree.now)) c.args.left.now c.spend.new.left _ c.in-Ok.s _ _ _ _ (subst (λ z. ReadsSentence c.args.env.now c.args.least c.args.ctx.now z c.in_ok-r.field-0) c.node.ensures c.in_ok-r.ensures.reads) c.in-Ok.is c.first_place.ensures c.budget.ensures c.after_statement-rest.ensures c.in_ok-spend-in-Ok.ensures c.if-branch.false
