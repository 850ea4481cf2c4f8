use Rattle.std.proofs.Common.{◌∙◌, ap}
use Rattle.mz_formulas.specs.Declarations.{reserved_each}
use Rattle.mz_parts.proofs.DeclarationLemmas.{told_not_declared, told_not_reserved, told_declared, told_context}
use Rattle.mz_parts.proofs.declarations.read_declarations.Goals as goal

pub returns-in-Err-clause-reads : goal.returns-in-Err-clause-reads
returns-in-Err-clause-reads c = told_not_declared _ _ _ _ _ _ _ c.node.result.now _ _ _ _ c.node.ensures c.new-vs.ensures c.new-waiting.ensures.items c.declare_all.ensures.declares c.in-Err.is

pub returns-in-Err-2-clause-reads : goal.returns-in-Err-2-clause-reads
returns-in-Err-2-clause-reads c = told_not_reserved _ _ _ _ _ _ _ _ _ _ c.node.result.now _ _ _ _ _ c.node.ensures c.new-vs.ensures c.new-waiting.ensures.items c.declare_all.ensures.declares c.in-Ok.is (c.in_ok-r.ensures ∙ ap (reserved_each c.args.least c.declare_all.new.ctx) c.as_slice.ensures.value) c.in-Err-2.is

pub returns-in_ok-put_more-in-Ok-2-clause-reads : goal.returns-in_ok-put_more-in-Ok-2-clause-reads
returns-in_ok-put_more-in-Ok-2-clause-reads c = told_declared _ _ _ _ _ _ _ _ _ _ _ _ c.node.result.now _ _ _ _ c.node.ensures c.new-vs.ensures c.new-waiting.ensures.items c.declare_all.ensures.declares c.in-Ok.is (c.in_ok-r.ensures ∙ ap (reserved_each c.args.least c.declare_all.new.ctx) c.as_slice.ensures.value) c.in-Ok-2.is c.in_ok-put_more-in-Ok-2.ensures.variables

pub returns-in_ok-put_more-in-Ok-2-clause-context : goal.returns-in_ok-put_more-in-Ok-2-clause-context
returns-in_ok-put_more-in-Ok-2-clause-context c = told_context _ _ _ _ _ _ _ _ _ _ _ _ _ c.node.result.now _ _ _ c.node.ensures c.new-vs.ensures c.new-waiting.ensures.items c.declare_all.ensures.declares c.in-Ok.is c.in_ok-put_more-in-Ok-2.ensures.context c.in_ok-put_more-in-Ok-2.ensures.variables
