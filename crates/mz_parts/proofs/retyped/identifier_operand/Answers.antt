use Rattle.mz_parts.proofs.TermLemmas.{told_operand}
use Rattle.mz_parts.proofs.retyped.identifier_operand.Goals as goal

pub returns : goal.returns
returns c = told_operand _ _ _ c.new-2.ensures.items c.in_ok-base.ensures.ok c.in_ok-w.ensures
