use Rattle.std.proofs.Common.{length}
use Rattle.mz_choice.specs.Fresh.{Grown}
use Rattle.mz_formulas.specs.Declarations.{declaring_at}
use Rattle.mz_parts.proofs.DeclarationLemmas.{Gives}
use Rattle.mz_parts.proofs.declarations.declare_each.Given as goal

abbrev pub invariant-loop-next : goal.invariant-loop-next
invariant-loop-next l = Gives l.env l.least (declaring_at l.ctx l.vs l.waiting.items) l.left l.rest (declaring_at l.initial.ctx l.initial.vs l.initial.waiting.items) l.initial.left l.nodes × Grown l.initial.ctx l.ctx

abbrev pub decreases-loop-next : goal.decreases-loop-next
decreases-loop-next l = length l.rest
