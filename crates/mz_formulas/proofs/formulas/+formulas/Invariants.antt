use Rattle.std.proofs.Common.{◌≡◌, drop}
use Rattle.mz_formulas.proofs.ChainLemmas.{GivesDisjunction, GivesConjunction}
use Rattle.mz_formulas.proofs.formulas.+formulas.Given as goal

abbrev pub invariant-read_disjunction-loop-next : goal.invariant-read_disjunction-loop-next
invariant-read_disjunction-loop-next l = GivesDisjunction l.env l.least l.first l.ctx (drop l.next-index l.next-items) l.so_far l.fn.ctx l.node × (l.ctx ≡ l.fn.ctx)

abbrev pub invariant-read_conjunction-loop-next : goal.invariant-read_conjunction-loop-next
invariant-read_conjunction-loop-next l = GivesConjunction l.env l.least l.first l.ctx (drop l.next-index l.next-items) l.so_far l.fn.ctx l.node × (l.ctx ≡ l.fn.ctx)
