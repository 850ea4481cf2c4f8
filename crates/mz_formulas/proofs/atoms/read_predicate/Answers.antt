use Rattle.mz_formulas.proofs.AtomLemmas.{told_both_read}
use Rattle.mz_formulas.proofs.atoms.read_predicate.Goals as goal

pub returns-in_ok-o-in-Ok-2 : goal.returns-in_ok-o-in-Ok-2
returns-in_ok-o-in-Ok-2 c =
    told_both_read _ _ _ _ _ _ _ _ _ _ _ _ _ c.in_ok-r.ensures c.in-Ok.is c.in_ok-r-in-Ok.ensures c.in-Ok-2.is c.first_of-first.ensures c.in_ok-a-in-Ok-2.ensures c.in_ok-o-in-Ok-2.ensures
