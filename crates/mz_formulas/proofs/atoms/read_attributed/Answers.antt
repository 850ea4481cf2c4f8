use Rattle.mz_formulas.proofs.AtomLemmas.{told_own_read}
use Rattle.mz_formulas.proofs.atoms.read_attributed.Goals as goal

pub returns-in_ok-o-in-Ok : goal.returns-in_ok-o-in-Ok
returns-in_ok-o-in-Ok c =
    told_own_read _ _ _ _ _ _ _ _ _ _ _ _ c.in_ok-r.ensures c.in-Ok.is c.first_place-first.ensures c.is_denied-non.ensures c.attribute_in-w.ensures c.in_ok-a-in-Ok.ensures c.in_ok-o-in-Ok.ensures
