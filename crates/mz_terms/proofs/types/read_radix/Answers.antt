use Rattle.mz_terms.proofs.TypeLemmas.{told_terms_read}
use Rattle.mz_terms.proofs.types.read_radix.Goals as goal

pub returns-in_ok-o-in-Ok : goal.returns-in_ok-o-in-Ok
returns-in_ok-o-in-Ok c = told_terms_read _ _ _ _ _ _ _ _ _ _ _ c.in_ok-r.ensures c.in-Ok.is c.radix_kind-kind.ensures c.radix_in-w.ensures c.new-left.ensures c.in_ok-a-in-Ok.ensures c.in_ok-o-in-Ok.ensures
