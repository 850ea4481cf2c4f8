use Rattle.mz_terms.proofs.TermLemmas.{told_symbol}
use Rattle.mz_terms.proofs.terms.apply_functor.Goals as goal

pub returns : goal.returns
returns c = told_symbol _ _ _ _ _ _ _ _ _ _ _ _ _ _ _ _ c.pop_if-behind.ensures.top c.pop_if-behind.ensures.rest c.pop_if-before.ensures.top c.pop_if-before.ensures.rest c.first_in-first.ensures c.terms_in-ls.ensures c.terms_in-rs.ensures c.in_ok-a.ensures c.in_ok-t.ensures c.in_ok-o.ensures
