use Rattle.mz_performing.proofs.SetLemmas.{told_considers, told_reconsiders, told_sets, told_private_functor, told_private_predicate}
use Rattle.mz_performing.proofs.introductions.introduce.Goals as goal

pub returns-in-Consider : goal.returns-in-Consider
returns-in-Consider c = told_considers _ _ _ _ _ _ _ _ _ _ c.in-Consider.is c.considers.ensures

pub returns-in-Reconsider : goal.returns-in-Reconsider
returns-in-Reconsider c = told_reconsiders _ _ _ _ _ _ _ _ _ _ c.in-Reconsider.is c.reconsiders.ensures

pub returns-in-Set : goal.returns-in-Set
returns-in-Set c = told_sets _ _ _ _ _ _ _ _ _ c.in-Set.is c.set_all.ensures

pub returns-in-Deffunc : goal.returns-in-Deffunc
returns-in-Deffunc c = told_private_functor _ _ _ _ _ _ _ _ _ c.in-Deffunc.is c.define_functor.ensures

pub returns-in-Defpred : goal.returns-in-Defpred
returns-in-Defpred c = told_private_predicate _ _ _ _ _ _ _ _ _ c.in-Defpred.is c.define_predicate.ensures
