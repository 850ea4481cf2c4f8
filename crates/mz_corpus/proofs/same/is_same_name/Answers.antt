use Rattle.std.proofs.Common.{ap}
use Rattle.std.proofs.lemmas.Bool.{eqb-true, eq-eqb}
use Rattle.mz_base.proofs.NameEqual.{Name-equal}
use Rattle.mz_corpus.proofs.same.is_same_name.Goals as goal

pub returns : goal.returns
returns c = (λ same. Name-equal _ _ (eqb-true _ _ same), λ same. eq-eqb _ _ (ap (λ n. n.number) same))
