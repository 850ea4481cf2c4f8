use Rattle.std.proofs.lemmas.Bool.{eqb-true, eq-eqb}
use Rattle.mz_nf.proofs.CountLemmas.{product-told_zero, told_some}
use Rattle.mz_nf.proofs.count.has_no_pair.Goals as goal

pub returns : goal.returns
returns c = (
  (λ e. product-told_zero _ _ _ _ _ c.capped_product.ensures c.count.ensures c.count-2.ensures (eqb-true c.capped_product.result 0 e)),
  (λ z. eq-eqb c.capped_product.result 0 (told_some _ _ _ _ _ c.capped_product.ensures c.count.ensures c.count-2.ensures z)),
)
