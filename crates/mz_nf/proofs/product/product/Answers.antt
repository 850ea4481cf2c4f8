use Rattle.std.proofs.Common.{◌≡◌, List, sym, subst, arith, length}
use Rattle.std.specs.Prelude.{IfOk}
use Rattle.mz_logic.specs.declared.disjunct.Disjunct.{Disjunct}
use Rattle.mz_nf.proofs.PairLemmas.{pairs-one}
use Rattle.mz_nf.proofs.product.product.Goals as goal

pub returns-then-len-eq1 : goal.returns-then-len-eq1
returns-then-len-eq1 c =
    subst (λ (x : List Disjunct). IfOk c.appended_to_each.result (λ fs. fs ≡ x)) (sym (pairs-one c.args.ds c.args.es.now c.get.result.now (omega (arith, c.len.ensures, c.if-len-eq1.true)) c.get.ensures)) c.appended_to_each.ensures
