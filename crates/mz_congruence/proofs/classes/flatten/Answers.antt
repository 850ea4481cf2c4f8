use Rattle.std.proofs.Common.{arith, ◌∙◌, ◌<◌, length}
use Rattle.mz_congruence.proofs.RootLemmas.{compressed, flat_at_end}
use Rattle.mz_congruence.proofs.classes.flatten.Goals as goal

pub loop-k-preserved : goal.loop-k-preserved
loop-k-preserved c =
    let lt : c.loop-k.k < length c.loop-k.c = omega arith in
    let p = compressed _ _ _ lt c.loop-k.invariant.descends c.loop-k.invariant.flat c.parent-up.ensures in
    record {
      len = p.len ∙ c.loop-k.invariant.len;
      descends = p.descends;
      flat = p.flat;
      roots = λ i. p.roots i ∙ c.loop-k.invariant.roots i;
      less = omega (arith, p.less, c.loop-k.invariant.less);
    }

pub returns-clause-flat : goal.returns-clause-flat
returns-clause-flat c = flat_at_end _ _ c.loop-k.invariant.descends (omega arith) c.loop-k.invariant.flat
