use Rattle.std.proofs.Common.{◌≡◌, ap, sym, ◌∙◌}
use Rattle.mz_logic.specs.Formula.{All}
use Rattle.mz_logic.specs.FormulaView.{formula_of}
use Rattle.mz_nf.proofs.SplitLemmas.{told_universal}
use Rattle.mz_nf.proofs.split.+split.Goals as goal

pub split-returns-in_ok-disjuncts-in-All : goal.split-returns-in_ok-disjuncts-in-All
split-returns-in_ok-disjuncts-in-All t c =
    let e : c.args.f.now ≡ All c.in-All.b.value = sym c.f.view_is ∙ ap formula_of c.in-All.is in
    told_universal _ _ _ _ _ _ c.if-positive.true e c.in_ok-disjuncts-in-All.ensures
