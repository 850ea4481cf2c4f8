use Rattle.std.proofs.Common.{◌≡◌, ap, sym, ◌∙◌, subst, false}
use Rattle.mz_logic.specs.Formula.{Formula, All}
use Rattle.mz_logic.specs.FormulaView.{formula_of}
use Rattle.mz_nf.specs.Constants.{has}
use Rattle.mz_nf.specs.Takes.{Takes}
use Rattle.mz_nf.proofs.SplitLemmas.{took_universal, took_universal_negated}
use Rattle.mz_nf.proofs.split.+passed.Goals as goal

pub returns-then-positive : goal.returns-then-positive
returns-then-positive t c =
    let e : c.args.f.now ≡ All c.in-All.b.value = sym c.f.view_is ∙ ap formula_of c.in-All.is in
    took_universal _ _ _ _ _ c.if-positive.true e

pub returns-in_ok-end-in-All : goal.returns-in_ok-end-in-All
returns-in_ok-end-in-All t c =
    let e : c.args.f.now ≡ All c.in-All.b.value = sym c.f.view_is ∙ ap formula_of c.in-All.is in
    took_universal_negated _ _ _ _ _ _ _ _ c.if-positive.false e c.in_ok-number-in-All.ensures c.in_ok-after-in-All.ensures
    (subst (λ (x : Formula). Takes (has c.args.used.now) false x c.in_ok-after-in-All.after c.in_ok-end-in-All.end) c.deref-else-positive.ensures c.in_ok-end-in-All.ensures)
