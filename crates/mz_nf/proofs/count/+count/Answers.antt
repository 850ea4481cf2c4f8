use Rattle.std.proofs.Common.{◌≡◌, ap, sym, ◌∙◌, true, false}
use Rattle.mz_logic.specs.Formula.{Formula, And}
use Rattle.mz_logic.specs.FormulaView.{formula_of}
use Rattle.mz_logic.specs.Capped.{capped}
use Rattle.mz_nf.specs.Count.{count}
use Rattle.mz_nf.proofs.CountLemmas.{told_conjunction, told_conjunction_negated}
use Rattle.mz_nf.proofs.count.+count.Goals as goal

pub returns-then-positive-3 : goal.returns-then-positive-3
returns-then-positive-3 t c =
    let e : c.args.f.now ≡ And c.in-And.g.value c.in-And.h.value = sym c.f.view_is ∙ ap formula_of c.in-And.is in
    told_conjunction _ _ _ _ _ _ _ c.if-positive-3.true e c.capped_product.ensures
    (c.count-then-positive-3.ensures ∙ ap (λ (x : Formula). capped (count true x)) c.deref-then-positive-3.ensures)
    (c.count-then-positive-3-2.ensures ∙ ap (λ (x : Formula). capped (count true x)) c.deref-then-positive-3-2.ensures)

pub returns-else-positive-3 : goal.returns-else-positive-3
returns-else-positive-3 t c =
    let e : c.args.f.now ≡ And c.in-And.g.value c.in-And.h.value = sym c.f.view_is ∙ ap formula_of c.in-And.is in
    told_conjunction_negated _ _ _ _ _ _ _ c.if-positive-3.false e c.capped_sum.ensures
    (c.count-else-positive-3.ensures ∙ ap (λ (x : Formula). capped (count false x)) c.deref-else-positive-3.ensures)
    (c.count-else-positive-3-2.ensures ∙ ap (λ (x : Formula). capped (count false x)) c.deref-else-positive-3-2.ensures)
