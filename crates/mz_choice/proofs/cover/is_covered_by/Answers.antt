use Rattle.std.proofs.Common.{◌∙◌, ap, length, sym}
use Rattle.mz_choice.proofs.CoverLemmas.{told_no_adjectives, told_by_registration}
use Rattle.mz_choice.proofs.cover.is_covered_by.Goals as goal

pub returns-then-count-eq0-clause-covered : goal.returns-then-count-eq0-clause-covered
returns-then-count-eq0-clause-covered c =
    told_no_adjectives _ _ _ _ (sym (ap length (c.as_slice-xs.ensures.value ∙ ap (λ t. t.adjectives) c.ty.view_is)) ∙ c.if-count-eq0.true)

pub returns-clause-covered : goal.returns-clause-covered
returns-clause-covered c =
    told_by_registration _ _ _ _ _ _ _ _ _ (λ z. c.if-count-eq0.false (ap length (c.as_slice-xs.ensures.value ∙ ap (λ t. t.adjectives) c.ty.view_is) ∙ z))
    c.in_ok-alone.ensures c.in_ok-fit.ensures.fits c.if-fit.false c.fit_fresh.ensures.same c.as_slice-rs.ensures c.in_ok-covered.ensures.covers
