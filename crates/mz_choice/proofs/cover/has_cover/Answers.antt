use Rattle.std.proofs.Common.{◌∙◌, ◌∷◌, ap, map, sym}
use Rattle.std.specs.Arc.{arc_value}
use Rattle.mz_choice.proofs.CoverLemmas.{told_this, told_not_this, told_twice}
use Rattle.mz_choice.proofs.cover.has_cover.Goals as goal

pub returns-then-here-clause-covers : goal.returns-then-here-clause-covers
returns-then-here-clause-covers c =
    told_this _ _ _ _ _ _ _ (map arc_value c.in-Some.others.now) _ _ (ap (map arc_value) c.in-Some.ensures.cases.0 ∙ ap (λ x. x ∷ map arc_value c.in-Some.others.now) (sym c.deref.ensures)) c.loop-r.invariant.0 c.in_ok-here.ensures.covers c.if-here.true c.loop-r.invariant.1

pub loop-r-preserved : goal.loop-r-preserved
loop-r-preserved c = (
  told_twice _ _ _ c.loop-r.invariant.0 c.covers_by_chain.ensures.same,
  told_not_this _ _ _ _ _ _ _ (map arc_value c.in-Some.others.now) _ _ (ap (map arc_value) c.in-Some.ensures.cases.0 ∙ ap (λ x. x ∷ map arc_value c.in-Some.others.now) (sym c.deref.ensures)) c.loop-r.invariant.0 c.in_ok-here.ensures.covers c.if-here.false c.loop-r.invariant.1,
)
