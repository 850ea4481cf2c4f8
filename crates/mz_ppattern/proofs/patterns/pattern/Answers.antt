use Rattle.std.proofs.Common.{rules, ◌≡◌, ◌∙◌, sym}
use Rattle.std.proofs.lemmas.Result.{err_from_is_err_and}
use Rattle.mz_forms.proofs.Leads.{passes}
use Rattle.mz_ppattern.specs.declared.patterns.PatternKind.TheVariants as kinds
use Rattle.mz_ppattern.specs.Classes.{kind_next}
use Rattle.mz_ppattern.specs.Forms.{functor_pattern_form, predicate_pattern_form, attribute_pattern_form, mode_pattern_form, pattern_form}
use Rattle.mz_ppattern.proofs.KindSteps.{functor_pattern, predicate_pattern, attribute_pattern, mode_pattern}
use Rattle.mz_ppattern.proofs.PatternSteps.{functor_leads, predicate_leads, attribute_leads, mode_leads}
use Rattle.mz_ppattern.proofs.patterns.pattern.Goals as goal

pub returns-in_err-pattern-in-Functor : goal.returns-in_err-pattern-in-Functor
returns-in_err-pattern-in-Functor c =
    let p = err_from_is_err_and c.from_residual.result c.from_residual.ensures.1 in
    let h : kind_next c.args.reader.now.rest.now ≡ kinds.Functor = sym c.kind_next.ensures ∙ c.in-Functor.is in
    rw (p.1, p.2) (passes pattern_form functor_pattern_form _ functor_pattern _ _ _ _ (functor_leads _ _ h) c.in_err-pattern-in-Functor.ensures)

pub returns-in_ok-pattern-in-Functor : goal.returns-in_ok-pattern-in-Functor
returns-in_ok-pattern-in-Functor c =
    let h : kind_next c.args.reader.now.rest.now ≡ kinds.Functor = sym c.kind_next.ensures ∙ c.in-Functor.is in
    (functor_leads c.args.room _ h).finds _ _ c.in_ok-pattern-in-Functor.ensures

pub returns-in_err-pattern-in-Predicate : goal.returns-in_err-pattern-in-Predicate
returns-in_err-pattern-in-Predicate c =
    let p = err_from_is_err_and c.from_residual-in_err-pattern-in-Predicate.result c.from_residual-in_err-pattern-in-Predicate.ensures.1 in
    let h : kind_next c.args.reader.now.rest.now ≡ kinds.Predicate = sym c.kind_next.ensures ∙ c.in-Predicate.is in
    rw (p.1, p.2) (passes pattern_form predicate_pattern_form _ predicate_pattern _ _ _ _ (predicate_leads _ _ h) c.in_err-pattern-in-Predicate.ensures)

pub returns-in_ok-pattern-in-Predicate : goal.returns-in_ok-pattern-in-Predicate
returns-in_ok-pattern-in-Predicate c =
    let h : kind_next c.args.reader.now.rest.now ≡ kinds.Predicate = sym c.kind_next.ensures ∙ c.in-Predicate.is in
    (predicate_leads c.args.room _ h).finds _ _ c.in_ok-pattern-in-Predicate.ensures

pub returns-in_err-pattern-in-Attribute : goal.returns-in_err-pattern-in-Attribute
returns-in_err-pattern-in-Attribute c =
    let p = err_from_is_err_and c.from_residual-in_err-pattern-in-Attribute.result c.from_residual-in_err-pattern-in-Attribute.ensures.1 in
    let h : kind_next c.args.reader.now.rest.now ≡ kinds.Attribute = sym c.kind_next.ensures ∙ c.in-Attribute.is in
    rw (p.1, p.2) (passes pattern_form attribute_pattern_form _ attribute_pattern _ _ _ _ (attribute_leads _ _ h) c.in_err-pattern-in-Attribute.ensures)

pub returns-in_ok-pattern-in-Attribute : goal.returns-in_ok-pattern-in-Attribute
returns-in_ok-pattern-in-Attribute c =
    let h : kind_next c.args.reader.now.rest.now ≡ kinds.Attribute = sym c.kind_next.ensures ∙ c.in-Attribute.is in
    (attribute_leads c.args.room _ h).finds _ _ c.in_ok-pattern-in-Attribute.ensures

pub returns-in_err-pattern-in-Mode : goal.returns-in_err-pattern-in-Mode
returns-in_err-pattern-in-Mode c =
    let p = err_from_is_err_and c.from_residual-in_err-pattern-in-Mode.result c.from_residual-in_err-pattern-in-Mode.ensures.1 in
    let h : kind_next c.args.reader.now.rest.now ≡ kinds.Mode = sym c.kind_next.ensures ∙ c.in-Mode.is in
    rw (p.1, p.2) (passes pattern_form mode_pattern_form _ mode_pattern _ _ _ _ (mode_leads _ _ h) c.in_err-pattern-in-Mode.ensures)

pub returns-in_ok-pattern-in-Mode : goal.returns-in_ok-pattern-in-Mode
returns-in_ok-pattern-in-Mode c =
    let h : kind_next c.args.reader.now.rest.now ≡ kinds.Mode = sym c.kind_next.ensures ∙ c.in-Mode.is in
    (mode_leads c.args.room _ h).finds _ _ c.in_ok-pattern-in-Mode.ensures
