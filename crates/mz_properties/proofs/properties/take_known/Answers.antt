use Rattle.std.proofs.Common.{ap, ◌∙◌}
use Rattle.mz_core.specs.declared.property.Property.{Property}
use Rattle.mz_conditions.specs.Conditions.{plain_sentence}
use Rattle.mz_loci.specs.Loci.{statement_at_loci}
use Rattle.mz_properties.specs.Properties.{stated, property_keeps}
use Rattle.mz_properties.proofs.PropertyLemmas.{told_too_large, told_unjudged, told_judged}
use Rattle.mz_properties.proofs.properties.take_known.Goals as goal

pub returns-then-not-keeps : goal.returns-then-not-keeps
returns-then-not-keeps g c =
    told_too_large _ c.args.least c.args.count c.args.p.value c.args.s.now c.args.s.now c.args.t.now c.args.os.now c.args.os.now c.in_ok-keeps.keeps c.too_large.result (c.in_ok-keeps.ensures ∙ ap (λ (q : Property). property_keeps q) c.deref.ensures) c.if-not-keeps.true c.too_large.ensures

pub returns-in-Err : goal.returns-in-Err
returns-in-Err g c =
    told_unjudged _ c.args.least c.args.count c.args.p.value c.args.s.now c.judge.new.s _ c.args.t.now c.in_ok-y.y c.args.os.now c.judge.new.os _ c.in_ok-keeps.keeps c.judge.result c.in-Err.fault c.of_reasoning.result (c.in_ok-keeps.ensures ∙ ap (λ (q : Property). property_keeps q) c.deref.ensures) c.if-not-keeps.false (c.in_ok-y.ensures ∙ ap (λ (q : Property). plain_sentence (statement_at_loci c.args.least c.args.count (stated q))) c.deref-2.ensures) c.judge.ensures.justifies c.in-Err.is c.of_reasoning.ensures

pub returns-in_ok-put_property-in-Ok : goal.returns-in_ok-put_property-in-Ok
returns-in_ok-put_property-in-Ok g c =
    told_judged c.args.least c.args.count c.args.p.value c.args.s.now c.judge.new.s c.put_property.new.s c.args.t.now c.in_ok-y.y c.args.os.now c.judge.new.os c.in_ok-keeps.keeps c.judge.result c.in-Ok.field-0 (c.in_ok-keeps.ensures ∙ ap (λ (q : Property). property_keeps q) c.deref.ensures) c.if-not-keeps.false (c.in_ok-y.ensures ∙ ap (λ (q : Property). plain_sentence (statement_at_loci c.args.least c.args.count (stated q))) c.deref-2.ensures) c.judge.ensures.justifies
    c.in-Ok.is c.judge.ensures.same c.in_ok-put_property-in-Ok.ensures
