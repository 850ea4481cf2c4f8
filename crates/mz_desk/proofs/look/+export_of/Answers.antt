use Rattle.std.proofs.Common.{ap, arith}
use Rattle.std.specs.Arc.{arc_value}
use Rattle.mz_desk.proofs.DifferenceLemmas.{nil_is}
use Rattle.mz_desk.proofs.LookLemmas.{none_named, first_named, later_named}
use Rattle.mz_desk.proofs.look.+export_of.Goals as goal

pub returns-in-None : goal.returns-in-None
returns-in-None t c = none_named arc_value c.args.exports.now c.args.name.now.number (nil_is c.args.exports.now c.in-None.ensures.cases)

pub returns-then-deref-name : goal.returns-then-deref-name
returns-then-deref-name t c =
    let number = ap (λ x. x.name.number) c.deref.ensures in (
      first_named arc_value c.args.exports.now c.in-Some.e.now c.in-Some.rest.now c.in-Some.ensures.cases.0,
      omega (arith, c.if-deref-name.true, number),
    )

pub returns-else-deref-name : goal.returns-else-deref-name
returns-else-deref-name t c =
    let number = ap (λ x. x.name.number) c.deref.ensures in
    later_named arc_value (λ z. arc_value z.now) c.args.exports.now c.in-Some.e.now c.in-Some.rest.now c.args.name.now.number c.export_of.result c.in-Some.ensures.cases.0
    (λ h. let differ = c.if-deref-name.false in grind (arith, differ, number, h)) c.export_of.ensures
