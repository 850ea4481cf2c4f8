use Rattle.std.proofs.Common.{ap, arith}
use Rattle.std.specs.Arc.{arc_value}
use Rattle.mz_env.proofs.FindLemmas.{export_named-none_found, export_named-here_found, later_found}
use Rattle.mz_env.proofs.visits.+export_named.Goals as goal

pub returns-in-None : goal.returns-in-None
returns-in-None t c = export_named-none_found arc_value c.args.exports.now c.args.number c.in-None.ensures.cases

pub returns-then-deref-number : goal.returns-then-deref-number
returns-then-deref-number t c =
    let number = ap (λ x. x.name.number) c.deref.ensures in
    export_named-here_found arc_value c.args.exports.now c.in-Some.e.now c.in-Some.rest.now c.args.number c.in-Some.ensures.cases.0 (omega (arith, c.if-deref-number.true, number))

pub returns-else-deref-number : goal.returns-else-deref-number
returns-else-deref-number t c =
    let number = ap (λ x. x.name.number) c.deref.ensures in
    later_found arc_value (λ z. arc_value z.now) c.args.exports.now c.in-Some.e.now c.in-Some.rest.now c.args.number c.export_named.result c.in-Some.ensures.cases.0
    (λ h. let differ = c.if-deref-number.false in grind (arith, differ, number, h)) c.export_named.ensures
