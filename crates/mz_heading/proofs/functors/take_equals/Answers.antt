use Rattle.std.proofs.Common.{refl, sym, ◌∙◌}
use Rattle.mz_defined.specs.Headed.{bad_loci}
use Rattle.mz_defined.specs.Functors.{EqualsReadAt, equals_functor, equals_functor_heading}
use Rattle.mz_heading.proofs.HeadingLemmas.{unread, read_so}
use Rattle.mz_heading.proofs.functors.take_equals.Goals as goal

pub returns-in-None : goal.returns-in-None
returns-in-None g c = bad_loci (sym c.in_ok-functor_visible.ensures ∙ c.in-None.is)

pub returns-in-Err : goal.returns-in-Err
returns-in-Err g c =
    unread c.args.least c.args.s.now _ (equals_functor_heading c.args.least c.args.s.now.context c.args.t.now) (EqualsReadAt c.args.least c.args.s.now c.args.t.now.result c.args.u.now) c.args.ws.now c.args.behind c.in-Some.v c.read_equals.new.s.left c.read_equals.result c.in-Err.fault c.of_reading.result _ _
    (sym c.in_ok-functor_visible.ensures ∙ c.in-Some.is) c.read_equals.ensures.reads c.in-Err.is c.of_reading.ensures

pub returns-in-Ok : goal.returns-in-Ok
returns-in-Ok g c =
    read_so c.args.least c.args.s.now c.read_equals.new.s _ (equals_functor_heading c.args.least c.args.s.now.context c.args.t.now) (λ d. equals_functor c.args.least d c.args.t.now.pattern) (EqualsReadAt c.args.least c.args.s.now c.args.t.now.result c.args.u.now) c.args.ws.now c.args.behind c.in-Some.v c.read_equals.result c.in-Ok.x c.put_equals.result _ _
    refl (sym c.in_ok-functor_visible.ensures ∙ c.in-Some.is) c.read_equals.ensures.reads c.in-Ok.is c.read_equals.ensures.same c.put_equals.ensures
