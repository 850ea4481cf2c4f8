use Rattle.std.proofs.Common.{refl, sym, ◌∙◌}
use Rattle.mz_defined.specs.Headed.{bad_loci}
use Rattle.mz_defined.specs.Functors.{MeansReadAt, means_functor, means_functor_heading}
use Rattle.mz_heading.proofs.HeadingLemmas.{unread, read_so}
use Rattle.mz_heading.proofs.functors.take_means.Goals as goal

pub returns-in-None : goal.returns-in-None
returns-in-None g c = bad_loci (sym c.in_ok-functor_visible.ensures ∙ c.in-None.is)

pub returns-in-Err : goal.returns-in-Err
returns-in-Err g c =
    unread c.args.least c.args.s.now _ (means_functor_heading c.args.least c.args.s.now.context c.args.t.now) (MeansReadAt c.args.least c.args.s.now c.args.t.now.result c.args.f.now) c.args.ws.now c.args.behind c.in-Some.v c.read_means.new.s.left c.read_means.result c.in-Err.fault c.of_reading.result _ _
    (sym c.in_ok-functor_visible.ensures ∙ c.in-Some.is) c.read_means.ensures.reads c.in-Err.is c.of_reading.ensures

pub returns-in-Ok : goal.returns-in-Ok
returns-in-Ok g c =
    read_so c.args.least c.args.s.now c.read_means.new.s _ (means_functor_heading c.args.least c.args.s.now.context c.args.t.now) (λ d. means_functor c.args.least d c.args.t.now.pattern) (MeansReadAt c.args.least c.args.s.now c.args.t.now.result c.args.f.now) c.args.ws.now c.args.behind c.in-Some.v c.read_means.result c.in-Ok.x c.put_means.result _ _
    refl (sym c.in_ok-functor_visible.ensures ∙ c.in-Some.is) c.read_means.ensures.reads c.in-Ok.is c.read_means.ensures.same c.put_means.ensures
