use Rattle.std.proofs.Common.{refl, sym, ◌∙◌}
use Rattle.mz_defined.specs.Headed.{bad_loci}
use Rattle.mz_defined.specs.Atoms.{AtomRead, predicate_of, predicate_heading}
use Rattle.mz_heading.proofs.HeadingLemmas.{unread, read_so}
use Rattle.mz_heading.proofs.atoms.take_predicate_by.Goals as goal

pub returns-in-None : goal.returns-in-None
returns-in-None g c = bad_loci (sym c.in_ok-predicate_loci.ensures ∙ c.in-None.is)

pub returns-in-Err : goal.returns-in-Err
returns-in-Err g c =
    unread c.args.least c.args.s.now _ (predicate_heading c.args.least c.args.s.now.context c.args.t.now) (AtomRead c.args.least c.args.s.now c.args.f.now) c.args.ws.now c.args.behind c.in-Some.v c.read_atom.new.s.left c.read_atom.result c.in-Err.fault c.of_reading.result _ _
    (sym c.in_ok-predicate_loci.ensures ∙ c.in-Some.is) c.read_atom.ensures.reads c.in-Err.is c.of_reading.ensures

pub returns-in-Ok : goal.returns-in-Ok
returns-in-Ok g c =
    read_so c.args.least c.args.s.now c.read_atom.new.s _ (predicate_heading c.args.least c.args.s.now.context c.args.t.now) (λ d. predicate_of c.args.least d c.args.t.now.pattern) (AtomRead c.args.least c.args.s.now c.args.f.now) c.args.ws.now c.args.behind c.in-Some.v c.read_atom.result c.in-Ok.x c.put_predicate.result _ _
    refl (sym c.in_ok-predicate_loci.ensures ∙ c.in-Some.is) c.read_atom.ensures.reads c.in-Ok.is c.read_atom.ensures.same c.put_predicate.ensures
