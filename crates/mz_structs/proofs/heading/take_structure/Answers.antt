use Rattle.std.proofs.Common.{◌∙◌}
use Rattle.mz_structs.proofs.HeadingLemmas.{told_structure}
use Rattle.mz_structs.proofs.heading.take_structure.Goals as goal

pub returns-else-not-few : goal.returns-else-not-few
returns-else-not-few c =
    told_structure c.args.least c.args.s.now c.take_ancestors.new.s c.args.t.now c.args.ws.now c.in_ok-loci.loci c.in-Some.v c.as_slice.result.now c.has_few-few.result c.take_ancestors.result c.in_ok-loci.ensures c.in-Some.is (c.as_slice.ensures.value ∙ c.in_ok-names-in-Some.ensures) c.has_few-few.ensures c.if-not-few.false c.take_ancestors.ensures
