use Rattle.mz_heading.proofs.HeadingLemmas.{told_many_as, told_put}
use Rattle.mz_heading.proofs.atoms.put_attribute.Goals as goal

pub returns-then-not-has_few_loci : goal.returns-then-not-has_few_loci
returns-then-not-has_few_loci g c = told_many_as _ c.args.least c.args.s.now c.args.s.now _ _ _ c.args.ws.now c.args.behind c.args.os.now c.args.os.now c.has_few_loci.result c.too_large.result c.has_few_loci.ensures c.if-not-has_few_loci.true c.too_large.ensures

pub returns : goal.returns
returns g c =
    told_put c.args.least c.args.s.now c.take_owing.new.s _ _ c.in_ok-label.label _ c.in_ok-item.item.value c.args.ws.now c.args.behind c.args.os.now c.take_owing.new.os c.take_owing.result c.in_ok-label.ensures c.in_ok-item.ensures c.take_owing.ensures
