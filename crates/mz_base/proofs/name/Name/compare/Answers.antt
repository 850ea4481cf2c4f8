use Rattle.std.proofs.Common.{◌∙◌}
use Rattle.mz_base.proofs.NameOrder.{nat_cmp-text_of}
use Rattle.mz_base.proofs.name.Name.compare.Goals as goal

pub returns-clause-bytes : goal.returns-clause-bytes
returns-clause-bytes c =
    let first = c.args.self.now in
    let second = c.args.other.now in
    c.cmp.ensures ∙ nat_cmp-text_of first.number second.number first.named second.named first.spelled second.spelled
