use Rattle.mz_run.proofs.WriteLemmas.{part_on_err}
use Rattle.mz_run.proofs.output.write_output.Goals as goal

pub returns-in-Ok-clause-part : goal.returns-in-Ok-clause-part
returns-in-Ok-clause-part g c =
    part_on_err c.write_all-in-Ok.result _ _ _ c.args.output.now.report c.args.output.now.listing _ _ c.as_slice.ensures c.as_slice-in-Ok.ensures c.in-Ok.ensures.all c.write_all-in-Ok.ensures.part
