use Rattle.std.proofs.lemmas.Result.{err_from_is_err_and}
use Rattle.mz_pcluster.proofs.Joined.{first_refused, shaped_refused}
use Rattle.mz_pheading.specs.HeadingForms.{heading_form}
use Rattle.mz_pblock.specs.Forms.{owed_form}
use Rattle.mz_pitem.specs.Classes.{is_due}
use Rattle.mz_pitem.specs.Forms.{headed_form}
use Rattle.mz_pitem.proofs.DefinitionSteps.{as_headed, gives_headed, headed_1, joined_headed, make_headed}
use Rattle.mz_pitem.proofs.definitions.headed.Goals as goal

pub returns-in_err-heading : goal.returns-in_err-heading
returns-in_err-heading c =
    let p = err_from_is_err_and c.from_residual.result c.from_residual.ensures.1 in
    rw (p.1, p.2) (shaped_refused headed_form headed_1 make_headed c.args.room _ (as_headed _) _ _ (first_refused heading_form (λ h. owed_form (is_due h)) joined_headed c.args.room _ _ _ c.in_err-heading.ensures))

pub returns : goal.returns
returns c = gives_headed c.args.room _ _ _ _ _ c.in_ok-heading.ensures c.behind_heading.ensures
