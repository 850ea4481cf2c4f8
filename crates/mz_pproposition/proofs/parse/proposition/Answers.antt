use Rattle.std.proofs.Common.{true}
use Rattle.mz_pterm.proofs.Parsed.{parsed, not_parsed}
use Rattle.mz_pproposition.specs.Forms.{proposition_form, same_proposition}
use Rattle.mz_pproposition.proofs.parse.proposition.Goals as goal

pub returns-in-Ok : goal.returns-in-Ok
returns-in-Ok c = parsed proposition_form (λ _ _. true) same_proposition _ c.args.end _ c.requires c.in-Ok.tree _ c.in-Ok.ensures

pub returns-in-Err : goal.returns-in-Err
returns-in-Err c = rw c.fault.ensures (not_parsed proposition_form (λ _ _. true) same_proposition _ c.args.end _ c.requires _ _ c.in-Err.ensures)
