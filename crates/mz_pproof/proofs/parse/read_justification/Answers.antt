use Rattle.std.proofs.Common.{true, refl}
use Rattle.mz_pterm.proofs.Parsed.{parsed, not_parsed}
use Rattle.mz_pproof.specs.Forms.{just_form, same_just}
use Rattle.mz_pproof.proofs.parse.read_justification.Goals as goal

pub returns-in-Ok : goal.returns-in-Ok
returns-in-Ok c = (c.in-Ok.tree, refl, parsed just_form (λ _ _. true) same_just _ c.args.end _ c.requires c.in-Ok.tree _ c.in-Ok.ensures)

pub returns-in-Err : goal.returns-in-Err
returns-in-Err c = rw c.fault.ensures (not_parsed just_form (λ _ _. true) same_just _ c.args.end _ c.requires _ _ c.in-Err.ensures)
