use Rattle.std.proofs.Common.{true, refl}
use Rattle.mz_pterm.proofs.Parsed.{parsed, not_parsed}
use Rattle.mz_pproof.specs.Forms.{statement_form, same_statement}
use Rattle.mz_pproof.proofs.parse.read_statement.Goals as goal

pub returns-in-Ok : goal.returns-in-Ok
returns-in-Ok c = (c.in-Ok.tree, refl, parsed statement_form (λ _ _. true) same_statement _ c.args.end _ c.requires c.in-Ok.tree _ c.in-Ok.ensures)

pub returns-in-Err : goal.returns-in-Err
returns-in-Err c = rw c.fault.ensures (not_parsed statement_form (λ _ _. true) same_statement _ c.args.end _ c.requires _ _ c.in-Err.ensures)
