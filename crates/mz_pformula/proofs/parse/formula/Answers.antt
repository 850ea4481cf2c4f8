use Rattle.std.proofs.Common.{true}
use Rattle.mz_pterm.proofs.Parsed.{parsed, not_parsed}
use Rattle.mz_pformula.specs.Forms.{formula_form, formula_in}
use Rattle.mz_pformula.proofs.parse.formula.Goals as goal

pub returns-in-Ok : goal.returns-in-Ok
returns-in-Ok c = parsed (formula_form c.args.field) (λ _ _. true) formula_in _ c.args.end _ c.requires c.in-Ok.tree _ c.in-Ok.ensures.0

pub returns-in-Err : goal.returns-in-Err
returns-in-Err c = rw c.fault.ensures (not_parsed (formula_form c.args.field) (λ _ _. true) formula_in _ c.args.end _ c.requires _ _ c.in-Err.ensures)
