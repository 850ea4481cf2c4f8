use Rattle.std.proofs.Common.{true}
use Rattle.mz_tree.specs.Views.{term_of}
use Rattle.mz_pterm.specs.Forms.{term_form}
use Rattle.mz_pterm.proofs.Parsed.{parsed, not_parsed}
use Rattle.mz_pterm.proofs.parse.term.Goals as goal

pub returns-in-Ok : goal.returns-in-Ok
returns-in-Ok c = parsed (term_form c.args.field) (λ _ _. true) term_of _ c.args.end _ c.requires c.in-Ok.term _ c.in-Ok.ensures

pub returns-in-Err : goal.returns-in-Err
returns-in-Err c = rw c.fault.ensures (not_parsed (term_form c.args.field) (λ _ _. true) term_of _ c.args.end _ c.requires _ _ c.in-Err.ensures)
