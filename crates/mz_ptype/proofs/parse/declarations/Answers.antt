use Rattle.std.proofs.Common.{true}
use Rattle.mz_tree.specs.Views.{declarations_of}
use Rattle.mz_ptype.specs.Forms.{declarations_form}
use Rattle.mz_pterm.proofs.Parsed.{parsed, not_parsed}
use Rattle.mz_ptype.proofs.parse.declarations.Goals as goal

pub returns-in-Ok : goal.returns-in-Ok
returns-in-Ok c = parsed (declarations_form c.args.field) (λ _ _. true) declarations_of _ c.args.end _ c.requires c.in-Ok.tree _ c.in-Ok.ensures

pub returns-in-Err : goal.returns-in-Err
returns-in-Err c = rw c.fault.ensures (not_parsed (declarations_form c.args.field) (λ _ _. true) declarations_of _ c.args.end _ c.requires _ _ c.in-Err.ensures)
