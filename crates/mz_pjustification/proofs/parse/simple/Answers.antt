use Rattle.std.proofs.Common.{true}
use Rattle.mz_pjustification.specs.Forms.{simple_form, same_simple}
use Rattle.mz_pterm.proofs.Parsed.{parsed, not_parsed}
use Rattle.mz_pjustification.proofs.parse.simple.Goals as goal

pub returns-in-Ok : goal.returns-in-Ok
returns-in-Ok c = parsed simple_form (λ _ _. true) same_simple _ c.args.end _ c.requires c.in-Ok.tree _ c.in-Ok.ensures

pub returns-in-Err : goal.returns-in-Err
returns-in-Err c = rw c.fault.ensures (not_parsed simple_form (λ _ _. true) same_simple _ c.args.end _ c.requires _ _ c.in-Err.ensures)
