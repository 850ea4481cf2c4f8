use Rattle.std.proofs.Common.{true, sym, ap}
use Rattle.mz_tree_proof.specs.Reasoning.{steps_of, step_list-steps_of}
use Rattle.mz_pterm.proofs.Parsed.{parsed, not_parsed}
use Rattle.mz_pproof.specs.declared.forms.ProofTree.TheVariants as proofs_of
use Rattle.mz_pproof.specs.Forms.{reasoning_form}
use Rattle.mz_pproof.proofs.parse.read_reasoning.Goals as goal

pub returns-in-Ok : goal.returns-in-Ok
returns-in-Ok c = (steps_of c.in-Ok.tree, ap proofs_of.Reasoning (sym (step_list-steps_of c.in-Ok.tree)), parsed reasoning_form (λ _ _. true) steps_of _ c.args.end _ c.requires c.in-Ok.tree _ c.in-Ok.ensures)

pub returns-in-Err : goal.returns-in-Err
returns-in-Err c = rw c.fault.ensures (not_parsed reasoning_form (λ _ _. true) steps_of _ c.args.end _ c.requires _ _ c.in-Err.ensures)
