-- Two trees of one form that spell the same tokens are equal.
use Rattle.mz_forms.specs.Parse.{OneTree}
use Rattle.mz_pproposition.proofs.Unique.{one_proposition}
use Rattle.mz_pproof.specs.Proof.{grammar_of}
use Rattle.mz_pproof.specs.declared.forms.ProofForm as rust
use Rattle.mz_pproof.specs.declared.forms.ProofForm.TheVariants as forms
use Rattle.mz_pproof.proofs.Unique.{one_justification, one_statement, one_reasoning}

pub one_proof : (form : rust.ProofForm) → OneTree (grammar_of form)
one_proof forms.Proposition = one_proposition
one_proof forms.Justification = one_justification
one_proof forms.Statement = one_statement
one_proof forms.Reasoning = one_reasoning
