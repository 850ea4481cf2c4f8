-- The forms of proofs, and what their parse promises.
use Rattle.std.specs.Prelude.{◌≡◌, ℕ, List, Result, Ok, Err}
use Rattle.mz_base.specs.TokenList.{TokenList}
use Rattle.mz_base.specs.declared.place.Place.{Place}
use Rattle.mz_base.specs.declared.token.MarkedToken.{MarkedToken}
use Rattle.mz_forms.specs.Form.{Form}
use Rattle.mz_forms.specs.Parse.{TheTree}
use Rattle.mz_marks.specs.Marks.{AreMarked}
use Rattle.mz_tree_proof.specs.Grammar as grammar
use Rattle.mz_tree_proof.specs.Reasoning.{step_list}
use Rattle.mz_pterm.specs.Parses as any_form
use Rattle.mz_pterm.specs.declared.parse.ParseFault.{ParseFault}
use Rattle.mz_pterm.specs.declared.parse.ParseFault.TheVariants.{Memory}
use Rattle.mz_pproof.specs.declared.forms.ProofTree.{ProofTree}
use Rattle.mz_pproof.specs.declared.forms.ProofTree.TheVariants as proofs_of
use Rattle.mz_pproof.specs.declared.forms.ProofForm as rust
use Rattle.mz_pproof.specs.declared.forms.ProofForm.TheVariants as forms

-- which marked tokens spell which tree
abbrev pub grammar_of : rust.ProofForm → Form MarkedToken
grammar_of forms.Proposition = grammar.proposition
grammar_of forms.Justification = grammar.justification
grammar_of forms.Statement = grammar.statement
grammar_of forms.Reasoning = grammar.reasoning

-- the proof that is this tree
abbrev pub proof_of : (form : rust.ProofForm) → (grammar_of form).Tree → ProofTree
proof_of forms.Proposition tree = proofs_of.Proposition tree
proof_of forms.Justification tree = proofs_of.Justification tree
proof_of forms.Statement tree = proofs_of.Statement tree
proof_of forms.Reasoning tree = proofs_of.Reasoning (step_list tree)

-- Constructs nest at most 128 deep. The proof, and the number of the token behind it; or the place of the first token with
-- which no tree of the form begins, of the first one that is nested too deep, or of the text's end.
abbrev pub IsRead : rust.ProofForm → List MarkedToken → Place → ℕ → Result (ProofTree × ℕ) ParseFault → Type 0
IsRead form tokens end from (Ok p) = (tree : (grammar_of form).Tree) × (p.0 ≡ proof_of form tree) × TheTree (grammar_of form) 128 tokens from tree p.1
IsRead form tokens end from (Err e) = any_form.Parses (grammar_of form) (λ tree. tree) tokens end from (Err e)

-- The same over the tokens of a text, with the marks that commas have in the whole list.
abbrev pub Parses : rust.ProofForm → TokenList → ℕ → Result (ProofTree × ℕ) ParseFault → Type 0
Parses form tokens from (Err Memory) = Unit {0}
Parses form tokens from result = (all : List MarkedToken) × AreMarked tokens.items all × IsRead form all tokens.end from result
