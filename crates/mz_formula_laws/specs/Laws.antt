-- Laws of formulas.
use Rattle.std.specs.Prelude.{◌≡◌, ℕ, List, Result}
use Rattle.mz_core.specs.Statement.{Statement}
use Rattle.mz_context.specs.declared.context.Context.{Context}
use Rattle.mz_environment.specs.declared.environment.Environment.{Environment}
use Rattle.mz_names.specs.declared.refusal.Refusal.{Refusal}
use Rattle.mz_names.specs.declared.variable.Variable.{Variable}
use Rattle.mz_tree.specs.Trees.{FormulaData, DeclaredData}
use Rattle.mz_formulas.specs.Declarations.{ReadsDeclared}
use Rattle.mz_formulas.specs.Formulas.{ReadsFormula}
use Rattle.mz_formulas.specs.Sentences.{ReadsSentence}
use Rattle.mz_formulas.specs.declared.sentence.Sentence.{Sentence}

-- what a formula, declarations and a sentence are read to is determined
abbrev pub OneFormulaLaw : Type 0
OneFormulaLaw = (e : Environment) (least : ℕ) (c : Context) (f : FormulaData) (o p : Result Statement Refusal) → ReadsFormula e least c f o → ReadsFormula e least c f p → o ≡ p

abbrev pub OneDeclarationLaw : Type 0
OneDeclarationLaw = (e : Environment) (least : ℕ) (c : Context) (ds : List DeclaredData) (o p : Result (List Variable) Refusal) → ReadsDeclared e least c ds o → ReadsDeclared e least c ds p → o ≡ p

abbrev pub OneSentenceLaw : Type 0
OneSentenceLaw = (e : Environment) (least : ℕ) (c : Context) (f : FormulaData) (o p : Result Sentence Refusal) → ReadsSentence e least c f o → ReadsSentence e least c f p → o ≡ p
