-- What formulas, declarations and sentences are read to has usable constants alone and no loose index.
use Rattle.std.specs.Prelude.{◌≡◌, ◌≤◌, ℕ, true, List, Ok}
use Rattle.mz_core.specs.Statement.{Statement}
use Rattle.mz_context.specs.declared.context.Context.{Context}
use Rattle.mz_environment.specs.declared.environment.Environment.{Environment}
use Rattle.mz_closed_laws.specs.ClosedEnvironment.{IsClosedEnvironment}
use Rattle.mz_names.specs.Closing.{with_variables}
use Rattle.mz_names.specs.declared.variable.Variable.{Variable}
use Rattle.mz_tree.specs.Trees.{FormulaData, DeclaredData}
use Rattle.mz_formulas.specs.Declarations.{ReadsDeclared}
use Rattle.mz_formulas.specs.Formulas.{ReadsFormula}
use Rattle.mz_formulas.specs.Sentences.{ReadsSentence}
use Rattle.mz_formulas.specs.declared.sentence.Sentence.{Sentence}
use Rattle.mz_term_laws.specs.Usable.{statement_usable}
use Rattle.mz_term_laws.specs.Whole.{IsWhole}
use Rattle.mz_term_laws.specs.ChangeLaws.{AreUsable}

-- a formula
abbrev pub FormulaLaw : Type 0
FormulaLaw =
    (e : Environment) (c : Context) (from least : ℕ) → IsClosedEnvironment e → IsWhole from c → from ≤ least →
    (f : FormulaData) (s : Statement) → ReadsFormula e least c f (Ok s) → statement_usable from c s ≡ true

-- declared variables
abbrev pub DeclaredLaw : Type 0
DeclaredLaw =
    (e : Environment) (c : Context) (from least : ℕ) → IsClosedEnvironment e → IsWhole from c → from ≤ least →
    (ds : List DeclaredData) (vs : List Variable) → ReadsDeclared e least c ds (Ok vs) → AreUsable from c vs

-- the variables of a sentence, its formula with these in force, and the formula closed over them
pub record IsUsableSentence (least : ℕ) (c : Context) (s : Sentence) : Type 0 where
  pub variables : AreUsable least c s.variables
  pub inner : statement_usable least (with_variables c s.variables) s.inner ≡ true
  pub closed : statement_usable least c s.closed ≡ true

-- a sentence
abbrev pub SentenceLaw : Type 0
SentenceLaw =
    (e : Environment) (c : Context) (from least : ℕ) → IsClosedEnvironment e → IsWhole from c → from ≤ least →
    (f : FormulaData) (s : Sentence) → ReadsSentence e least c f (Ok s) → IsUsableSentence from c s
