-- The types of results, and what is read behind them.
use Rattle.std.specs.Prelude.{ℕ, Option, Some, None, Result, Ok, Err}
use Rattle.mz_core.specs.Hidden.{set_type}
use Rattle.mz_core.specs.declared.formula_definiens.FormulaDefiniens.{FormulaDefiniens}
use Rattle.mz_core.specs.declared.outcome.Left.{Left}
use Rattle.mz_core.specs.declared.soft_type.SoftType.{SoftType}
use Rattle.mz_core.specs.declared.term_definiens.TermDefiniens.{TermDefiniens}
use Rattle.mz_context.specs.declared.context.Context.{Context}
use Rattle.mz_environment.specs.declared.environment.Environment.{Environment}
use Rattle.mz_names.specs.declared.refusal.Refusal.{Refusal}
use Rattle.mz_resolve.specs.Calls.{TypeRead}
use Rattle.mz_tree.specs.Trees.{TermData, FormulaData}
use Rattle.mz_tree_heading.specs.declared.heading.ResultTree.{ResultTree}
use Rattle.mz_tree_heading.specs.declared.meaning.CasesTree.{CasesTree}
use Rattle.mz_meanings.specs.Definientia.{FormulasRead, TermsRead}
use Rattle.mz_meanings.specs.declared.read_meaning.ReadMeans.{ReadMeans}
use Rattle.mz_meanings.specs.declared.read_meaning.ReadEquals.{ReadEquals}

-- the type behind `->`; `set`, of which nothing counts, where none is written
pub data ResultRead (e : Environment) (c : Context) (least : ℕ) (left : Left) : Option ResultTree → Result SoftType Refusal → Left → Type 0 where
  unwritten : ResultRead e c least left None (Ok set_type) left
  written : (t : ResultTree) (o : Result SoftType Refusal) (after : Left) → TypeRead e c least left t.ty o after → ResultRead e c least left (Some t) o after

-- the type of the result, and then the definiens behind `means`, in which `it` is of that type. After a refusal anything may be left.
pub data MeansRead (e : Environment) (c : Context) (least : ℕ) (left : Left) (t : Option ResultTree) (f : CasesTree FormulaData) : Result ReadMeans Refusal → Left → Type 0 where
  no_type : (r : Refusal) (after : Left) → ResultRead e c least left t (Err r) after → MeansRead e c least left t f (Err r) after
  no_formula : (ty : SoftType) (r : Refusal) (between after : Left) → ResultRead e c least left t (Ok ty) between → FormulasRead e c least (Some ty) between f (Err r) after → MeansRead e c least left t f (Err r) after
  formula_read : (ty : SoftType) (d : FormulaDefiniens) (between after : Left) → ResultRead e c least left t (Ok ty) between → FormulasRead e c least (Some ty) between f (Ok d) after →
      MeansRead e c least left t f (Ok (record { ty = ty; definiens = d })) after

-- so with the definiens behind `equals`, whose terms are of no given type
pub data EqualsRead (e : Environment) (c : Context) (least : ℕ) (left : Left) (t : Option ResultTree) (u : CasesTree TermData) : Result ReadEquals Refusal → Left → Type 0 where
  no_result : (r : Refusal) (after : Left) → ResultRead e c least left t (Err r) after → EqualsRead e c least left t u (Err r) after
  no_term : (ty : SoftType) (r : Refusal) (between after : Left) → ResultRead e c least left t (Ok ty) between → TermsRead e c least between u (Err r) after → EqualsRead e c least left t u (Err r) after
  term_read : (ty : SoftType) (d : TermDefiniens) (between after : Left) → ResultRead e c least left t (Ok ty) between → TermsRead e c least between u (Ok d) after →
      EqualsRead e c least left t u (Ok (record { ty = ty; definiens = d })) after
