-- What an expression that is part of no other is read to has usable constants alone and no loose index.
use Rattle.std.specs.Prelude.{◌≡◌, ◌≤◌, ℕ, true, Ok}
use Rattle.mz_logic.specs.Term.{Term}
use Rattle.mz_core.specs.Statement.{Statement}
use Rattle.mz_core.specs.declared.outcome.Left.{Left}
use Rattle.mz_core.specs.declared.soft_type.SoftType.{SoftType}
use Rattle.mz_context.specs.declared.context.Context.{Context}
use Rattle.mz_environment.specs.declared.environment.Environment.{Environment}
use Rattle.mz_closed_laws.specs.ClosedEnvironment.{IsClosedEnvironment}
use Rattle.mz_tree.specs.Trees.{TermData, TypeData, FormulaData}
use Rattle.mz_formulas.specs.declared.sentence.Sentence.{Sentence}
use Rattle.mz_resolve.specs.Calls.{TermRead, TypeRead, FormulaRead, SentenceRead}
use Rattle.mz_term_laws.specs.Usable.{term_usable, type_usable, statement_usable}
use Rattle.mz_term_laws.specs.Whole.{IsWhole}
use Rattle.mz_reading_laws.specs.ReadingLaws.{IsUsableSentence}

abbrev pub TermCallLaw : Type 0
TermCallLaw =
    (e : Environment) (c : Context) (from least : ℕ) → IsClosedEnvironment e → IsWhole from c → from ≤ least →
    (left after : Left) (t : TermData) (u : Term) → TermRead e c least left t (Ok u) after → term_usable from c u ≡ true

abbrev pub TypeCallLaw : Type 0
TypeCallLaw =
    (e : Environment) (c : Context) (from least : ℕ) → IsClosedEnvironment e → IsWhole from c → from ≤ least →
    (left after : Left) (ty : TypeData) (s : SoftType) → TypeRead e c least left ty (Ok s) after → type_usable from c s ≡ true

abbrev pub FormulaCallLaw : Type 0
FormulaCallLaw =
    (e : Environment) (c : Context) (from least : ℕ) → IsClosedEnvironment e → IsWhole from c → from ≤ least →
    (left after : Left) (f : FormulaData) (s : Statement) → FormulaRead e c least left f (Ok s) after → statement_usable from c s ≡ true

abbrev pub SentenceCallLaw : Type 0
SentenceCallLaw =
    (e : Environment) (c : Context) (from least : ℕ) → IsClosedEnvironment e → IsWhole from c → from ≤ least →
    (left after : Left) (f : FormulaData) (s : Sentence) → SentenceRead e c least left f (Ok s) after → IsUsableSentence from c s
