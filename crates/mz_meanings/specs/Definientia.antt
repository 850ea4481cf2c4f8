-- Definientia, with cases or without, as they are read.
use Rattle.std.specs.Prelude.{ℕ, List, [], Option, Some, None, Result, Ok, Err}
use Rattle.mz_logic.specs.Term.{Term}
use Rattle.mz_core.specs.Statement.{Statement}
use Rattle.mz_core.specs.declared.formula_definiens.FormulaCase.{FormulaCase}
use Rattle.mz_core.specs.declared.formula_definiens.FormulaDefiniens.{FormulaDefiniens}
use Rattle.mz_core.specs.declared.formula_definiens.FormulaDefiniens.TheVariants as formula
use Rattle.mz_core.specs.declared.term_definiens.TermCase.{TermCase}
use Rattle.mz_core.specs.declared.term_definiens.TermDefiniens.{TermDefiniens}
use Rattle.mz_core.specs.declared.term_definiens.TermDefiniens.TheVariants as term
use Rattle.mz_core.specs.declared.outcome.Left.{Left}
use Rattle.mz_core.specs.declared.soft_type.SoftType.{SoftType}
use Rattle.mz_context.specs.declared.context.Context.{Context}
use Rattle.mz_environment.specs.declared.environment.Environment.{Environment}
use Rattle.mz_names.specs.declared.refusal.Refusal.{Refusal}
use Rattle.mz_cited.specs.Cited.{members}
use Rattle.mz_resolve.specs.Calls.{TermRead, FormulaRead}
use Rattle.mz_tree.specs.Trees.{TermData, FormulaData}
use Rattle.mz_tree.specs.declared.lists.Separated.{Separated}
use Rattle.mz_tree_heading.specs.declared.meaning.CaseTree.{CaseTree}
use Rattle.mz_tree_heading.specs.declared.meaning.CasesTree.{CasesTree}
use Rattle.mz_tree_heading.specs.declared.meaning.CasesTree.TheVariants as tree
use Rattle.mz_tree_heading.specs.declared.meaning.OtherwiseTree.{OtherwiseTree}
use Rattle.mz_meanings.specs.Each.{EachRead}
use Rattle.mz_meanings.specs.It.{with_it}

-- what definientia of a kind make: one alone, one under a condition, cases, and cases with `otherwise`
pub record Shape (X K D : Type 0) : Type 0 where
  pub alone : X → D
  pub under : X → Statement → K
  pub by_cases : List K → D
  pub with_otherwise : List K → X → D

abbrev pub formula_under : Statement → Statement → FormulaCase
formula_under d c = record { condition = c; definiens = d }

abbrev pub formula_shape : Shape Statement FormulaCase FormulaDefiniens
formula_shape = record { alone = formula.Plain; under = formula_under; by_cases = formula.Cases; with_otherwise = formula.CasesOtherwise }

abbrev pub term_under : Term → Statement → TermCase
term_under d c = record { condition = c; definiens = d }

abbrev pub term_shape : Shape Term TermCase TermDefiniens
term_shape = record { alone = term.Plain; under = term_under; by_cases = term.Cases; with_otherwise = term.CasesOtherwise }

-- a case: its definiens, and then its condition
pub data CaseRead {B X K D : Type 0} (shape : Shape X K D) (reads : Left → B → Result X Refusal → Left → Type 0) (asks : Left → FormulaData → Result Statement Refusal → Left → Type 0) (left : Left) (t : CaseTree B) : Result K Refusal → Left → Type 0 where
  no_definiens : (r : Refusal) (after : Left) → reads left t.body (Err r) after → CaseRead shape reads asks left t (Err r) after
  no_condition : (x : X) (r : Refusal) (between after : Left) → reads left t.body (Ok x) between → asks between t.condition (Err r) after → CaseRead shape reads asks left t (Err r) after
  both_read : (x : X) (c : Statement) (between after : Left) → reads left t.body (Ok x) between → asks between t.condition (Ok c) after → CaseRead shape reads asks left t (Ok (shape.under x c)) after

-- what is made of what was read
abbrev pub made_of : {X D : Type 0} → (X → D) → Result X Refusal → Result D Refusal
made_of f (Ok x) = Ok (f x)
made_of f (Err r) = Err r

-- behind cases: the definiens of `otherwise`, or nothing
pub data OtherwiseRead {B X K D : Type 0} (shape : Shape X K D) (reads : Left → B → Result X Refusal → Left → Type 0) (ks : List K) (left : Left) : Option (OtherwiseTree B) → Result D Refusal → Left → Type 0 where
  no_otherwise : OtherwiseRead shape reads ks left None (Ok (shape.by_cases ks)) left
  otherwise_read : (t : OtherwiseTree B) (o : Result X Refusal) (after : Left) → reads left t.body o after → OtherwiseRead shape reads ks left (Some t) (made_of (shape.with_otherwise ks) o) after

-- a definiens alone, or cases one after another and then `otherwise`
pub data DefiniensRead {B X K D : Type 0} (shape : Shape X K D) (reads : Left → B → Result X Refusal → Left → Type 0) (asks : Left → FormulaData → Result Statement Refusal → Left → Type 0) (left : Left) : CasesTree B → Result D Refusal → Left → Type 0 where
  alone_read : (b : B) (o : Result X Refusal) (after : Left) → reads left b o after → DefiniensRead shape reads asks left (tree.Plain b) (made_of shape.alone o) after
  cases_refused : (cs : Separated (CaseTree B)) (t : Option (OtherwiseTree B)) (r : Refusal) (after : Left) → EachRead (CaseRead shape reads asks) left (members cs) [] (Err r) after →
      DefiniensRead shape reads asks left (tree.Cases cs t) (Err r) after
  cases_read : (cs : Separated (CaseTree B)) (t : Option (OtherwiseTree B)) (ks : List K) (o : Result D Refusal) (between after : Left) → EachRead (CaseRead shape reads asks) left (members cs) [] (Ok ks) between →
      OtherwiseRead shape reads ks between t o after → DefiniensRead shape reads asks left (tree.Cases cs t) o after

-- the context of a definiens, in which `it` is of the type where there is one; in a condition it isn't known
abbrev pub body_context : Context → Option SoftType → Context
body_context c None = c
body_context c (Some ty) = with_it c ty

-- formulas and terms as definientia
abbrev pub FormulaCaseRead : Environment → Context → ℕ → Option SoftType → Left → CaseTree FormulaData → Result FormulaCase Refusal → Left → Type 0
FormulaCaseRead e c least it = CaseRead formula_shape (FormulaRead e (body_context c it) least) (FormulaRead e c least)

abbrev pub FormulasRead : Environment → Context → ℕ → Option SoftType → Left → CasesTree FormulaData → Result FormulaDefiniens Refusal → Left → Type 0
FormulasRead e c least it = DefiniensRead formula_shape (FormulaRead e (body_context c it) least) (FormulaRead e c least)

abbrev pub TermCaseRead : Environment → Context → ℕ → Left → CaseTree TermData → Result TermCase Refusal → Left → Type 0
TermCaseRead e c least = CaseRead term_shape (TermRead e c least) (FormulaRead e c least)

abbrev pub TermsRead : Environment → Context → ℕ → Left → CasesTree TermData → Result TermDefiniens Refusal → Left → Type 0
TermsRead e c least = DefiniensRead term_shape (TermRead e c least) (FormulaRead e c least)
