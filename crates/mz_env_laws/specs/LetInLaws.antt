-- What holds of each environment that is let in.
use Rattle.std.specs.Prelude.{◌≡◌, false, List, ◌++◌, Ok, All, Contains}
use Rattle.mz_base.specs.declared.head.Directive.{Directive}
use Rattle.mz_core.specs.Hidden.{is_of_any_object}
use Rattle.mz_core.specs.declared.structure.Structure.{Structure}
use Rattle.mz_core.specs.declared.item.Item.{Item}
use Rattle.mz_core.specs.declared.outcome.Export.{Export}
use Rattle.mz_ground.specs.declared.clause.Clause.{Clause}
use Rattle.mz_clauses.specs.Groups.{groups_clauses}
use Rattle.mz_clauses.specs.StructureClauses.{part_groups, aggregate_groups}
use Rattle.mz_clauses.specs.Clauses.{clauses_of}
use Rattle.mz_axioms.specs.Library.{HasClosedItems}
use Rattle.mz_environment.specs.Environment.{joined, of_item}
use Rattle.mz_environment.specs.declared.rows.Row.{Row}
use Rattle.mz_environment.specs.declared.numbering.Numbering.{Numbering}
use Rattle.mz_environment.specs.declared.environment.Environment.{Environment}
use Rattle.mz_closed_laws.specs.ClosedEnvironment.{IsClosedEnvironment}
use Rattle.mz_row_laws.specs.RowLaws.{functor_row_clauses, mode_row_clauses, HasTypeClauses, HasParentClauses}
use Rattle.mz_env.specs.LetIn.{LetIn}

-- no entry has a constant or a loose index, where no item of the exports has one
abbrev pub ClosedLaw : Type 0
ClosedLaw =
    (head : List Directive) (exports : List Export) (e : Environment) →
    All HasClosedItems exports → LetIn head exports (Ok e) → IsClosedEnvironment e

-- The clauses of each row and each structure are among the typing clauses. Each literal that a row's type has is the
-- conclusion of one, but for a mode's row of `object` or `set`.
pub record HasRowClauses (e : Environment) : Type 0 where
  pub functors : (r : Row) → Contains e.functors r → (c : Clause) → Contains (functor_row_clauses r) c → Contains e.typing c
  pub modes : (r : Row) → Contains e.modes r → (c : Clause) → Contains (mode_row_clauses r) c → Contains e.typing c
  pub structures : (s : Structure) → Contains e.structures s → (c : Clause) → Contains (groups_clauses (part_groups s ++ aggregate_groups s)) c → Contains e.typing c
  pub types : (r : Row) → Contains e.functors r → HasTypeClauses e.typing r
  pub parents : (r : Row) → Contains e.modes r → is_of_any_object r.sym ≡ false → HasParentClauses e.typing r

abbrev pub RowClausesLaw : Type 0
RowClausesLaw =
    (head : List Directive) (exports : List Export) (e : Environment) → LetIn head exports (Ok e) → HasRowClauses e

-- so it is of what an item gives, and of two environments joined
abbrev pub GivenRowsLaw : Type 0
GivenRowsLaw = (at : Numbering) (item : Item) → HasRowClauses (of_item at item)

abbrev pub JoinedRowsLaw : Type 0
JoinedRowsLaw = (e f : Environment) → HasRowClauses e → HasRowClauses f → HasRowClauses (joined e f)

-- the clause is one of an export's
abbrev pub IsClauseOf : List Export → Clause → Type 0
IsClauseOf exports c = (x : Export) × Contains exports x × Contains (clauses_of x) c

-- each clause is one of an export's
abbrev pub ClauseLaw : Type 0
ClauseLaw =
    (head : List Directive) (exports : List Export) (e : Environment) → LetIn head exports (Ok e) →
    (c : Clause) → Contains (e.typing ++ e.further ++ e.equalities) c → IsClauseOf exports c
