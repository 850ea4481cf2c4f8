-- From which items the entries of an environment come.
use Rattle.std.specs.Prelude.{◌≡◌, List, [], ◌∷◌, ◌++◌, Result, Ok, Contains}
use Rattle.mz_base.specs.declared.head.Directive.{Directive}
use Rattle.mz_logic.specs.declared.sym.Sym.{Sym}
use Rattle.mz_core.specs.declared.structure.Structure.{Structure}
use Rattle.mz_core.specs.declared.notation.Notation.{Notation}
use Rattle.mz_core.specs.declared.registration.ExistentialRegistration.{ExistentialRegistration}
use Rattle.mz_core.specs.declared.item.Item.{Item}
use Rattle.mz_core.specs.declared.outcome.Export.{Export}
use Rattle.mz_items.specs.Exports.{notations_of}
use Rattle.mz_ground.specs.declared.clause.Clause.{Clause}
use Rattle.mz_clauses.specs.Clauses.{typing_clauses, further_clauses, equality_clauses}
use Rattle.mz_environment.specs.Rows.{functor_rows, mode_rows}
use Rattle.mz_environment.specs.Unfoldings.{unfoldings_of}
use Rattle.mz_environment.specs.Cited.{at_start, numbered, statements_cited, schemes_cited}
use Rattle.mz_environment.specs.Environment.{joined, of_item, structures_of, sethoods_of, existentials_of}
use Rattle.mz_environment.specs.declared.rows.Row.{Row}
use Rattle.mz_environment.specs.declared.unfoldings.Unfolding.{Unfolding}
use Rattle.mz_environment.specs.declared.cited.CitedStatement.{CitedStatement}
use Rattle.mz_environment.specs.declared.cited.CitedScheme.{CitedScheme}
use Rattle.mz_environment.specs.declared.numbering.Numbering.{Numbering}
use Rattle.mz_environment.specs.declared.environment.Environment.{Environment}
use Rattle.mz_env.specs.LetIn.{LetIn}

-- the item is one of these, and stands there where the first of them stands at `at`
pub data StandsAmong : Numbering → List Item → Numbering → Item → Type 0 where
  first_item : {at : Numbering} {x : Item} {xs : List Item} → StandsAmong at (x ∷ xs) at x
  later_item : {at there : Numbering} {x y : Item} {xs : List Item} → StandsAmong (numbered at x) xs there y → StandsAmong at (x ∷ xs) there y

-- the item is one of the export's, and stands there: as many theorems, definitional theorems and schemes of the article
-- are above it
abbrev pub StandsIn : Export → Numbering → Item → Type 0
StandsIn d at x = StandsAmong (at_start d.name.number) d.items at x

-- it is one of the items of these exports
abbrev pub IsOfExports : List Export → Numbering → Item → Type 0
IsOfExports exports at x = (d : Export) × Contains exports d × StandsIn d at x

-- the typing clauses of the item are among those of the environment
abbrev pub HasTypingOf : Environment → Item → Type 0
HasTypingOf e x = (c : Clause) → Contains (typing_clauses x) c → Contains e.typing c

-- some item of a kind has the property
abbrev pub SomeItem : (Numbering → Item → Type 0) → (Numbering → Item → Type 0) → Type 0
SomeItem source P = (at : Numbering) × (x : Item) × source at x × P at x

-- Each entry is what an item of a kind gives to that list; where it is a row or a structure, the typing clauses of the
-- item are there too.
pub record AreOfItems (source : Numbering → Item → Type 0) (e : Environment) : Type 0 where
  pub functors : (r : Row) → Contains e.functors r → SomeItem source (λ at x. Contains (functor_rows x) r × HasTypingOf e x)
  pub modes : (r : Row) → Contains e.modes r → SomeItem source (λ at x. Contains (mode_rows x) r × HasTypingOf e x)
  pub structures : (s : Structure) → Contains e.structures s → SomeItem source (λ at x. Contains (structures_of x) s × HasTypingOf e x)
  pub sethoods : (s : Sym) → Contains e.sethoods s → SomeItem source (λ at x. Contains (sethoods_of x) s)
  pub notations : (n : Notation) → Contains e.notations n → SomeItem source (λ at x. Contains (notations_of x) n)
  pub typing : (c : Clause) → Contains e.typing c → SomeItem source (λ at x. Contains (typing_clauses x) c)
  pub further : (c : Clause) → Contains e.further c → SomeItem source (λ at x. Contains (further_clauses x) c)
  pub equalities : (c : Clause) → Contains e.equalities c → SomeItem source (λ at x. Contains (equality_clauses x) c)
  pub steps : (u : Unfolding) → Contains e.steps u → SomeItem source (λ at x. Contains (unfoldings_of x) u)
  pub expansions : (u : Unfolding) → Contains e.expansions u → SomeItem source (λ at x. Contains (unfoldings_of x) u)
  pub registrations : (r : ExistentialRegistration) → Contains e.registrations r → SomeItem source (λ at x. Contains (existentials_of x) r)
  pub theorems : (c : CitedStatement) → Contains e.theorems c → SomeItem source (λ at x. Contains (statements_cited at x) c)
  pub schemes : (c : CitedScheme) → Contains e.schemes c → SomeItem source (λ at x. Contains (schemes_cited at x) c)

-- each entry of what is let in is of an item of the exports
abbrev pub EntryLaw : Type 0
EntryLaw =
    (head : List Directive) (exports : List Export) (e : Environment) → LetIn head exports (Ok e) →
    AreOfItems (IsOfExports exports) e

-- how an item stands behind these
abbrev pub behind_items : Numbering → List Item → Numbering
behind_items at [] = at
behind_items at (x ∷ xs) = behind_items (numbered at x) xs

-- an article's own part with one more item
abbrev pub with_item : Export → Item → Export
with_item own x = record { name = own.name; dependencies = own.dependencies; items = own.items ++ x ∷ []; notations = own.notations }

-- so it is where an article's own items are to be put behind what is let in, and stays so where one is
abbrev pub OwnPartLaw : Type 0
OwnPartLaw =
    (exports : List Export) (own : Export) (e : Environment) →
    AreOfItems (IsOfExports exports) e → AreOfItems (IsOfExports (own ∷ exports)) e

abbrev pub OwnItemLaw : Type 0
OwnItemLaw =
    (exports : List Export) (own : Export) (x : Item) (e : Environment) →
    AreOfItems (IsOfExports (own ∷ exports)) e →
    AreOfItems (IsOfExports (with_item own x ∷ exports)) (joined e (of_item (behind_items (at_start own.name.number) own.items) x))
