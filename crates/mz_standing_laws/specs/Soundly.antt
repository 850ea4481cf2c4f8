-- An article that stands soundly: what it has stated derives from what the exports say that it uses and what its items grant.
use Rattle.std.specs.Prelude.{◌≡◌, ◌⊎◌, true, List, [], ◌∷◌, ◌++◌, flat_map, None, All, Contains}
use Rattle.std.specs.List.{list_all}
use Rattle.mz_base.specs.declared.name.Name.{Name}
use Rattle.mz_logic.specs.Formula.{Formula}
use Rattle.mz_logic.specs.Derives.{Derives}
use Rattle.mz_core.specs.Closed.{statement_under}
use Rattle.mz_core.specs.Erasure.{erase}
use Rattle.mz_core.specs.Statement.{Statement}
use Rattle.mz_core.specs.declared.item.Item.{Item}
use Rattle.mz_core.specs.declared.outcome.Export.{Export}
use Rattle.mz_ground.specs.ClauseFormula.{HaveNoConstants}
use Rattle.mz_ground.specs.declared.clause.Clause.{Clause}
use Rattle.mz_axioms.specs.Library.{HasClosedItems, granted}
use Rattle.mz_context.specs.declared.context.Context.{Context}
use Rattle.mz_context.specs.declared.letters.NamedLetter.{NamedLetter}
use Rattle.mz_dependency_laws.specs.Formulas.{formulas_of}
use Rattle.mz_environment.specs.Cited.{at_start}
use Rattle.mz_closed_laws.specs.ClosedClauses.{clause_closed}
use Rattle.mz_closed_laws.specs.ClosedEnvironment.{IsClosedEnvironment}
use Rattle.mz_steps_laws.specs.Facts.{facts}
use Rattle.mz_standing_laws.specs.Owed.{AreOwed}
use Rattle.mz_env_laws.specs.Entries.{IsOfExports, AreOfItems, behind_items}
use Rattle.mz_obligations.specs.declared.obligation.Obligation.{Obligation}
use Rattle.mz_block_laws.specs.Orders.{IsInOrder}
use Rattle.mz_obligations.specs.Done.{clauses_for, IsDone}
use Rattle.mz_block_laws.specs.Met.{AreHeld}
use Rattle.mz_level_laws.specs.Level.{IsLevel}
use Rattle.mz_standing.specs.Standing.{clauses_of}
use Rattle.mz_standing.specs.declared.standing.Standing.{Standing}
use Rattle.mz_walk_laws.specs.Grounds.{Basis}

-- what the exports say, as axioms
abbrev pub axioms_of : List Export → List Formula
axioms_of used = flat_map formulas_of used

-- an article's own part, with these items
abbrev pub own_of : Name → List Item → Export
own_of name items = record { name = name; dependencies = []; items = items; notations = [] }

-- An article's name, the exports that it uses, and the clauses that are let in. No item of these exports and none of these clauses
-- has a constant or a loose index, and the clauses derive from what the exports say.
pub record Setting : Type 0 where
  pub name : Name
  pub used : List Export
  pub clauses : List Clause
  pub used_closed : All HasClosedItems used
  pub clauses_closed : list_all clause_closed clauses ≡ true
  pub clauses_hold : AreHeld (axioms_of used) [] clauses

-- what may be used where the article stands: what the exports say, and what its own items grant
abbrev pub axioms_at : Setting → Standing → List Formula
axioms_at g s = axioms_of g.used ++ granted s.items

-- each formula of the first list is one of the second
abbrev pub AreAmong : List Formula → List Formula → Type 0
AreAmong fs gs = (f : Formula) → Contains fs f → Contains gs f

-- What each obligation asks is done by its clauses, without axioms, where these have no constant: by those of the article that stood
-- above its place, the first ones of all, and those of the letters in force there.
abbrev pub AreDecided : List Clause → List Obligation → Type 0
AreDecided final os = (o : Obligation) → Contains os o → HaveNoConstants (clauses_for final o) → IsDone [] (clauses_for final o) o.duty

-- The clauses are those that were let in and then those of the article's items; each entry of the environment is of an item of the
-- used exports or of the article's own; and each of its own is owed from what the exports say and what the items before it grant.
-- The context is one of the article's own level, in order, without letters and without a thesis. From what the exports say and the
-- items grant, and whatever further axioms, a statement without constants and loose indices that derives from what the context says
-- derives without it.
pub record StandsSoundly (g : Setting) (s : Standing) : Type 0 where
  pub clauses_are : s.clauses ≡ g.clauses ++ flat_map clauses_of s.items
  pub entries : AreOfItems (IsOfExports (own_of g.name s.items ∷ g.used)) s.environment
  pub numbered_so : s.numbering ≡ behind_items (at_start g.name.number) s.items
  pub closed_so : IsClosedEnvironment s.environment
  pub met : AreOwed (axioms_of g.used) s.items
  pub level : IsLevel s.context
  pub order : IsInOrder [] s.context
  pub no_letters : s.context.letters ≡ []
  pub no_thesis : s.context.thesis ≡ None
  pub conservative : (axioms : List Formula) → AreAmong (axioms_at g s) axioms → (t : Statement) → statement_under 0 t ≡ true → Derives axioms (facts s.context ++ []) (erase t) → Derives axioms [] (erase t)

-- what reasonings rest on there, with these axioms and these letters in force
abbrev pub basis : List Formula → List NamedLetter → Standing → Basis
basis axioms letters s = record { axioms = axioms; clauses = s.clauses; env = s.environment; letters = letters }

-- the first context says no more than the second one: it has the constants, letters and labelled statements of the second one, and the
-- statement just before, or none
pub record SaysNoMore (d c : Context) : Type 0 where
  pub constants : d.constants ≡ c.constants
  pub letters : d.letters ≡ c.letters
  pub named : d.labelled ≡ c.labelled
  pub previous : (d.previous ≡ c.previous) ⊎ (d.previous ≡ None)
