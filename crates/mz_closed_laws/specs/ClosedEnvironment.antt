-- Environments without constants and loose indices.
use Rattle.std.specs.Prelude.{◌≡◌, Bool, true, ◌&&◌, length}
use Rattle.std.specs.List.{list_all}
use Rattle.mz_core.specs.Closed.{statement_under, loci_closed}
use Rattle.mz_core.specs.declared.registration.ExistentialRegistration.{ExistentialRegistration}
use Rattle.mz_items.specs.Closed.{existential_under, structure_closed, notation_closed, scheme_closed}
use Rattle.mz_environment.specs.declared.cited.CitedStatement.{CitedStatement}
use Rattle.mz_environment.specs.declared.cited.CitedScheme.{CitedScheme}
use Rattle.mz_environment.specs.declared.environment.Environment.{Environment}
use Rattle.mz_closed_laws.specs.ClosedClauses.{clause_closed, row_closed, unfolding_closed}

abbrev pub existential_closed : ExistentialRegistration → Bool
existential_closed r = loci_closed r.loci && existential_under (length r.loci) r

abbrev pub cited_statement_closed : CitedStatement → Bool
cited_statement_closed c = statement_under 0 c.statement

abbrev pub cited_scheme_closed : CitedScheme → Bool
cited_scheme_closed c = scheme_closed c.scheme

-- no entry of the environment has a constant or a loose index
pub record IsClosedEnvironment (e : Environment) : Type 0 where
  pub functors : list_all row_closed e.functors ≡ true
  pub modes : list_all row_closed e.modes ≡ true
  pub structures : list_all structure_closed e.structures ≡ true
  pub notations : list_all notation_closed e.notations ≡ true
  pub typing : list_all clause_closed e.typing ≡ true
  pub further : list_all clause_closed e.further ≡ true
  pub equalities : list_all clause_closed e.equalities ≡ true
  pub steps : list_all unfolding_closed e.steps ≡ true
  pub expansions : list_all unfolding_closed e.expansions ≡ true
  pub registrations : list_all existential_closed e.registrations ≡ true
  pub theorems : list_all cited_statement_closed e.theorems ≡ true
  pub schemes : list_all cited_scheme_closed e.schemes ≡ true
