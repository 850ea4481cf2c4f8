-- What a justification without a proof gives.
use Rattle.std.specs.Prelude.{Bool, List, [], Option, Some, None, Result, Ok, Err}
use Rattle.mz_base.specs.declared.place.Place.{Place}
use Rattle.mz_core.specs.Statement.{Statement}
use Rattle.mz_core.specs.declared.scheme.Scheme.{Scheme}
use Rattle.mz_context.specs.declared.context.Context.{Context}
use Rattle.mz_environment.specs.declared.environment.Environment.{Environment}
use Rattle.mz_tree_proof.specs.declared.references.PremisesTree.{PremisesTree}
use Rattle.mz_tree_proof.specs.declared.references.ReferenceTree.{ReferenceTree}
use Rattle.mz_tree_proof.specs.declared.references.SimpleTree.{SimpleTree}
use Rattle.mz_tree_proof.specs.declared.references.SimpleTree.TheVariants.{Nothing, By, From}
use Rattle.mz_cited.specs.Cited.{members, cites}
use Rattle.mz_steps.specs.Premises.{given}
use Rattle.mz_given.specs.Schemes.{scheme_cited, scheme_place}
use Rattle.mz_given.specs.declared.given.Given.{Given}
use Rattle.mz_given.specs.declared.given.Given.TheVariants.{ByStatements, ByScheme}

-- the references for the premises of a scheme
abbrev pub premise_references : Option PremisesTree → List ReferenceTree
premise_references None = []
premise_references (Some ps) = members ps.references

abbrev pub as_statements : Result (List Statement) Place → Result Given Place
as_statements (Ok ss) = Ok (ByStatements ss)
as_statements (Err p) = Err p

abbrev pub by_scheme : Place → Option Scheme → Result (List Statement) Place → Result Given Place
by_scheme place None o = Err place
by_scheme place (Some x) (Ok ss) = Ok (ByScheme x ss)
by_scheme place (Some x) (Err p) = Err p

-- what it cites: statements, or a scheme and statements for its premises; or the place of the first reference that cites nothing
abbrev pub cited_in : Environment → Context → SimpleTree → Result Given Place
cited_in e c Nothing = Ok (ByStatements [])
cited_in e c (By by rs) = as_statements (cites e c (members rs))
cited_in e c (From from s ps) = by_scheme (scheme_place s) (scheme_cited e c s) (cites e c (premise_references ps))

abbrev pub statements_given : Option (List Statement) → Option Given
statements_given None = None
statements_given (Some ss) = Some (ByStatements ss)

abbrev pub behind_some : Option (List Statement) → Given → Option Given
behind_some None g = None
behind_some (Some ss) g = Some g

-- what it gives: where it is linked by `then` or `hence`, the statement just before stands in front of the cited ones, and does nothing for
-- a scheme; none where it is linked and there is no statement just before
abbrev pub given_in : Bool → Context → Given → Option Given
given_in linked c (ByStatements cited) = statements_given (given linked c cited)
given_in linked c (ByScheme x cited) = behind_some (given linked c []) (ByScheme x cited)
