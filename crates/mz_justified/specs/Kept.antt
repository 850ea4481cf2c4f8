-- Whether the instances that a justification makes keep the limits of an expression.
use Rattle.std.specs.Prelude.{Bool, true, List, Option, Some, None, Result, Ok, Err}
use Rattle.std.specs.List.{list_all}
use Rattle.mz_base.specs.declared.place.Place.{Place}
use Rattle.mz_core.specs.Statement.{Statement}
use Rattle.mz_context.specs.declared.context.Context.{Context}
use Rattle.mz_environment.specs.declared.environment.Environment.{Environment}
use Rattle.mz_tree_proof.specs.declared.references.SimpleTree.{SimpleTree}
use Rattle.mz_given.specs.Given.{cited_in, given_in}
use Rattle.mz_given.specs.declared.given.Given.{Given}
use Rattle.mz_given.specs.declared.given.Given.TheVariants.{ByStatements, ByScheme}
use Rattle.mz_from.specs.Kept.{from_keeps}

-- statements make none
abbrev pub given_keeps : Given → Statement → Bool
given_keeps (ByStatements ss) s = true
given_keeps (ByScheme x cited) s = from_keeps x cited s

abbrev pub keeps_where_given : Option Given → Statement → Bool
keeps_where_given None s = true
keeps_where_given (Some g) s = given_keeps g s

abbrev pub keeps_where_cited : Bool → Context → Result Given Place → Statement → Bool
keeps_where_cited linked c (Ok g) s = keeps_where_given (given_in linked c g) s
keeps_where_cited linked c (Err p) s = true

-- those that the justification makes for the statement; where a reference cites nothing, or a linked step follows no statement, none
-- is made
abbrev pub justification_keeps : Environment → Context → Bool → SimpleTree → Statement → Bool
justification_keeps e c linked t s = keeps_where_cited linked c (cited_in e c t) s

-- those that it makes for each of the statements
abbrev pub justifications_keep : Environment → Context → Bool → SimpleTree → List Statement → Bool
justifications_keep e c linked t ss = list_all (justification_keeps e c linked t) ss
