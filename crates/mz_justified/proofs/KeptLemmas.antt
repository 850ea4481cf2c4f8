-- What the code of limits tells.
use Rattle.std.proofs.Common.{◌≡◌, List, [], refl, sym, ap, ◌∙◌, Option, Some, None, Bool, true}
use Rattle.std.specs.Prelude.{Result, Ok, Err}
use Rattle.mz_base.specs.declared.place.Place.{Place}
use Rattle.mz_core.specs.Statement.{Statement}
use Rattle.mz_context.specs.declared.context.Context.{Context}
use Rattle.mz_environment.specs.declared.environment.Environment.{Environment}
use Rattle.mz_tree.specs.declared.lists.Separated.{Separated}
use Rattle.mz_tree_proof.specs.declared.references.ReferenceTree.{ReferenceTree}
use Rattle.mz_tree_proof.specs.declared.references.SimpleTree.{SimpleTree}
use Rattle.mz_tree_proof.specs.declared.references.SimpleTree.TheVariants.{Nothing, By}
use Rattle.mz_cited.specs.Cited.{members, cites}
use Rattle.mz_steps.specs.Premises.{given}
use Rattle.mz_given.specs.Given.{as_statements, statements_given, cited_in, given_in}
use Rattle.mz_given.specs.declared.given.Given.{Given}
use Rattle.mz_justified.specs.Kept.{keeps_where_given, keeps_where_cited, justification_keeps}

pub told_cites_nothing : (e : Environment) (c : Context) (linked : Bool) (t : SimpleTree) (s : Statement) (o : Result Given Place) (p : Place) → o ≡ cited_in e c t → o ≡ Err p → true ≡ justification_keeps e c linked t s
told_cites_nothing e c linked t s o p eo er = ap (λ x. keeps_where_cited linked c x s) (sym er ∙ eo)

pub told_cited : (e : Environment) (c : Context) (linked : Bool) (t : SimpleTree) (s : Statement) (o : Result Given Place) (g : Given) (q : Option Given) (b : Bool) → o ≡ cited_in e c t → o ≡ Ok g → q ≡ given_in linked c g → b ≡ keeps_where_given q s → b ≡ justification_keeps e c linked t s
told_cited e c linked t s o g q b eo eg eq eb = eb ∙ ap (λ x. keeps_where_given x s) eq ∙ ap (λ x. keeps_where_cited linked c x s) (sym eg ∙ eo)

pub ruleset cited_rules = (told_cites_nothing, told_cited)

-- statements
plain : (o : Option (List Statement)) (s : Statement) → true ≡ keeps_where_given (statements_given o) s
plain None s = refl
plain (Some ss) s = refl

plain_where_cited : (linked : Bool) (c : Context) (o : Result (List Statement) Place) (s : Statement) → true ≡ keeps_where_cited linked c (as_statements o) s
plain_where_cited linked c (Ok ss) s = plain (given linked c ss) s
plain_where_cited linked c (Err p) s = refl

pub told_nothing : (e : Environment) (c : Context) (linked : Bool) (s : Statement) → true ≡ justification_keeps e c linked Nothing s
told_nothing e c linked s = plain (given linked c []) s

pub told_by : (e : Environment) (c : Context) (linked : Bool) (by : Place) (rs : Separated ReferenceTree) (s : Statement) → true ≡ justification_keeps e c linked (By by rs) s
told_by e c linked by rs s = plain_where_cited linked c (cites e c (members rs)) s

pub ruleset plain_rules = (told_nothing, told_by)
