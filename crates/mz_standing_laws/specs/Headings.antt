-- What the headings of a block rest on: contexts with loci, and conditions that are justified in them; and where an article stands behind
-- a heading and behind a scheme.
use Rattle.std.specs.Prelude.{◌≡◌, ℕ, Bool, true, List, []}
use Rattle.mz_base.specs.declared.place.Place.{Place}
use Rattle.mz_logic.specs.Formula.{Formula}
use Rattle.mz_logic.specs.Derives.{Derives}
use Rattle.mz_core.specs.Closed.{statement_under}
use Rattle.mz_core.specs.Erasure.{erase}
use Rattle.mz_core.specs.Statement.{Statement}
use Rattle.mz_core.specs.declared.item.Item.{Item}
use Rattle.mz_core.specs.declared.outcome.Left.{Left}
use Rattle.mz_ground.specs.Table.{Extends}
use Rattle.mz_ground.specs.declared.clause.Clause.{Clause}
use Rattle.mz_context.specs.Context.{next}
use Rattle.mz_context.specs.declared.context.Context.{Context}
use Rattle.mz_names.specs.Closing.{with_variables, for_all}
use Rattle.mz_names.specs.declared.variable.Variable.{Variable}
use Rattle.mz_formulas.specs.declared.sentence.Sentence.{Sentence}
use Rattle.mz_tree_proof.specs.Reasoning.{JustData}
use Rattle.mz_obligations.specs.declared.obligation.Obligation.{Obligation}
use Rattle.mz_walk.specs.Walked.{Made}
use Rattle.mz_walk.specs.Walk.{Justifies}
use Rattle.mz_block_laws.specs.Orders.{AllStand}
use Rattle.mz_walk_laws.specs.Grounds.{IsProper}
use Rattle.mz_level_laws.specs.Level.{IsLevel}
use Rattle.mz_standing.specs.Standing.{extent_of, with_context, with_item, behind_heading, behind_scheme}
use Rattle.mz_standing.specs.declared.standing.Standing.{Standing}
use Rattle.mz_standing_laws.specs.Owed.{IsOwed}
use Rattle.mz_standing_laws.specs.Soundly.{Setting, axioms_at, AreDecided, StandsSoundly, basis, SaysNoMore}

-- a context of the article's own level that says no more than the one where it stands soundly, with these loci besides: the type of each
-- may have the constants of those before it
pub record IsWithLoci (c : Context) (loci : List Variable) (d : Context) : Type 0 where
  pub part : SaysNoMore d (with_variables c loci)
  pub level : IsLevel d

-- in it one may reason; the statement is any that stands there
abbrev pub LociLaw : Type 0
LociLaw =
    (g : Setting) (s : Standing) (loci : List Variable) (t : Statement) (d : Context) (axioms : List Formula) → StandsSoundly g s → AllStand (next s.context) loci t → IsWithLoci s.context loci d →
    IsProper IsLevel (basis axioms [] s) [] d

-- A sentence that is justified in it, where the obligations are decided by clauses that begin with those that stand above: for all loci it
-- derives from what the exports say and what the items above grant.
abbrev pub ConditionLaw : Type 0
ConditionLaw =
    (g : Setting) (s : Standing) (loci : List Variable) (d : Context) (x : Sentence) (left after : Left) (first behind : Place) (linked : Bool) (j : JustData) (os : List Obligation) (final : List Clause) →
    StandsSoundly g s → AllStand (next s.context) loci x.closed → IsWithLoci s.context loci d →
    AllStand (next d) x.variables x.inner → x.closed ≡ for_all (next d) x.variables x.inner → statement_under 0 (for_all (next s.context) loci x.closed) ≡ true →
    Justifies s.environment (extent_of s) d first linked behind j x left (Made os after) → Extends s.clauses final → AreDecided final os →
    Derives (axioms_at g s) [] (erase (for_all (next s.context) loci x.closed))

-- behind a heading whose item is owed there: its symbols are counted, and its definitional theorem has the label
abbrev pub HeadingLaw : Type 0
HeadingLaw =
    (g : Setting) (s : Standing) (x : Item) (label : List ℕ) → StandsSoundly g s → IsOwed (axioms_at g s) x →
    StandsSoundly g (with_context (with_item s x) (behind_heading s.context x label))

-- behind a scheme that is owed there: it has the label
abbrev pub SchemeLaw : Type 0
SchemeLaw =
    (g : Setting) (s : Standing) (x : Item) (label : List ℕ) (number : ℕ) → StandsSoundly g s → IsOwed (axioms_at g s) x →
    StandsSoundly g (with_context (with_item s x) (behind_scheme s.context x label number))
