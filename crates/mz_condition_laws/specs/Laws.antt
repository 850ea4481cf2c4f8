-- Laws of conditions behind a heading.
use Rattle.std.specs.Prelude.{◌≡◌, ℕ, true, List, [], length, Some, None}
use Rattle.mz_logic.specs.Derives.{Derives}
use Rattle.mz_core.specs.Closed.{statement_under, loci_under}
use Rattle.mz_core.specs.Erasure.{erase}
use Rattle.mz_core.specs.Statement.{Statement}
use Rattle.mz_core.specs.declared.item.Item.{Item}
use Rattle.mz_core.specs.declared.outcome.Left.{Left}
use Rattle.mz_ground.specs.Table.{Extends}
use Rattle.mz_ground.specs.declared.clause.Clause.{Clause}
use Rattle.mz_items.specs.Items.{thesis_of}
use Rattle.mz_items.specs.Loci.{over}
use Rattle.mz_items.specs.declared.condition.Condition.{Condition}
use Rattle.mz_context.specs.Context.{next}
use Rattle.mz_context.specs.declared.context.Context.{Context}
use Rattle.mz_environment.specs.declared.environment.Environment.{Environment}
use Rattle.mz_names.specs.Closing.{with_variables}
use Rattle.mz_names.specs.declared.variable.Variable.{Variable}
use Rattle.mz_loci.specs.Loci.{locus_types}
use Rattle.mz_closing_laws.specs.Laws.{loci_of}
use Rattle.mz_obligations.specs.declared.obligation.Extent.{Extent}
use Rattle.mz_obligations.specs.declared.obligation.Obligation.{Obligation}
use Rattle.mz_owed.specs.Owed.{at_first, missing}
use Rattle.mz_conditions.specs.Conditions.{Asked, asked, TakesConditions}
use Rattle.mz_standing.specs.Standing.{extent_of}
use Rattle.mz_standing.specs.declared.standing.Standing.{Standing}
use Rattle.mz_standing_laws.specs.Soundly.{Setting, axioms_at, AreDecided, StandsSoundly}
use Rattle.mz_taken.specs.Taken.{Taken, Made}
use Rattle.mz_term_laws.specs.ChangeLaws.{AreUsable}
use Rattle.mz_tree_item.specs.declared.definition.ConditionTree.{ConditionTree}

-- conditions come to one thing at most
abbrev pub OneConditionsLaw : Type 0
OneConditionsLaw =
    (e : Environment) (at : Extent) (c : Context) (least count : ℕ) (x : Item) (a : Asked) (ws : List ConditionTree) (v w : Taken Asked) →
    TakesConditions e at c least count x a ws v → TakesConditions e at c least count x a ws w → v ≡ w

-- what the conditions of the item state has no constant and no index but those of so many loci
abbrev pub AreClosedTheses : ℕ → Item → Type 0
AreClosedTheses count x = (c : Condition) (t : Statement) → thesis_of x c ≡ Some t → statement_under count t ≡ true

-- Where an article stands soundly, and conditions are taken with these loci besides so that none is missing behind them, each condition of the
-- item derives for all loci, if the obligations are decided by clauses that begin with those that stand above.
abbrev pub ConditionsLaw : Type 0
ConditionsLaw =
    (g : Setting) (s : Standing) (vs : List Variable) (x : Item) (left : Left) (ws : List ConditionTree) (os : List Obligation) (a : Asked) (final : List Clause) →
    StandsSoundly g s → AreUsable (next s.context) s.context vs → loci_under 0 (locus_types (next s.context) (loci_of vs)) ≡ true → AreClosedTheses (length vs) x →
    TakesConditions s.environment (extent_of s) (with_variables s.context vs) (next s.context) (length vs) x (asked (at_first x) left) ws (Made os a) →
    missing a.owed ≡ None → Extends s.clauses final → AreDecided final os →
    (c : Condition) (t : Statement) → thesis_of x c ≡ Some t → Derives (axioms_at g s) [] (erase (over (locus_types (next s.context) (loci_of vs)) t))
