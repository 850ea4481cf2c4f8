-- What entries of an environment say derives, where what the items say from which they come derives.
use Rattle.std.specs.Prelude.{List, [], ◌++◌, map, flat_map, All, Contains}
use Rattle.mz_logic.specs.Formula.{Formula}
use Rattle.mz_logic.specs.Derives.{Derives}
use Rattle.mz_logic.specs.declared.sequent.Sequent.{Sequent}
use Rattle.mz_core.specs.Erasure.{erase}
use Rattle.mz_core.specs.declared.item.Item.{Item}
use Rattle.mz_core.specs.declared.outcome.Export.{Export}
use Rattle.mz_ground.specs.ClauseFormula.{clause_formula}
use Rattle.mz_ground.specs.declared.clause.Clause.{Clause}
use Rattle.mz_items.specs.Exports.{item_statements, statements_of}
use Rattle.mz_items.specs.Items.{owes}
use Rattle.mz_items.specs.SchemeRows.{scheme_sequent}
use Rattle.mz_axioms.specs.Library.{HasClosedItems}
use Rattle.mz_clause_laws.specs.RowLaws.{AllFollow}
use Rattle.mz_unfolding_laws.specs.UnfoldingLaw.{Unfolds}
use Rattle.mz_environment.specs.declared.unfoldings.Unfolding.{Unfolding}
use Rattle.mz_environment.specs.declared.cited.CitedStatement.{CitedStatement}
use Rattle.mz_environment.specs.declared.cited.CitedScheme.{CitedScheme}
use Rattle.mz_environment.specs.declared.environment.Environment.{Environment}
use Rattle.mz_env_laws.specs.Entries.{IsOfExports, AreOfItems}

-- what each item of the exports grants, and what it owes without premises, derives
abbrev pub AreSaid : List Formula → List Formula → List Export → Type 0
AreSaid axioms premises exports =
    (d : Export) → Contains exports d → (x : Item) → Contains d.items x → AllFollow axioms premises (item_statements x)

-- each sequent that an item of the exports owes derives, from its own premises
abbrev pub AllOwedDerive : List Formula → List Export → Type 0
AllOwedDerive axioms exports =
    (d : Export) → Contains exports d → (x : Item) → Contains d.items x → (q : Sequent) → Contains (owes x) q → Derives axioms q.premises q.conclusion

-- so it is from what the exports say
abbrev pub SaidLaw : Type 0
SaidLaw = (exports : List Export) (premises : List Formula) → AreSaid (flat_map statements_of exports) premises exports

-- each clause derives
abbrev pub ClausesLaw : Type 0
ClausesLaw =
    (exports : List Export) (e : Environment) → AreOfItems (IsOfExports exports) e → All HasClosedItems exports →
    (axioms premises : List Formula) → AreSaid axioms premises exports →
    (c : Clause) → Contains (e.typing ++ e.further ++ e.equalities) c → Derives axioms premises (clause_formula c)

-- each unfolding is as much as its definiens
abbrev pub UnfoldingsLaw : Type 0
UnfoldingsLaw =
    (exports : List Export) (e : Environment) → AreOfItems (IsOfExports exports) e →
    (axioms : List Formula) → AreSaid axioms [] exports →
    (u : Unfolding) → Contains (e.steps ++ e.expansions) u → Unfolds axioms u

-- each theorem and each definitional theorem that may be cited derives
abbrev pub StatementsLaw : Type 0
StatementsLaw =
    (exports : List Export) (e : Environment) → AreOfItems (IsOfExports exports) e →
    (axioms premises : List Formula) → AreSaid axioms premises exports →
    (c : CitedStatement) → Contains e.theorems c → Derives axioms premises (erase c.statement)

-- each scheme that may be cited derives: its conclusion from the types of its functor letters and its premises
abbrev pub SchemesLaw : Type 0
SchemesLaw =
    (exports : List Export) (e : Environment) → AreOfItems (IsOfExports exports) e →
    (axioms : List Formula) → AreSaid axioms [] exports → AllOwedDerive axioms exports →
    (c : CitedScheme) → Contains e.schemes c → Derives axioms (map erase (scheme_sequent c.scheme).premises) (erase (scheme_sequent c.scheme).conclusion)
