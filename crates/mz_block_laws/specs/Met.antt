-- What it means that an obligation is met, and what it is worth.
use Rattle.std.specs.Prelude.{◌≡◌, Bool, true, List, ◌++◌, Contains, Some, Ok}
use Rattle.std.specs.List.{list_all}
use Rattle.mz_base.specs.declared.place.Place.{Place}
use Rattle.mz_logic.specs.Formula.{Formula}
use Rattle.mz_logic.specs.Derives.{Derives}
use Rattle.mz_logic.specs.declared.sequent.Sequent.{Sequent}
use Rattle.mz_core.specs.Statement.{Statement}
use Rattle.mz_core.specs.Erasure.{erase}
use Rattle.mz_core.specs.Below.{statement_below}
use Rattle.mz_core.specs.InForce.{statement_in_force}
use Rattle.mz_core.specs.TypedSequent.{erased_sequent}
use Rattle.mz_items.specs.Closed.{scheme_closed}
use Rattle.mz_items.specs.SchemeRows.{scheme_sequent}
use Rattle.mz_context.specs.Context.{next}
use Rattle.mz_context.specs.declared.context.Context.{Context}
use Rattle.mz_ground.specs.ClauseFormula.{clause_formula}
use Rattle.mz_ground.specs.declared.clause.Clause.{Clause}
use Rattle.mz_environment.specs.declared.cited.CitedScheme.{CitedScheme}
use Rattle.mz_environment.specs.declared.cited.CitedStatement.{CitedStatement}
use Rattle.mz_environment.specs.declared.environment.Environment.{Environment}
use Rattle.mz_environment.specs.declared.unfoldings.Unfolding.{Unfolding}
use Rattle.mz_tree_proof.specs.declared.references.ReferenceTree.{ReferenceTree}
use Rattle.mz_cited.specs.Cited.{cites}
use Rattle.mz_steps.specs.Premises.{given}
use Rattle.mz_obligations.specs.Obligations.{IsObligation}
use Rattle.mz_obligations.specs.Done.{clauses_for, IsDone}
use Rattle.mz_obligations.specs.declared.obligation.Obligation.{Obligation}
use Rattle.mz_obligations.specs.declared.obligation.Extent.{Extent}
use Rattle.mz_steps_laws.specs.Facts.{facts}
use Rattle.mz_block_laws.specs.Orders.{Stands, AreFounded, IsInOrder}

-- an obligation is met where what it asks is done, by the clauses for it
abbrev pub IsMet : List Formula → List Clause → Obligation → Type 0
IsMet axioms clauses o = IsDone axioms (clauses_for clauses o) o.duty

abbrev pub AreMet : List Formula → List Clause → List Obligation → Type 0
AreMet axioms clauses os = (o : Obligation) → Contains os o → IsMet axioms clauses o

-- each clause derives from what is held
abbrev pub AreHeld : List Formula → List Formula → List Clause → Type 0
AreHeld axioms held cs = (k : Clause) → Contains cs k → Derives axioms held (clause_formula k)

-- each statement derives from what the context says, has no loose index, and constants in force alone
abbrev pub AreKnown : List Formula → List Formula → Context → List Statement → Type 0
AreKnown axioms held c ss = ((s : Statement) → Contains ss s → Derives axioms (facts c ++ held) (erase s)) × (list_all (statement_below 0) ss ≡ true) × (list_all (statement_in_force (next c)) ss ≡ true)

-- where its obligation is met a statement derives
abbrev pub JustifiedLaw : Type 0
JustifiedLaw =
    (axioms held : List Formula) (cs : List Clause) (us : List Unfolding) → AreFounded axioms held cs us → (c : Context) → IsInOrder held c →
    (clauses letters : List Clause) → AreHeld axioms held clauses → AreHeld axioms held letters →
    (ss : List Statement) → AreKnown axioms held c ss → (s : Statement) → Stands (next c) s →
    (place : Place) (extent : Extent) (o : Obligation) → IsObligation cs us c.constants ss s place extent letters o → IsMet axioms clauses o → Derives axioms (facts c ++ held) (erase s)

-- each theorem that may be cited derives from what is held, and has no loose index and no constant
abbrev pub AreTheorems : List Formula → List Formula → Environment → Type 0
AreTheorems axioms held e = (s : CitedStatement) → Contains e.theorems s → Derives axioms held (erase s.statement) × (statement_below 0 s.statement ≡ true) × (statement_in_force 0 s.statement ≡ true)

-- the sequent derives
abbrev pub IsDerivedSequent : List Formula → Sequent → Type 0
IsDerivedSequent axioms q = Derives axioms q.premises q.conclusion

-- each scheme that may be cited derives, its conclusion from its letters' types and its premises, and has no constant and no loose index
abbrev pub AreSchemes : List Formula → Environment → Type 0
AreSchemes axioms e = (s : CitedScheme) → Contains e.schemes s → IsDerivedSequent axioms (erased_sequent (scheme_sequent s.scheme)) × (scheme_closed s.scheme ≡ true)

-- what a justification is given derives, too
abbrev pub GivenLaw : Type 0
GivenLaw =
    (axioms held : List Formula) (e : Environment) → AreTheorems axioms held e → (c : Context) → IsInOrder held c →
    (linked : Bool) (rs : List ReferenceTree) (cited ss : List Statement) → cites e c rs ≡ Ok cited → given linked c cited ≡ Some ss → AreKnown axioms held c ss
