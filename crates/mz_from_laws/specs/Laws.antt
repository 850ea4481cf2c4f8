-- What is found to fit at a `from` derives.
use Rattle.std.specs.Prelude.{◌≡◌, true, List, ◌∷◌, map, Contains, Option}
use Rattle.std.specs.List.{list_all}
use Rattle.mz_logic.specs.Formula.{Formula}
use Rattle.mz_logic.specs.Derives.{Derives}
use Rattle.mz_core.specs.Statement.{Statement}
use Rattle.mz_core.specs.Erasure.{erase}
use Rattle.mz_core.specs.InForce.{statement_in_force}
use Rattle.mz_core.specs.TypedSequent.{erased_sequent}
use Rattle.mz_core.specs.declared.scheme.Scheme.{Scheme}
use Rattle.mz_items.specs.Closed.{scheme_closed}
use Rattle.mz_items.specs.SchemeRows.{scheme_sequent}
use Rattle.mz_context.specs.Context.{numbers}
use Rattle.mz_context.specs.declared.constants.Constant.{Constant}
use Rattle.mz_ground.specs.declared.clause.Clause.{Clause}
use Rattle.mz_fits.specs.Laws.{AreGranted}
use Rattle.mz_thesis_laws.specs.RowLaws.{AreInForce}
use Rattle.mz_obligations.specs.declared.obligation.SchemeVerdict.TheVariants.{Fits}
use Rattle.mz_from.specs.Verdict.{IsVerdict}

-- the conclusion derives from the types of the functor letters and the premises
abbrev pub IsDerivedScheme : List Formula → Scheme → Type 0
IsDerivedScheme axioms scheme = Derives axioms (erased_sequent (scheme_sequent scheme)).premises (erased_sequent (scheme_sequent scheme)).conclusion

-- where the verdict is that the scheme fits, the statement derives from premises from which what is cited derives, the clauses, and what is
-- known of the constants, where the scheme derives from the axioms. The scheme has no constant and no loose index, and the constants of all
-- else are in force
abbrev pub FromLaw : Type 0
FromLaw =
    (axioms premises : List Formula) (cs : List Clause) (ks : List (Option Constant)) → AreGranted axioms premises cs ks → AreInForce (numbers ks) premises →
    (scheme : Scheme) → scheme_closed scheme ≡ true → IsDerivedScheme axioms scheme →
    (cited : List Statement) (s : Statement) → list_all (statement_in_force (numbers ks)) (s ∷ cited) ≡ true →
    ((c : Statement) → Contains cited c → Derives axioms premises (erase c)) →
    IsVerdict cs ks scheme cited s Fits → Derives axioms premises (erase s)
