-- Where there is no fault, each obligation is met.
use Rattle.std.proofs.Common.{◌≡◌, inl, inr, List, [], ◌∷◌, refl, sym, subst, Option, None}
use Rattle.mz_base.specs.declared.place.Place.{Place}
use Rattle.mz_core.specs.declared.fault.Fault.{Fault}
use Rattle.mz_ground.specs.ClauseFormula.{HaveNoConstants}
use Rattle.mz_ground.specs.declared.clause.Clause.{Clause}
use Rattle.mz_ground.proofs.ListLemmas.{contains_none, contains_cases}
use Rattle.mz_by.specs.declared.by.ByVerdict.{ByVerdict}
use Rattle.mz_by.specs.declared.by.ByVerdict.TheVariants as verdict
use Rattle.mz_by.proofs.ClosedSound.{closed_derived}
use Rattle.mz_obligations.specs.Done.{clauses_for, IsDone}
use Rattle.mz_obligations.specs.declared.obligation.Obligation.{Obligation}
use Rattle.mz_obligations.specs.declared.obligation.SchemeVerdict.{SchemeVerdict}
use Rattle.mz_obligations.specs.declared.obligation.SchemeVerdict.TheVariants as scheme
use Rattle.mz_judged.specs.Judged.{told, scheme_told, IsJudged, decided, followed, AreJudged, met}
use Rattle.mz_judged.specs.Laws.{MetLaw}

is_closed : (p : Place) (v : ByVerdict) → told p v ≡ None → v ≡ verdict.Closed
is_closed p verdict.Closed e = refl
is_closed p (verdict.Open n) e = let no : ⊥ = cc in absurd no
is_closed p (verdict.Over l n) e = let no : ⊥ = cc in absurd no

fits : (p : Place) (v : SchemeVerdict) → scheme_told p v ≡ None → v ≡ scheme.Fits
fits p scheme.Fits e = refl
fits p scheme.NoFit e = let no : ⊥ = cc in absurd no
fits p (scheme.PremiseCount n) e = let no : ⊥ = cc in absurd no
fits p (scheme.PremiseNoFit n) e = let no : ⊥ = cc in absurd no

-- where there is no fault, what was asked is done
done : {cs : List Clause} {o : Obligation} {f : Option Fault} → IsJudged cs o f → f ≡ None → HaveNoConstants (clauses_for cs o) → IsDone [] (clauses_for cs o) o.duty
done {cs} {o} (decided p v d h) e none = subst (IsDone [] (clauses_for cs o)) (sym d) (closed_derived p (clauses_for cs o) v h (is_closed o.place v e) none)
done {cs} {o} (followed v d) e none = subst (IsDone [] (clauses_for cs o)) (sym d) (fits o.place v e)

one_met : (cs : List Clause) (o : Obligation) → IsJudged cs o None → HaveNoConstants (clauses_for cs o) → IsDone [] (clauses_for cs o) o.duty
one_met cs o h none = done h refl none

-- the first and the others
record FirstMet (cs : List Clause) (o : Obligation) (os : List Obligation) : Type 0 where
  first : IsJudged cs o None
  others : AreJudged cs os []

first_met : {cs : List Clause} {o : Obligation} {os : List Obligation} → AreJudged cs (o ∷ os) [] → FirstMet cs o os
first_met (met o os _ h r) = record { first = h; others = r }

pub met_law : MetLaw
met_law cs [] h o is none = absurd (contains_none o is)
met_law cs (p ∷ os) h o is none =
    let f = first_met h in
    elim (contains_cases p o os is) [
      | inl same ↦ subst (λ x. HaveNoConstants (clauses_for cs x) → IsDone [] (clauses_for cs x) x.duty) same (one_met cs p f.first) none
      | inr later ↦ met_law cs os f.others o later none
    ]
