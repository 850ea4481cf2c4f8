-- Obligations have one list of faults at most.
use Rattle.std.proofs.Common.{◌≡◌, List, ◌∷◌, refl, sym, ap, ◌∙◌, subst, Option, Some, None}
use Rattle.mz_core.specs.declared.fault.Fault.{Fault}
use Rattle.mz_ground.specs.declared.clause.Clause.{Clause}
use Rattle.mz_nf.specs.declared.problem.Problem.{Problem}
use Rattle.mz_by.specs.Verdict.{IsVerdict}
use Rattle.mz_by.specs.declared.by.ByVerdict.{ByVerdict}
use Rattle.mz_by.proofs.OneVerdict.{one_verdict}
use Rattle.mz_obligations.specs.Done.{clauses_for}
use Rattle.mz_obligations.specs.declared.obligation.Duty.TheVariants.{By, From}
use Rattle.mz_obligations.specs.declared.obligation.Obligation.{Obligation}
use Rattle.mz_obligations.specs.declared.obligation.SchemeVerdict.{SchemeVerdict}
use Rattle.mz_judged.specs.Judged.{told, scheme_told, IsJudged, decided, followed, AreJudged, no_obligations, met, unmet}
use Rattle.mz_judged.specs.Laws.{OneJudgementLaw}

by_or_from : (p : Problem) (v : SchemeVerdict) → By p ≡ From v → ⊥
by_or_from p v e = cc

same_problem : (p q : Problem) → By p ≡ By q → p ≡ q
same_problem p q e = cc

same_verdict : (v w : SchemeVerdict) → From v ≡ From w → v ≡ w
same_verdict v w e = cc

one_decision : (cs : List Clause) (p q : Problem) (v w : ByVerdict) → p ≡ q → IsVerdict p cs v → IsVerdict q cs w → v ≡ w
one_decision cs p q v w e h k = one_verdict q cs v w (subst (λ x. IsVerdict x cs v) e h) k

one_fault : {cs : List Clause} {o : Obligation} {f g : Option Fault} → IsJudged cs o f → IsJudged cs o g → f ≡ g
one_fault {cs} {o} (decided p v d h) (decided q w e k) = ap (told o.place) (one_decision (clauses_for cs o) p q v w (same_problem p q (sym d ∙ e)) h k)
one_fault {cs} {o} (decided p v d h) (followed w e) = absurd (by_or_from p w (sym d ∙ e))
one_fault {cs} {o} (followed v d) (decided q w e k) = absurd (by_or_from q v (sym e ∙ d))
one_fault {cs} {o} (followed v d) (followed w e) = ap (scheme_told o.place) (same_verdict v w (sym d ∙ e))

none_or_some : (f : Fault) → None ≡ Some f → ⊥
none_or_some f e = cc

some_same : (f g : Fault) → Some f ≡ Some g → f ≡ g
some_same f g e = cc

one : {cs : List Clause} {os : List Obligation} {fs gs : List Fault} → AreJudged cs os fs → AreJudged cs os gs → fs ≡ gs
one no_obligations no_obligations = refl
one (met o os fs h r) (met _ _ gs k s) = one r s
one (met o os fs h r) (unmet _ _ g gs k s) = absurd (none_or_some g (one_fault h k))
one (unmet o os f fs h r) (met _ _ gs k s) = absurd (none_or_some f (one_fault k h))
one (unmet o os f fs h r) (unmet _ _ g gs k s) = λ i. some_same f g (one_fault h k) i ∷ one r s i

pub one_judgement : OneJudgementLaw
one_judgement cs os fs gs h k = one h k
