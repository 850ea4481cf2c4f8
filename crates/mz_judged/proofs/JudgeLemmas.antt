-- What the code of judging finds.
use Rattle.std.proofs.Common.{◌≡◌, ℕ, List, [], ◌∷◌, ◌++◌, take, flat_map, append-nil, sym, ap, subst, ◌∙◌, true, false, Option, Some, None}
use Rattle.std.specs.Prelude.{Result, Ok, Err, IfOk}
use Rattle.std.specs.List.{list_all}
use Rattle.std.specs.declared.alloc.AllocError.{AllocError}
use Rattle.std.proofs.lemmas.Bool.{false≢true}
use Rattle.mz_core.specs.declared.fault.Fault.{Fault}
use Rattle.mz_nf.specs.declared.problem.Problem.{Problem}
use Rattle.mz_ground.specs.declared.clause.Clause.{Clause}
use Rattle.mz_by.specs.Verdict.{IsVerdict}
use Rattle.mz_by.specs.declared.by.ByVerdict.{ByVerdict}
use Rattle.mz_obligations.specs.declared.obligation.Duty.TheVariants.{By, From}
use Rattle.mz_obligations.specs.declared.obligation.Obligation.{Obligation}
use Rattle.mz_obligations.specs.declared.obligation.SchemeVerdict.{SchemeVerdict}
use Rattle.mz_judged.specs.Judged.{told, scheme_told, IsJudged, decided, followed, AreJudged, no_obligations, met, unmet}
use Rattle.mz_judged.specs.Found.{Found, is_found, fault_in, AreFound}

pub without_others : (p : Problem) (cs others : List Clause) (n : ℕ) (r : Result ByVerdict AllocError) → others ≡ [] → IfOk r (IsVerdict p (take n cs)) → IfOk r (IsVerdict p (take n cs ++ others))
without_others p cs others n (Ok v) e h = subst (λ xs. IsVerdict p xs v) (sym (append-nil (take n cs)) ∙ ap (λ ys. take n cs ++ ys) (sym e)) h
without_others p cs others n (Err x) e h = tt

pub decided_so : (cs : List Clause) (o : Obligation) (p : Problem) (v : ByVerdict) (f : Option Fault) → o.duty ≡ By p → IsVerdict p (take o.extent.clauses cs ++ o.letters) v → f ≡ told o.place v → IsJudged cs o f
decided_so cs o p v f d h e = subst (IsJudged cs o) (sym e) (decided p v d h)

pub followed_so : (cs : List Clause) (o : Obligation) (v : SchemeVerdict) (f : Option Fault) → o.duty ≡ From v → f ≡ scheme_told o.place v → IsJudged cs o f
followed_so cs o v f d e = subst (IsJudged cs o) (sym e) (followed v d)

all_so : (cs : List Clause) (os : List Obligation) (found : List Found) → AreFound cs os found → list_all is_found found ≡ true → AreJudged cs os (flat_map fault_in found)
all_so cs [] [] h e = no_obligations
all_so cs [] (f ∷ found) h e = absurd h
all_so cs (o ∷ os) [] h e = absurd h
all_so cs (o ∷ os) (Ok None ∷ found) h e = met o os (flat_map fault_in found) h.0 (all_so cs os found h.1 e)
all_so cs (o ∷ os) (Ok (Some f) ∷ found) h e = unmet o os f (flat_map fault_in found) h.0 (all_so cs os found h.1 e)
all_so cs (o ∷ os) (Err x ∷ found) h e = absurd (false≢true e)

pub all_judged : (cs : List Clause) (os : List Obligation) (found : List Found) (fs : List Fault) → AreFound cs os found → list_all is_found found ≡ true → fs ≡ [] ++ flat_map fault_in found → AreJudged cs os fs
all_judged cs os found fs h e is = subst (AreJudged cs os) (sym is) (all_so cs os found h e)
