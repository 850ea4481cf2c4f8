-- Verdicts under the two profiles.
use Rattle.std.proofs.Common.{◌≡◌, ℕ, zero, suc, List, [], ◌∷◌, ◌++◌, map, refl, subst, arith}
use Rattle.std.specs.Prelude.{Contains, ◌↔◌}
use Rattle.mz_base.specs.declared.profile.Profile.{Profile}
use Rattle.mz_base.specs.declared.profile.Profile.TheVariants.{One, Two}
use Rattle.mz_logic.specs.Negation.{falsity}
use Rattle.mz_logic.specs.Derives.{Derives}
use Rattle.mz_logic.specs.Literal.{literal_formula}
use Rattle.mz_logic.specs.declared.disjunct.Disjunct.{Disjunct}
use Rattle.mz_logic.proofs.Rules.{hypothesis}
use Rattle.mz_nf.specs.declared.problem.Problem.{Problem}
use Rattle.mz_nf.specs.Disjunct.{formulas_of}
use Rattle.mz_nf.specs.Splits.{AreDisjuncts}
use Rattle.mz_nf.specs.Laws.{HasConstantsOf}
use Rattle.mz_nf.proofs.SoundLemmas.{splitting}
use Rattle.mz_ground.specs.declared.clause.Clause.{Clause}
use Rattle.mz_ground.specs.ClauseFormula.{clause_formula, HaveNoConstants}
use Rattle.mz_ground.specs.Laws.{IsGranted}
use Rattle.mz_refute.specs.Laws.{AreGranted}
use Rattle.mz_refute.proofs.RefutedSound.{closed_derives}
use Rattle.mz_forced.proofs.ForcedSound.{next_granted}
use Rattle.std.proofs.lemmas.List.Elements.{Contains-append_left, Contains-append_right}
use Rattle.mz_by.specs.declared.by.ByVerdict.{ByVerdict}
use Rattle.mz_by.specs.declared.by.ByVerdict.TheVariants.{Closed}
use Rattle.mz_by.specs.Laws.{IsDerived}
use Rattle.mz_by.specs.Verdict as first
use Rattle.mz_by.specs.Verdict.{IsClosedWithin, Decides, DecidesAll, IsVerdict}
use Rattle.mz_profiles.specs.Verdict.{IsClosedUnder, DecidesNext, DecidesUnder, DecideAll, IsVerdictUnder, at_once, by_added, next_terms, next_atoms, by_number, is_open, by_one, by_terms, by_atoms, by_next, all_closed, decided, passed, too_many, on_disjuncts}

-- the first profile
closed_first : (d : Disjunct) (cs : List Clause) (p : Profile) → p ≡ One → IsClosedUnder d cs p → IsClosedWithin d cs
closed_first d cs p e (at_once q c) = c
closed_first d cs p e (by_added x k j c) = cc

decides_first : (d : Disjunct) (cs : List Clause) (number : ℕ) (p : Profile) (v : ByVerdict) → p ≡ One → DecidesUnder d cs number p v → Decides d cs number v
decides_first d cs number p v e (by_one a h) = h
decides_first d cs number p v e (by_terms n h) = cc
decides_first d cs number p v e (by_atoms n h) = cc
decides_first d cs number p v e (by_next x a k i j l) = cc

all_first : (cs : List Clause) (number : ℕ) (ds : List Disjunct) (v : ByVerdict) → DecideAll One cs number ds v → DecidesAll cs number ds v
all_first cs number ds v (all_closed n) = first.all_closed n
all_first cs number ds v (decided n d es a h) = first.decided n d es a (decides_first d cs n One a refl h)
all_first cs number ds v (passed n d es a c k) = first.passed n d es a (closed_first d cs One refl c) (all_first cs (suc n) es a k)

first_all : (cs : List Clause) (number : ℕ) (ds : List Disjunct) (v : ByVerdict) → DecidesAll cs number ds v → DecideAll One cs number ds v
first_all cs number ds v (first.all_closed n) = all_closed n
first_all cs number ds v (first.decided n d es a h) = decided n d es a (by_one a h)
first_all cs number ds v (first.passed n d es a c k) = passed n d es a (at_once One c) (first_all cs (suc n) es a k)

verdict_there : (p : Problem) (cs : List Clause) (v : ByVerdict) → IsVerdictUnder One p cs v → IsVerdict p cs v
verdict_there p cs v (too_many lt) = first.too_many lt
verdict_there p cs v (on_disjuncts ds a le s h) = first.on_disjuncts ds a le s (all_first cs 1 ds a h)

verdict_back : (p : Problem) (cs : List Clause) (v : ByVerdict) → IsVerdict p cs v → IsVerdictUnder One p cs v
verdict_back p cs v (first.too_many lt) = too_many lt
verdict_back p cs v (first.on_disjuncts ds a le s h) = on_disjuncts ds a le s (first_all cs 1 ds a h)

pub first_profile : (p : Problem) (cs : List Clause) (v : ByVerdict) → IsVerdictUnder One p cs v ↔ IsVerdict p cs v
first_profile p cs v = (verdict_there p cs v, verdict_back p cs v)

-- what a disjunct decides isn't that all are closed
not_closed_first : (d : Disjunct) (cs : List Clause) (n : ℕ) (v : ByVerdict) → Decides d cs n v → v ≡ Closed → ⊥
not_closed_first d cs n v (first.by_terms k h) e = cc
not_closed_first d cs n v (first.by_atoms k h) e = cc
not_closed_first d cs n v (first.by_work k h i j) e = cc
not_closed_first d cs n v (first.is_open h i j) e = cc

not_closed_next : (d next : Disjunct) (cs : List Clause) (n : ℕ) (v : ByVerdict) → DecidesNext d next cs n v → v ≡ Closed → ⊥
not_closed_next d next cs n v (next_terms k h) e = cc
not_closed_next d next cs n v (next_atoms k h) e = cc
not_closed_next d next cs n v (by_number k h i j) e = cc
not_closed_next d next cs n v (is_open h i j) e = cc

not_closed : (d : Disjunct) (cs : List Clause) (n : ℕ) (p : Profile) (v : ByVerdict) → DecidesUnder d cs n p v → v ≡ Closed → ⊥
not_closed d cs n p v (by_one a h) e = not_closed_first d cs n a h e
not_closed d cs n p v (by_terms k h) e = cc
not_closed d cs n p v (by_atoms k h) e = cc
not_closed d cs n p v (by_next x a k i j l) e = not_closed_next d x cs n a l e

-- what the first profile closes, the second closes
both_all : (cs : List Clause) (number : ℕ) (ds : List Disjunct) (v : ByVerdict) → DecideAll One cs number ds v → v ≡ Closed → DecideAll Two cs number ds v
both_all cs number ds v (all_closed n) e = all_closed n
both_all cs number ds v (decided n d es a h) e = absurd (not_closed d cs n One a h e)
both_all cs number ds v (passed n d es a c k) e = passed n d es a (at_once Two (closed_first d cs One refl c)) (both_all cs (suc n) es a k e)

both_verdicts : (p : Problem) (cs : List Clause) (v : ByVerdict) → IsVerdictUnder One p cs v → v ≡ Closed → IsVerdictUnder Two p cs v
both_verdicts p cs v (too_many lt) e = too_many lt
both_verdicts p cs v (on_disjuncts ds a le s h) e = on_disjuncts ds a le s (both_all cs 1 ds a h e)

pub both_profiles : (p : Problem) (cs : List Clause) → IsVerdictUnder One p cs Closed → IsVerdictUnder Two p cs Closed
both_profiles p cs h = both_verdicts p cs Closed h refl

-- a member of a list is a member of its image
Contains-map : {A B : Type 0} (f : A → B) (xs : List A) (x : A) → Contains xs x → Contains (map f xs) (f x)
Contains-map f [] x c = absurd (omega (arith, c.1))
Contains-map f (y ∷ ys) x (zero, lt, e) = (0, omega arith, λ i. f (e i))
Contains-map f (y ∷ ys) x (suc k, lt, e) =
    let c = Contains-map f ys x (k, omega arith, e) in
    (suc c.0, omega (arith, c.1), c.2)

-- what a disjunct says and the clauses grant it
granted : (d : Disjunct) (cs : List Clause) → IsGranted [] (formulas_of d ++ map clause_formula cs) d cs
granted d cs = record {
  literals = λ l c. hypothesis [] (formulas_of d ++ map clause_formula cs) (literal_formula l)
      (Contains-append_left (formulas_of d) (map clause_formula cs) (literal_formula l) (Contains-append_left (map literal_formula d.literals) d.universals (literal_formula l) (Contains-map literal_formula d.literals l c)));
  clauses = λ k c. hypothesis [] (formulas_of d ++ map clause_formula cs) (clause_formula k)
      (Contains-append_right (formulas_of d) (map clause_formula cs) (clause_formula k) (Contains-map clause_formula cs k c));
}

universals_granted : (d : Disjunct) (cs : List Clause) → AreGranted [] (formulas_of d ++ map clause_formula cs) d
universals_granted d cs f c = hypothesis [] (formulas_of d ++ map clause_formula cs) f
    (Contains-append_left (formulas_of d) (map clause_formula cs) f (Contains-append_right (map literal_formula d.literals) d.universals f c))

-- a closed disjunct derives falsity
under_derives : (d : Disjunct) (cs : List Clause) (p : Profile) → IsClosedUnder d cs p → Derives [] (formulas_of d ++ map clause_formula cs) falsity
under_derives d cs p (at_once q c) = closed_derives [] (formulas_of d ++ map clause_formula cs) d cs (granted d cs) (universals_granted d cs) c.closed
under_derives d cs p (by_added x k j c) =
    let g = next_granted [] (formulas_of d ++ map clause_formula cs) d x cs (granted d cs) (universals_granted d cs) j in
    closed_derives [] (formulas_of d ++ map clause_formula cs) x cs g.0 g.1 c.closed

each_closed : (p : Profile) (cs : List Clause) (n : ℕ) (ds : List Disjunct) (v : ByVerdict) → DecideAll p cs n ds v → v ≡ Closed → (d : Disjunct) → Contains ds d → IsClosedUnder d cs p
each_closed p cs n ds v (all_closed m) e d c = absurd (omega (arith, c.1))
each_closed p cs n ds v (decided m k ks w x) e d c = absurd (not_closed k cs m p w x e)
each_closed p cs n ds v (passed m k ks w x h) e d (zero, lt, same) = subst (λ j. IsClosedUnder j cs p) same x
each_closed p cs n ds v (passed m k ks w x h) e d (suc i, lt, same) = each_closed p cs (suc m) ks w h e d (i, omega arith, same)

no_new_constant : (p : Problem) (cs : List Clause) → HaveNoConstants cs → HasConstantsOf p (map clause_formula cs)
no_new_constant p cs h c le new = h c

disjuncts_derive : (profile : Profile) (p : Problem) (cs : List Clause) (ds : List Disjunct) (v : ByVerdict) → HaveNoConstants cs → AreDisjuncts p ds → DecideAll profile cs 1 ds v → v ≡ Closed → IsDerived p cs
disjuncts_derive profile p cs ds v h a x e =
    splitting [] (map clause_formula cs) p ds a (no_new_constant p cs h)
    (λ d c. under_derives d cs profile (each_closed profile cs 1 ds v x e d c))

verdict_derives : (profile : Profile) (p : Problem) (cs : List Clause) (v : ByVerdict) → IsVerdictUnder profile p cs v → v ≡ Closed → HaveNoConstants cs → IsDerived p cs
verdict_derives profile p cs v (too_many lt) e h = cc
verdict_derives profile p cs v (on_disjuncts ds w few a x) e h = disjuncts_derive profile p cs ds w h a x e

pub closed_under : (profile : Profile) (p : Problem) (cs : List Clause) → IsVerdictUnder profile p cs Closed → HaveNoConstants cs → IsDerived p cs
closed_under profile p cs x h = verdict_derives profile p cs Closed x refl h
