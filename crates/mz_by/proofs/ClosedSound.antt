-- The conclusion of a closed problem derives.
use Rattle.std.proofs.Common.{◌≡◌, ℕ, zero, suc, List, [], ◌∷◌, ◌++◌, map, ap, subst, arith}
use Rattle.std.specs.Prelude.{Contains}
use Rattle.mz_logic.specs.Literal.{literal_formula}
use Rattle.mz_logic.specs.declared.disjunct.Disjunct.{Disjunct}
use Rattle.mz_logic.proofs.Rules.{hypothesis}
use Rattle.mz_nf.specs.declared.problem.Problem.{Problem}
use Rattle.mz_nf.specs.Disjunct.{formulas_of}
use Rattle.mz_ground.specs.declared.clause.Clause.{Clause}
use Rattle.mz_ground.specs.ClauseFormula.{clause_formula, HaveNoConstants}
use Rattle.mz_ground.specs.Laws.{IsGranted}
use Rattle.mz_refute.specs.Laws.{AreGranted}
use Rattle.mz_refute.proofs.RefutedSound.{closed_derives}
use Rattle.mz_by.specs.declared.by.ByVerdict.{ByVerdict}
use Rattle.mz_by.specs.declared.by.ByVerdict.TheVariants.{Closed}
use Rattle.mz_by.specs.Verdict.{IsClosedWithin, DecidesAll, Decides, IsVerdict, all_closed, decided, passed, by_terms, by_atoms, by_work, is_open, too_many, on_disjuncts}
use Rattle.std.proofs.lemmas.List.Elements.{Contains-append_left, Contains-append_right}
use Rattle.mz_nf.specs.Splits.{AreDisjuncts}
use Rattle.mz_nf.specs.Laws.{HasConstantsOf}
use Rattle.mz_nf.proofs.SoundLemmas.{splitting}
use Rattle.mz_by.specs.Laws.{IsDerived}

-- a member of a list is a member of its image
Contains-map : {A B : Type 0} (f : A → B) (xs : List A) (x : A) → Contains xs x → Contains (map f xs) (f x)
Contains-map f [] x c = absurd (omega (arith, c.1))
Contains-map f (y ∷ ys) x (zero, lt, e) = (0, omega arith, ap f e)
Contains-map f (y ∷ ys) x (suc k, lt, e) =
    let c = Contains-map f ys x (k, omega arith, e) in
    (suc c.0, omega (arith, c.1), c.2)

-- what a disjunct says and the clauses grant it
granted : (d : Disjunct) (cs : List Clause) → IsGranted [] (formulas_of d ++ map clause_formula cs) d cs
granted d cs = record {
  literals = λ l c. hypothesis [] (formulas_of d ++ map clause_formula cs) (literal_formula l)
      (Contains-append_left (formulas_of d) (map clause_formula cs) (literal_formula l) (Contains-append_left (map literal_formula d.literals) d.universals (literal_formula l) (Contains-map literal_formula d.literals l c)));
  clauses = λ k c. hypothesis [] (formulas_of d ++ map clause_formula cs) (clause_formula k)
      (Contains-append_right (formulas_of d) (map clause_formula cs) (clause_formula k) (Contains-map clause_formula cs k c));
}

universals_granted : (d : Disjunct) (cs : List Clause) → AreGranted [] (formulas_of d ++ map clause_formula cs) d
universals_granted d cs f c = hypothesis [] (formulas_of d ++ map clause_formula cs) f
    (Contains-append_left (formulas_of d) (map clause_formula cs) f (Contains-append_right (map literal_formula d.literals) d.universals f c))

not_closed : (d : Disjunct) (cs : List Clause) (n : ℕ) (v : ByVerdict) → Decides d cs n v → v ≡ Closed → ⊥
not_closed d cs n v (by_terms k h) e = cc
not_closed d cs n v (by_atoms k h) e = cc
not_closed d cs n v (by_work k h i j) e = cc
not_closed d cs n v (is_open h i j) e = cc

-- each disjunct of a closed problem is closed
each_closed : (cs : List Clause) (n : ℕ) (ds : List Disjunct) (v : ByVerdict) → DecidesAll cs n ds v → v ≡ Closed → (d : Disjunct) → Contains ds d → IsClosedWithin d cs
each_closed cs n ds v (all_closed m) e d c = absurd (omega (arith, c.1))
each_closed cs n ds v (decided m k ks w x) e d c = absurd (not_closed k cs m w x e)
each_closed cs n ds v (passed m k ks w x h) e d (zero, lt, same) = subst (λ j. IsClosedWithin j cs) same x
each_closed cs n ds v (passed m k ks w x h) e d (suc i, lt, same) = each_closed cs (suc m) ks w h e d (i, omega arith, same)

no_new_constant : (p : Problem) (cs : List Clause) → HaveNoConstants cs → HasConstantsOf p (map clause_formula cs)
no_new_constant p cs h c le new = h c

-- where the disjuncts of a problem are closed, its conclusion derives
disjuncts_derive : (p : Problem) (cs : List Clause) (ds : List Disjunct) (v : ByVerdict) → HaveNoConstants cs → AreDisjuncts p ds → DecidesAll cs 1 ds v → v ≡ Closed → IsDerived p cs
disjuncts_derive p cs ds v h a x e =
    splitting [] (map clause_formula cs) p ds a (no_new_constant p cs h)
    (λ d c. closed_derives [] (formulas_of d ++ map clause_formula cs) d cs (granted d cs) (universals_granted d cs) (each_closed cs 1 ds v x e d c).closed)

pub closed_derived : (p : Problem) (cs : List Clause) (v : ByVerdict) → IsVerdict p cs v → v ≡ Closed → HaveNoConstants cs → IsDerived p cs
closed_derived p cs v (too_many lt) e h = cc
closed_derived p cs v (on_disjuncts ds w few a x) e h = disjuncts_derive p cs ds w h a x e
