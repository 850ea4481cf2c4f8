-- Counts that are capped at each step, and counts as lengths.
use Rattle.std.proofs.Common.{◌≡◌, ◌<◌, ◌≤◌, ℕ, ◌+◌, ◌*◌, List, [], ◌∷◌, ◌++◌, length, take, get_or, refl, ap, sym, ◌∙◌, arith, Bool, true, false, add-one}
use Rattle.std.proofs.Math.Nat.{mul_assoc, mul-one}
use Rattle.std.proofs.Math.Seq.{take-suc}
use Rattle.std.proofs.lemmas.List.{take_all}
use Rattle.mz_logic.specs.Term.{Term}
use Rattle.mz_logic.specs.Formula.{Formula, Truth, Eq, Atom, Not, And, All}
use Rattle.mz_logic.specs.Substitution.{substitute_formula}
use Rattle.mz_logic.specs.Capped.{capped}
use Rattle.mz_logic.proofs.CappedLemmas.{capped-zero, capped-one, told_product, told_sum}
use Rattle.mz_nf.specs.declared.problem.Problem.{Problem}
use Rattle.mz_nf.specs.Count.{count, count_all, count_of}

pub told_conjunction : (s : Bool) (f g h : Formula) (x m n : ℕ) → s ≡ true → f ≡ And g h → x ≡ capped (m * n) → m ≡ capped (count true g) → n ≡ capped (count true h) → x ≡ capped (count s f)
told_conjunction s f g h x m n z e ex em en = rw (z, e) (told_product x m n (count true g) (count true h) ex em en)

pub told_conjunction_negated : (s : Bool) (f g h : Formula) (x m n : ℕ) → s ≡ false → f ≡ And g h → x ≡ capped (m + n) → m ≡ capped (count false g) → n ≡ capped (count false h) → x ≡ capped (count s f)
told_conjunction_negated s f g h x m n z e ex em en = rw (z, e) (told_sum x m n (count false g) (count false h) ex em en)

pub count_all-append : (fs gs : List Formula) → count_all (fs ++ gs) ≡ count_all fs * count_all gs
count_all-append [] gs = omega arith
count_all-append (f ∷ fs) gs = ap (λ x. count true f * x) (count_all-append fs gs) ∙ sym (mul_assoc (count true f) (count_all fs) (count_all gs))

count_all-one : (f : Formula) → count_all (f ∷ []) ≡ count true f
count_all-one f = mul-one (count true f)

pub count_all-more : (fs : List Formula) (f : Formula) → count_all (fs ++ f ∷ []) ≡ count_all fs * count true f
count_all-more fs f = count_all-append fs (f ∷ []) ∙ ap (λ x. count_all fs * x) (count_all-one f)

-- a step of the loop over a list, and its end
pub told_step : (fs : List Formula) (f : Formula) (i x total c : ℕ) → x ≡ capped (total * c) → total ≡ capped (count_all (take i fs)) → c ≡ capped (count true f) → f ≡ get_or fs i f → i < length fs → x ≡ capped (count_all (take (i + 1) fs))
told_step fs f i x total c ex et ec g lt =
    let more : take (i + 1) fs ≡ take i fs ++ f ∷ [] = ap (λ n. take n fs) (add-one i) ∙ take-suc fs i f lt ∙ ap (λ y. take i fs ++ y ∷ []) (sym g) in
    told_product x total c (count_all (take i fs)) (count true f) ex et ec ∙ ap capped (sym (ap count_all more ∙ count_all-more (take i fs) f))

pub told_all : (fs : List Formula) (i x : ℕ) → x ≡ capped (count_all (take i fs)) → length fs ≤ i → x ≡ capped (count_all fs)
told_all fs i x e le = e ∙ ap (λ gs. capped (count_all gs)) (take_all i fs le)

pub told_problem : (p : Problem) (x m n : ℕ) → x ≡ capped (m * n) → m ≡ capped (count_all p.premises) → n ≡ capped (count false p.conclusion) → x ≡ count_of p
told_problem p x m n ex em en = told_product x m n (count_all p.premises) (count false p.conclusion) ex em en ∙ ap capped (sym (count_all-more p.premises (Not p.conclusion)))

-- a capped count is 0 exactly where the count is
pub product-told_zero : (x m n a b : ℕ) → x ≡ capped (m * n) → m ≡ capped a → n ≡ capped b → x ≡ 0 → a * b ≡ 0
unfolding capped
product-told_zero x m n a b ex em en z =
    let e : x ≡ capped (a * b) = told_product x m n a b ex em en in
    omega arith

pub told_some : (x m n a b : ℕ) → x ≡ capped (m * n) → m ≡ capped a → n ≡ capped b → a * b ≡ 0 → x ≡ 0
unfolding capped
told_some x m n a b ex em en z = told_product x m n a b ex em en ∙ ap capped z

pub ruleset pair_rules = (product-told_zero, told_some)

pub ruleset count_rules = (capped-zero, capped-one, told_conjunction, told_conjunction_negated)

pub ruleset list_rules = (capped-one, told_step, told_all)

pub ruleset problem_rules = (told_problem)

-- a count is that of any instance
pub count-substitute_formula : (s : Bool) (d : ℕ) (v : ℕ → Term) (f : Formula) → count s (substitute_formula d v f) ≡ count s f
count-substitute_formula true d v Truth = refl
count-substitute_formula false d v Truth = refl
count-substitute_formula true d v (Eq t u) = refl
count-substitute_formula false d v (Eq t u) = refl
count-substitute_formula true d v (Atom p us) = refl
count-substitute_formula false d v (Atom p us) = refl
count-substitute_formula true d v (Not f) = count-substitute_formula false d v f
count-substitute_formula false d v (Not f) = count-substitute_formula true d v f
count-substitute_formula true d v (And f g) = λ i. count-substitute_formula true d v f i * count-substitute_formula true d v g i
count-substitute_formula false d v (And f g) = λ i. count-substitute_formula false d v f i + count-substitute_formula false d v g i
count-substitute_formula true d v (All f) = refl
count-substitute_formula false d v (All f) = count-substitute_formula false (d + 1) v f
