-- How the constants of terms and formulas come into a set.
use Rattle.std.proofs.Common.{◌≡◌, ◌<◌, ◌≤◌, ℕ, ◌+◌, List, [], ◌∷◌, length, take, get_or, refl, ap, sym, ◌∙◌, add-one, Bool, true, false}
use Rattle.std.specs.Prelude.{◌||◌, nat_eq, cond}
use Rattle.std.specs.List.{list_any}
use Rattle.std.specs.HashSet.{HashSet, Updates, IsEmpty}
use Rattle.std.proofs.Math.Seq.{take-suc}
use Rattle.std.proofs.lemmas.List.{take_all}
use Rattle.std.proofs.lemmas.List.Folds.{list_any-append}
use Rattle.mz_logic.specs.declared.sym.Sym.{Sym}
use Rattle.mz_logic.specs.Term.{Term, Bound, Const, App, terms_of}
use Rattle.mz_logic.specs.Formula.{Formula, Truth, Eq, Atom, Not, And, All}
use Rattle.mz_logic.specs.Constants.{occurs, occurs_in_formula}
use Rattle.mz_logic.proofs.ConstantLemmas.{occurs_in_args-terms_of}
use Rattle.mz_nf.specs.declared.problem.Problem.{Problem}
use Rattle.mz_nf.specs.Problem.{has_constant}
use Rattle.mz_nf.specs.Constants.{has, AddsTerm, AddsTerms, AddsFormula, AddsFormulas}

or_false : (a : Bool) → a ≡ (a || false)
or_false true = refl
or_false false = refl

or_assoc : (a b c : Bool) → ((a || b) || c) ≡ (a || (b || c))
or_assoc true b c = refl
or_assoc false b c = refl

cond-inserted : (a b : Bool) → cond a true b ≡ (b || a)
cond-inserted true true = refl
cond-inserted true false = refl
cond-inserted false true = refl
cond-inserted false false = refl

-- one more element at the end of those that are taken
any_more : {X : Type 0} (p : X → Bool) (xs : List X) (i : ℕ) (x : X) → x ≡ get_or xs i x → i < length xs → list_any p (take (i + 1) xs) ≡ (list_any p (take i xs) || p x)
any_more p xs i x g lt =
    ap (λ n. list_any p (take n xs)) (add-one i) ∙ ap (list_any p) (take-suc xs i x lt) ∙ list_any-append p (take i xs) (get_or xs i x ∷ [])
    ∙ ap (λ y. list_any p (take i xs) || (p y || false)) (sym g) ∙ ap (λ b. list_any p (take i xs) || b) (sym (or_false (p x)))

pub told_bound : {S : Type 0} (t : Term) (n : ℕ) (a : HashSet ℕ S) → t ≡ Bound n → AddsTerm t a a
unfolding AddsTerm
told_bound t n a e c = rw e (or_false (has a c))

pub told_constant : {S : Type 0} (t : Term) (n : ℕ) (a b : HashSet ℕ S) → t ≡ Const n → Updates nat_eq a b n true → AddsTerm t a b
unfolding AddsTerm
told_constant t n a b e u c = rw e (u.0 c ∙ cond-inserted (nat_eq n c) (has a c))

pub told_application : {S : Type 0} (t : Term) (s : Sym) (ts : List Term) (a b : HashSet ℕ S) → t ≡ App s (terms_of ts) → AddsTerms ts a b → AddsTerm t a b
unfolding AddsTerm AddsTerms
told_application t s ts a b e h c = rw e (h c ∙ ap (λ x. has a c || x) (sym (occurs_in_args-terms_of c ts)))

pub told_no_terms : {S : Type 0} (a : HashSet ℕ S) → AddsTerms [] a a
unfolding AddsTerms
told_no_terms a c = or_false (has a c)

pub told_more_terms : {S : Type 0} (ts : List Term) (t : Term) (i : ℕ) (a b d : HashSet ℕ S) → AddsTerms (take i ts) a b → AddsTerm t b d → t ≡ get_or ts i t → i < length ts → AddsTerms (take (i + 1) ts) a d
unfolding AddsTerm AddsTerms
told_more_terms ts t i a b d h k g lt c =
    k c ∙ ap (λ x. x || occurs c t) (h c) ∙ or_assoc (has a c) (list_any (occurs c) (take i ts)) (occurs c t) ∙ ap (λ x. has a c || x) (sym (any_more (occurs c) ts i t g lt))

pub told_terms : {S : Type 0} (ts : List Term) (i : ℕ) (a b : HashSet ℕ S) → AddsTerms (take i ts) a b → length ts ≤ i → AddsTerms ts a b
unfolding AddsTerms
told_terms ts i a b h le c = h c ∙ ap (λ us. has a c || list_any (occurs c) us) (take_all i ts le)

pub told_truth : {S : Type 0} (f : Formula) (a : HashSet ℕ S) → f ≡ Truth → AddsFormula f a a
unfolding AddsFormula
told_truth f a e c = rw e (or_false (has a c))

pub told_equation : {S : Type 0} (f : Formula) (t u : Term) (a b d : HashSet ℕ S) → f ≡ Eq t u → AddsTerm t a b → AddsTerm u b d → AddsFormula f a d
unfolding AddsTerm AddsFormula
told_equation f t u a b d e h k c = rw e (k c ∙ ap (λ x. x || occurs c u) (h c) ∙ or_assoc (has a c) (occurs c t) (occurs c u))

pub told_atom : {S : Type 0} (f : Formula) (s : Sym) (ts : List Term) (a b : HashSet ℕ S) → f ≡ Atom s ts → AddsTerms ts a b → AddsFormula f a b
unfolding AddsTerms AddsFormula
told_atom f s ts a b e h c = rw e (h c)

pub told_negation : {S : Type 0} (f g : Formula) (a b : HashSet ℕ S) → f ≡ Not g → AddsFormula g a b → AddsFormula f a b
unfolding AddsFormula
told_negation f g a b e h c = rw e (h c)

pub told_conjunction : {S : Type 0} (f g h : Formula) (a b d : HashSet ℕ S) → f ≡ And g h → AddsFormula g a b → AddsFormula h b d → AddsFormula f a d
unfolding AddsFormula
told_conjunction f g h a b d e x y c = rw e (y c ∙ ap (λ z. z || occurs_in_formula c h) (x c) ∙ or_assoc (has a c) (occurs_in_formula c g) (occurs_in_formula c h))

pub told_universal : {S : Type 0} (f g : Formula) (a b : HashSet ℕ S) → f ≡ All g → AddsFormula g a b → AddsFormula f a b
unfolding AddsFormula
told_universal f g a b e h c = rw e (h c)

pub told_no_formulas : {S : Type 0} (a : HashSet ℕ S) → AddsFormulas [] a a
unfolding AddsFormulas
told_no_formulas a c = or_false (has a c)

pub told_more_formulas : {S : Type 0} (fs : List Formula) (f : Formula) (i : ℕ) (a b d : HashSet ℕ S) → AddsFormulas (take i fs) a b → AddsFormula f b d → f ≡ get_or fs i f → i < length fs → AddsFormulas (take (i + 1) fs) a d
unfolding AddsFormula AddsFormulas
told_more_formulas fs f i a b d h k g lt c =
    k c ∙ ap (λ x. x || occurs_in_formula c f) (h c) ∙ or_assoc (has a c) (list_any (occurs_in_formula c) (take i fs)) (occurs_in_formula c f) ∙ ap (λ x. has a c || x) (sym (any_more (occurs_in_formula c) fs i f g lt))

pub told_formulas : {S : Type 0} (fs : List Formula) (i : ℕ) (a b : HashSet ℕ S) → AddsFormulas (take i fs) a b → length fs ≤ i → AddsFormulas fs a b
unfolding AddsFormulas
told_formulas fs i a b h le c = h c ∙ ap (λ gs. has a c || list_any (occurs_in_formula c) gs) (take_all i fs le)

pub has-told_problem : {S : Type 0} (p : Problem) (a b d : HashSet ℕ S) → IsEmpty a → AddsFormulas p.premises a b → AddsFormula p.conclusion b d → (c : ℕ) → has d c ≡ has_constant p c
unfolding AddsFormula AddsFormulas
has-told_problem p a b d e h k c =
    let none : has a c ≡ false = ap (λ ks. list_any (nat_eq c) ks) e in
    k c ∙ ap (λ x. x || occurs_in_formula c p.conclusion) (h c ∙ ap (λ x. x || list_any (occurs_in_formula c) p.premises) none)

pub ruleset term_rules = (told_bound, told_constant, told_application)

pub ruleset terms_rules = (told_no_terms, told_more_terms, told_terms)

pub ruleset formula_rules = (told_truth, told_equation, told_atom, told_negation, told_conjunction, told_universal)

pub ruleset formulas_rules = (told_no_formulas, told_more_formulas, told_formulas)

pub ruleset problem_rules = (has-told_problem)
