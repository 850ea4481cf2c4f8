-- Formulas that derive one another, and their normal forms.
use Rattle.std.proofs.Common.{◌≡◌, ◌≤◌, ℕ, zero, suc, ◌+◌, max, List, [], ◌∷◌, refl, ap, ◌∙◌, subst, arith, false}
use Rattle.std.proofs.lemmas.Bool.{or_from}
use Rattle.mz_logic.specs.Term.{Term, Const}
use Rattle.mz_logic.specs.Formula.{Formula, Truth, Eq, Atom, Not, And, All}
use Rattle.mz_logic.specs.FormulaStorage.{formula_size}
use Rattle.mz_logic.specs.Constants.{occurs_in_formula}
use Rattle.mz_logic.specs.Substitution.{substitute_formula, value_at, body_at}
use Rattle.mz_logic.specs.Negation.{falsity, negated}
use Rattle.mz_logic.specs.Same.{IsSame, grouped, normal_form}
use Rattle.mz_logic.specs.Derives.{Derives}
use Rattle.mz_logic.proofs.Rules.{and_in, and_left, and_right, not_in, not_out, all_in, all_out}
use Rattle.mz_logic.proofs.Connectives.{first, second, through, twice_in, twice_out}
use Rattle.mz_logic.proofs.SameRelation.{normal_form-IsSame}
use Rattle.mz_logic.proofs.Fresh.{formula_greatest, occurs_in_formula-above}

-- each derives the other
abbrev pub Equivalent : List Formula → Formula → Formula → Type 0
Equivalent ax f g = Derives ax (f ∷ []) g × Derives ax (g ∷ []) f

pub equivalent_self : (ax : List Formula) (f : Formula) → Equivalent ax f f
equivalent_self ax f = (first ax [] f, first ax [] f)

pub equivalent_chain : (ax : List Formula) (f g h : Formula) → Equivalent ax f g → Equivalent ax g h → Equivalent ax f h
equivalent_chain ax f g h d e = (through ax (f ∷ []) g h e.0 d.0, through ax (h ∷ []) g f d.1 e.1)

equivalent_from : (ax : List Formula) (f g : Formula) → f ≡ g → Equivalent ax f g
equivalent_from ax f g e = subst (Equivalent ax f) e (equivalent_self ax f)

one_Not : (ax : List Formula) (f g : Formula) → Derives ax (g ∷ []) f → Derives ax (Not f ∷ []) (Not g)
one_Not ax f g d =
    let h : List Formula = g ∷ Not f ∷ [] in
    not_in ax (Not f ∷ []) g (not_out ax h f falsity (through ax h g f d (first ax (Not f ∷ []) g)) (second ax [] (Not f) g))

pub equivalent_Not : (ax : List Formula) (f g : Formula) → Equivalent ax f g → Equivalent ax (Not f) (Not g)
equivalent_Not ax f g e = (one_Not ax f g e.1, one_Not ax g f e.0)

one_And : (ax : List Formula) (f g h k : Formula) → Derives ax (f ∷ []) h → Derives ax (g ∷ []) k → Derives ax (And f g ∷ []) (And h k)
one_And ax f g h k d e =
    let p : List Formula = And f g ∷ [] in
    and_in ax p h k (through ax p f h d (and_left ax p f g (first ax [] (And f g)))) (through ax p g k e (and_right ax p f g (first ax [] (And f g))))

pub equivalent_And : (ax : List Formula) (f g h k : Formula) → Equivalent ax f h → Equivalent ax g k → Equivalent ax (And f g) (And h k)
equivalent_And ax f g h k d e = (one_And ax f g h k d.0 e.0, one_And ax h k f g d.1 e.1)

one_All : (ax : List Formula) (f g : Formula) (c : ℕ) → occurs_in_formula c f ≡ false → occurs_in_formula c g ≡ false → Derives ax (body_at f (Const c) ∷ []) (body_at g (Const c)) → Derives ax (All f ∷ []) (All g)
one_All ax f g c nf ng d =
    let h : List Formula = All f ∷ [] in
    let at : Derives ax h (body_at f (Const c)) = all_out ax h f (Const c) refl (first ax [] (All f)) in
    all_in ax h g c (or_from _ _ nf refl) ng (through ax h (body_at f (Const c)) (body_at g (Const c)) d at)

-- bodies that are equivalent at a constant that neither has
pub equivalent_All : (ax : List Formula) (f g : Formula) (c : ℕ) → occurs_in_formula c f ≡ false → occurs_in_formula c g ≡ false → Equivalent ax (body_at f (Const c)) (body_at g (Const c)) → Equivalent ax (All f) (All g)
equivalent_All ax f g c nf ng e = (one_All ax f g c nf ng e.0, one_All ax g f c ng nf e.1)

pub equivalent_negated : (ax : List Formula) (f : Formula) → Equivalent ax (Not f) (negated f)
equivalent_negated ax Truth = equivalent_self ax (Not Truth)
equivalent_negated ax (Eq t u) = equivalent_self ax (Not (Eq t u))
equivalent_negated ax (Atom s ts) = equivalent_self ax (Not (Atom s ts))
equivalent_negated ax (Not f) = (twice_out ax (Not (Not f) ∷ []) f (first ax [] (Not (Not f))), twice_in ax (f ∷ []) f (first ax [] f))
equivalent_negated ax (And f g) = equivalent_self ax (Not (And f g))
equivalent_negated ax (All f) = equivalent_self ax (Not (All f))

regroup : (ax : List Formula) (f g h : Formula) → Equivalent ax (And (And f g) h) (And f (And g h))
regroup ax f g h =
    let l : Formula = And (And f g) h in
    let r : Formula = And f (And g h) in
    let pl : List Formula = l ∷ [] in
    let pr : List Formula = r ∷ [] in
    let fg : Derives ax pl (And f g) = and_left ax pl (And f g) h (first ax [] l) in
    let gh : Derives ax pr (And g h) = and_right ax pr f (And g h) (first ax [] r) in (
      and_in ax pl f (And g h) (and_left ax pl f g fg) (and_in ax pl g h (and_right ax pl f g fg) (and_right ax pl (And f g) h (first ax [] l))),
      and_in ax pr (And f g) h (and_in ax pr f g (and_left ax pr f (And g h) (first ax [] r)) (and_left ax pr g h gh)) (and_right ax pr g h gh),
    )

pub equivalent_grouped : (ax : List Formula) (f h : Formula) → Equivalent ax (And f h) (grouped f h)
equivalent_grouped ax Truth h = equivalent_self ax (And Truth h)
equivalent_grouped ax (Eq t u) h = equivalent_self ax (And (Eq t u) h)
equivalent_grouped ax (Atom s ts) h = equivalent_self ax (And (Atom s ts) h)
equivalent_grouped ax (Not f) h = equivalent_self ax (And (Not f) h)
equivalent_grouped ax (And f g) h = equivalent_chain ax (And (And f g) h) (And f (And g h)) (And f (grouped g h)) (regroup ax f g h) (equivalent_And ax f (And g h) f (grouped g h) (equivalent_self ax f) (equivalent_grouped ax g h))
equivalent_grouped ax (All f) h = equivalent_self ax (And (All f) h)

-- normal forms and the body of a quantifier
negated-substitute_formula : (depth : ℕ) (v : ℕ → Term) (f : Formula) → negated (substitute_formula depth v f) ≡ substitute_formula depth v (negated f)
negated-substitute_formula depth v Truth = refl
negated-substitute_formula depth v (Eq t u) = refl
negated-substitute_formula depth v (Atom s us) = refl
negated-substitute_formula depth v (Not f) = refl
negated-substitute_formula depth v (And f g) = refl
negated-substitute_formula depth v (All f) = refl

grouped-substitute_formula : (depth : ℕ) (v : ℕ → Term) (f h : Formula) → grouped (substitute_formula depth v f) (substitute_formula depth v h) ≡ substitute_formula depth v (grouped f h)
grouped-substitute_formula depth v Truth h = refl
grouped-substitute_formula depth v (Eq t u) h = refl
grouped-substitute_formula depth v (Atom s us) h = refl
grouped-substitute_formula depth v (Not f) h = refl
grouped-substitute_formula depth v (And f g) h = ap (λ k. And (substitute_formula depth v f) k) (grouped-substitute_formula depth v g h)
grouped-substitute_formula depth v (All f) h = refl

pub normal_form-substitute_formula : (depth : ℕ) (v : ℕ → Term) (f : Formula) → normal_form (substitute_formula depth v f) ≡ substitute_formula depth v (normal_form f)
normal_form-substitute_formula depth v Truth = refl
normal_form-substitute_formula depth v (Eq t u) = refl
normal_form-substitute_formula depth v (Atom s us) = refl
normal_form-substitute_formula depth v (Not f) = ap negated (normal_form-substitute_formula depth v f) ∙ negated-substitute_formula depth v (normal_form f)
normal_form-substitute_formula depth v (And f g) = (λ i. grouped (normal_form-substitute_formula depth v f i) (normal_form-substitute_formula depth v g i)) ∙ grouped-substitute_formula depth v (normal_form f) (normal_form g)
normal_form-substitute_formula depth v (All f) = ap All (normal_form-substitute_formula (depth + 1) v f)

pub formula_size-substitute_formula : (depth : ℕ) (v : ℕ → Term) (f : Formula) → formula_size (substitute_formula depth v f) ≡ formula_size f
formula_size-substitute_formula depth v Truth = refl
formula_size-substitute_formula depth v (Eq t u) = refl
formula_size-substitute_formula depth v (Atom s us) = refl
formula_size-substitute_formula depth v (Not f) = ap suc (formula_size-substitute_formula depth v f)
formula_size-substitute_formula depth v (And f g) = λ i. suc (formula_size-substitute_formula depth v f i + formula_size-substitute_formula depth v g i)
formula_size-substitute_formula depth v (All f) = ap suc (formula_size-substitute_formula (depth + 1) v f)

-- each formula and its normal form
normal_within : (ax : List Formula) (n : ℕ) (f : Formula) → formula_size f ≤ n → Equivalent ax f (normal_form f)
normal_within ax n Truth le = equivalent_self ax Truth
normal_within ax n (Eq t u) le = equivalent_self ax (Eq t u)
normal_within ax n (Atom s ts) le = equivalent_self ax (Atom s ts)
normal_within ax zero (Not f) le = absurd (omega arith)
normal_within ax (suc n) (Not f) le =
    let m : Formula = normal_form f in
    equivalent_chain ax (Not f) (Not m) (negated m) (equivalent_Not ax f m (normal_within ax n f (omega arith))) (equivalent_negated ax m)
normal_within ax zero (And f g) le = absurd (omega arith)
normal_within ax (suc n) (And f g) le =
    let m : Formula = normal_form f in
    let k : Formula = normal_form g in
    equivalent_chain ax (And f g) (And m k) (grouped m k) (equivalent_And ax f g m k (normal_within ax n f (omega arith)) (normal_within ax n g (omega arith))) (equivalent_grouped ax m k)
normal_within ax zero (All f) le = absurd (omega arith)
normal_within ax (suc n) (All f) le =
    let m : Formula = normal_form f in
    let c : ℕ = suc (max (formula_greatest f) (formula_greatest m)) in
    let smaller : formula_size (body_at f (Const c)) ≤ n = omega (arith, formula_size-substitute_formula 0 (value_at (Const c ∷ [])) f) in
    let inner : Equivalent ax (body_at f (Const c)) (normal_form (body_at f (Const c))) = normal_within ax n (body_at f (Const c)) smaller in
    let moved : Equivalent ax (body_at f (Const c)) (body_at m (Const c)) = subst (Equivalent ax (body_at f (Const c))) (normal_form-substitute_formula 0 (value_at (Const c ∷ [])) f) inner in
    equivalent_All ax f m c (occurs_in_formula-above c f (omega arith)) (occurs_in_formula-above c m (omega arith)) moved

pub equivalent_normal_form : (ax : List Formula) (f : Formula) → Equivalent ax f (normal_form f)
equivalent_normal_form ax f = normal_within ax (formula_size f) f (omega arith)

-- formulas with one normal form
pub equivalent_same : (ax : List Formula) (f g : Formula) → normal_form f ≡ normal_form g → Equivalent ax f g
equivalent_same ax f g e =
    let back : Equivalent ax g (normal_form g) = equivalent_normal_form ax g in
    equivalent_chain ax f (normal_form g) g (subst (Equivalent ax f) e (equivalent_normal_form ax f)) (back.1, back.0)

pub same_derives : (ax g : List Formula) (f k : Formula) → IsSame f k → Derives ax g f → Derives ax g k
same_derives ax g f k s d = through ax g f k (equivalent_same ax f k (normal_form-IsSame s)).0 d
