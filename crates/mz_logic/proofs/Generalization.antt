-- A constant of a derivable sequent may be any closed term: it is generalized over, and the
-- quantifier is taken at the term.
use Rattle.std.proofs.Common.{◌≡◌, ℕ, suc, List, [], ◌∷◌, map, refl, sym, ◌∙◌, subst, arith, true}
use Rattle.mz_logic.specs.Term.{Term, Const}
use Rattle.mz_logic.specs.Formula as formula
use Rattle.mz_logic.specs.Formula.{Formula, Not, And}
use Rattle.mz_logic.specs.Formulas.{IsMember}
use Rattle.mz_logic.specs.Indices.{closed}
use Rattle.mz_logic.specs.Substitution.{body_at}
use Rattle.mz_logic.specs.Abstraction.{formula_over}
use Rattle.mz_logic.specs.ConstantTerm.{formula_with}
use Rattle.mz_logic.specs.Derives.{Derives}
use Rattle.mz_logic.proofs.AbstractionLaws.{substitute_formula-formula_over, occurs_in_formula-formula_over, formula_with-itself}
use Rattle.mz_logic.proofs.Rules.{hypothesis, all_in, all_out}
use Rattle.mz_logic.proofs.Connectives.{implied, detach, anywhere}

-- a formula without premises
pub without_premises : (ax : List Formula) (c : ℕ) (t : Term) (f : Formula) → closed t ≡ true → Derives ax [] f → Derives ax [] (formula_with c t f)
without_premises ax c t f ct d =
    let b : Formula = formula_over c 0 f in
    let there : body_at b (Const c) ≡ f = substitute_formula-formula_over c 0 (Const c) f refl ∙ formula_with-itself c f in
    let d' : Derives ax [] (body_at b (Const c)) = subst (Derives ax []) (sym there) d in
    let general : Derives ax [] (formula.All b) = all_in ax [] b c refl (occurs_in_formula-formula_over c 0 f) d' in
    subst (Derives ax []) (substitute_formula-formula_over c 0 t f ct) (all_out ax [] b t ct general)

-- `f` where all premises hold, as one formula
abbrev pub premises_imply : List Formula → Formula → Formula
premises_imply [] f = f
premises_imply (h ∷ hs) f = premises_imply hs (Not (And h (Not f)))

pub derives_imply : (ax g : List Formula) (f : Formula) → Derives ax g f → Derives ax [] (premises_imply g f)
derives_imply ax [] f d = d
derives_imply ax (h ∷ hs) f d = derives_imply ax hs (Not (And h (Not f))) (implied ax hs h f d)

pub imply_derives : (ax g h : List Formula) (f : Formula) → ((k : Formula) → IsMember g k → Derives ax h k) → Derives ax h (premises_imply g f) → Derives ax h f
unfolding IsMember
imply_derives ax [] h f each d = d
imply_derives ax (k ∷ ks) h f each d =
    let inner : Derives ax h (Not (And k (Not f))) = imply_derives ax ks h (Not (And k (Not f))) (λ m is. each m (suc is.0, omega (arith, is.1), is.2)) d in
    detach ax h k f inner (each k (0, omega arith, refl))

pub formula_with-premises_imply : (c : ℕ) (t : Term) (g : List Formula) (f : Formula) → formula_with c t (premises_imply g f) ≡ premises_imply (map (formula_with c t) g) (formula_with c t f)
formula_with-premises_imply c t [] f = refl
formula_with-premises_imply c t (h ∷ hs) f = formula_with-premises_imply c t hs (Not (And h (Not f)))

pub constant_generalized : (ax g : List Formula) (f : Formula) (c : ℕ) (t : Term) → closed t ≡ true → Derives ax g f → Derives ax (map (formula_with c t) g) (formula_with c t f)
unfolding IsMember
constant_generalized ax g f c t ct d =
    let h : List Formula = map (formula_with c t) g in
    let one : Derives ax [] (formula_with c t (premises_imply g f)) = without_premises ax c t (premises_imply g f) ct (derives_imply ax g f d) in
    let moved : Derives ax [] (premises_imply h (formula_with c t f)) = subst (Derives ax []) (formula_with-premises_imply c t g f) one in
    imply_derives ax h h (formula_with c t f) (λ k is. hypothesis ax h k is) (anywhere ax h (premises_imply h (formula_with c t f)) moved)
