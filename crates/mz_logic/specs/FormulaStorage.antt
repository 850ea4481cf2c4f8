-- How a formula is stored: its size, its nesting of quantifiers, and its code as a tree of numbers.
use Rattle.std.specs.Prelude.{◌≡◌, ℕ, suc, ◌+◌, max, refl}
use Rattle.std.proofs.Common.{ap, ◌∙◌}
use Rattle.std.specs.Coded.{Coded, code_by}
use base.Stored.{Gv, gnil, gnum, gcons}
use denote.Struct.Codes.{itself}
use Rattle.mz_logic.specs.SymStorage.{sym_gv, gv_sym, gv_sym-sym_gv}
use Rattle.mz_logic.specs.Term.{list_of, terms_of}
use Rattle.mz_logic.specs.TermStorage.{list_of-terms_of, term_gv, terms_gv, gv_term, gv_terms, gv_term-term_gv, gv_terms-terms_gv}
use Rattle.mz_logic.specs.Formula.{Formula, Truth, Eq, Atom, Not, And, All}

-- how many nodes a formula has above its terms
abbrev pub formula_size : Formula → ℕ
formula_size Truth = 1
formula_size (Eq t u) = 1
formula_size (Atom s ts) = 1
formula_size (Not f) = suc (formula_size f)
formula_size (And f g) = suc (formula_size f + formula_size g)
formula_size (All f) = suc (formula_size f)

-- how deep its quantifiers nest
abbrev pub binders_of : Formula → ℕ
binders_of Truth = 0
binders_of (Eq t u) = 0
binders_of (Atom s ts) = 0
binders_of (Not f) = binders_of f
binders_of (And f g) = max (binders_of f) (binders_of g)
binders_of (All f) = binders_of f + 1

-- a formula is stored as a tree of numbers
abbrev pub formula_gv : Formula → Gv
formula_gv Truth = gnil
formula_gv (Eq t u) = gcons (gnum 1) (gcons (term_gv t) (term_gv u))
formula_gv (Atom s ts) = gcons (gcons gnil (sym_gv s)) (terms_gv (terms_of ts))
formula_gv (Not f) = gcons (gcons (gnum 1) gnil) (formula_gv f)
formula_gv (And f g) = gcons (gcons (gcons gnil gnil) (formula_gv f)) (formula_gv g)
formula_gv (All f) = gcons gnil (formula_gv f)

abbrev eq_at : Gv → Formula
eq_at gnil = Truth
eq_at (gnum n) = Truth
eq_at (gcons t u) = Eq (gv_term t) (gv_term u)

abbrev pub gv_formula : Gv → Formula
gv_formula gnil = Truth
gv_formula (gnum n) = Truth
gv_formula (gcons gnil f) = All (gv_formula f)
gv_formula (gcons (gnum k) p) = eq_at p
gv_formula (gcons (gcons gnil s) ts) = Atom (gv_sym s) (list_of (gv_terms ts))
gv_formula (gcons (gcons (gnum k) n) f) = Not (gv_formula f)
gv_formula (gcons (gcons (gcons h k) f) g) = And (gv_formula f) (gv_formula g)

pub gv_formula-formula_gv : (f : Formula) → gv_formula (formula_gv f) ≡ f
gv_formula-formula_gv Truth = refl
gv_formula-formula_gv (Eq t u) = λ i. Eq (gv_term-term_gv t i) (gv_term-term_gv u i)
gv_formula-formula_gv (Atom s ts) = λ i. Atom (gv_sym-sym_gv s i) ((ap list_of (gv_terms-terms_gv (terms_of ts)) ∙ list_of-terms_of ts) i)
gv_formula-formula_gv (Not f) = λ i. Not (gv_formula-formula_gv f i)
gv_formula-formula_gv (And f g) = λ i. And (gv_formula-formula_gv f i) (gv_formula-formula_gv g i)
gv_formula-formula_gv (All f) = λ i. All (gv_formula-formula_gv f i)

abbrev pub formula_code : Coded Formula
formula_code = code_by Gv itself formula_gv gv_formula gv_formula-formula_gv
