-- How a term is stored: its arguments as a list, its size, and its code as a tree of numbers.
use Rattle.std.specs.Prelude.{◌≡◌, ℕ, suc, ◌+◌, ◌≤◌, List, [], ◌∷◌, refl}
use Rattle.std.proofs.Common.{arith, ap, sym, ◌∙◌}
use Rattle.std.specs.Coded.{Coded, code_by}
use base.Stored.{Gv, gnil, gnum, gcons}
use denote.Struct.Codes.{itself}
use denote.Param.Weighed.{most}
use Rattle.mz_logic.specs.SymStorage.{sym_gv, gv_sym, gv_sym-sym_gv}
use Rattle.mz_logic.specs.Term.{Term, Terms, Bound, Const, App, none, more, list_of, terms_of}

pub terms_of-list_of : (ts : Terms) → terms_of (list_of ts) ≡ ts
terms_of-list_of none = refl
terms_of-list_of (more t ts) = ap (λ us. more t us) (terms_of-list_of ts)

pub list_of-terms_of : (ts : List Term) → list_of (terms_of ts) ≡ ts
list_of-terms_of [] = refl
list_of-terms_of (t ∷ ts) = ap (λ us. t ∷ us) (list_of-terms_of ts)

-- how many nodes and list cells a term has
abbrev mutual
  pub size_of : Term → ℕ
  size_of (Bound n) = 1
  size_of (Const n) = 1
  size_of (App s ts) = suc (arg_sizes ts)

  pub arg_sizes : Terms → ℕ
  arg_sizes none = 1
  arg_sizes (more t ts) = size_of t + suc (arg_sizes ts)

abbrev pub sizes_of : List Term → ℕ
sizes_of ts = arg_sizes (terms_of ts)

pub most_le-sizes_of : (ts : List Term) → most (λ t. size_of t + 1) ts ≤ sizes_of ts
most_le-sizes_of [] = omega arith
most_le-sizes_of (t ∷ ts) = omega (arith, most_le-sizes_of ts)

-- a term is stored as a tree of numbers
abbrev mutual
  pub term_gv : Term → Gv
  term_gv (Bound n) = gcons gnil (gnum n)
  term_gv (Const n) = gcons (gnum 0) (gnum n)
  term_gv (App s ts) = gcons (gcons gnil (sym_gv s)) (terms_gv ts)

  pub terms_gv : Terms → Gv
  terms_gv none = gnil
  terms_gv (more t ts) = gcons (term_gv t) (terms_gv ts)

abbrev mutual
  pub gv_term : Gv → Term
  gv_term gnil = Bound 0
  gv_term (gnum n) = Bound 0
  gv_term (gcons gnil gnil) = Bound 0
  gv_term (gcons gnil (gnum n)) = Bound n
  gv_term (gcons gnil (gcons a b)) = Bound 0
  gv_term (gcons (gnum k) gnil) = Bound 0
  gv_term (gcons (gnum k) (gnum n)) = Const n
  gv_term (gcons (gnum k) (gcons a b)) = Bound 0
  gv_term (gcons (gcons h s) ts) = App (gv_sym s) (gv_terms ts)

  pub gv_terms : Gv → Terms
  gv_terms gnil = none
  gv_terms (gnum n) = none
  gv_terms (gcons t ts) = more (gv_term t) (gv_terms ts)

mutual
  pub gv_term-term_gv : (t : Term) → gv_term (term_gv t) ≡ t
  gv_term-term_gv (Bound n) = refl
  gv_term-term_gv (Const n) = refl
  gv_term-term_gv (App s ts) = λ i. App (gv_sym-sym_gv s i) (gv_terms-terms_gv ts i)

  pub gv_terms-terms_gv : (ts : Terms) → gv_terms (terms_gv ts) ≡ ts
  gv_terms-terms_gv none = refl
  gv_terms-terms_gv (more t ts) = λ i. more (gv_term-term_gv t i) (gv_terms-terms_gv ts i)

abbrev pub term_code : Coded Term
term_code = code_by Gv itself term_gv gv_term gv_term-term_gv

pub terms_of-inj : (ts us : List Term) → terms_of ts ≡ terms_of us → ts ≡ us
terms_of-inj ts us e = sym (list_of-terms_of ts) ∙ ap list_of e ∙ list_of-terms_of us
