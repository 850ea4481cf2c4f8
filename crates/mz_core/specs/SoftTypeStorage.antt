-- How types are stored.
use Rattle.std.specs.Prelude.{◌≡◌, ℕ, zero, suc, Bool, true, false, List, [], ◌∷◌, refl}
use Rattle.std.proofs.Common.{ap, ◌∙◌}
use base.Stored.{Gv, gnil, gnum, gcons}
use Rattle.mz_logic.specs.declared.sym.Sym.{Sym}
use Rattle.mz_logic.specs.SymStorage.{sym_gv, gv_sym, gv_sym-sym_gv}
use Rattle.mz_logic.specs.Term.{Term, terms_of, list_of}
use Rattle.mz_logic.specs.TermStorage.{list_of-terms_of, terms_gv, gv_terms, gv_terms-terms_gv}
use Rattle.mz_core.specs.declared.radix.Radix.{Radix}
use Rattle.mz_core.specs.declared.adjective.Adjective.{Adjective}
use Rattle.mz_core.specs.declared.soft_type.SoftType.{SoftType}

abbrev args_gv : List Term → Gv
args_gv ts = terms_gv (terms_of ts)

abbrev gv_args : Gv → List Term
gv_args g = list_of (gv_terms g)

gv_args-args_gv : (ts : List Term) → gv_args (args_gv ts) ≡ ts
gv_args-args_gv ts = ap list_of (gv_terms-terms_gv (terms_of ts)) ∙ list_of-terms_of ts

abbrev left : Gv → Gv
left gnil = gnil
left (gnum n) = gnil
left (gcons a b) = a

abbrev right : Gv → Gv
right gnil = gnil
right (gnum n) = gnil
right (gcons a b) = b

abbrev sign_gv : Bool → Gv
sign_gv true = gnil
sign_gv false = gnum 0

abbrev gv_sign : Gv → Bool
gv_sign gnil = true
gv_sign (gnum n) = false
gv_sign (gcons a b) = true

gv_sign-sign_gv : (b : Bool) → gv_sign (sign_gv b) ≡ b
gv_sign-sign_gv true = refl
gv_sign-sign_gv false = refl

abbrev radix_gv : Radix → Gv
radix_gv r = gcons (sym_gv r.sym) (args_gv r.args)

abbrev gv_radix : Gv → Radix
gv_radix g = record { sym = gv_sym (left g); args = gv_args (right g) }

gv_radix-radix_gv : (r : Radix) → gv_radix (radix_gv r) ≡ r
gv_radix-radix_gv r i = record { sym = gv_sym-sym_gv r.sym i; args = gv_args-args_gv r.args i }

abbrev adjective_gv : Adjective → Gv
adjective_gv a = gcons (sign_gv a.positive) (gcons (sym_gv a.sym) (args_gv a.args))

abbrev gv_adjective : Gv → Adjective
gv_adjective g = record { positive = gv_sign (left g); sym = gv_sym (left (right g)); args = gv_args (right (right g)) }

gv_adjective-adjective_gv : (a : Adjective) → gv_adjective (adjective_gv a) ≡ a
gv_adjective-adjective_gv a i = record { positive = gv_sign-sign_gv a.positive i; sym = gv_sym-sym_gv a.sym i; args = gv_args-args_gv a.args i }

abbrev adjectives_gv : List Adjective → Gv
adjectives_gv [] = gnil
adjectives_gv (a ∷ others) = gcons (adjective_gv a) (adjectives_gv others)

abbrev gv_adjectives : Gv → List Adjective
gv_adjectives gnil = []
gv_adjectives (gnum n) = []
gv_adjectives (gcons a others) = gv_adjective a ∷ gv_adjectives others

gv_adjectives-adjectives_gv : (xs : List Adjective) → gv_adjectives (adjectives_gv xs) ≡ xs
gv_adjectives-adjectives_gv [] = refl
gv_adjectives-adjectives_gv (a ∷ others) = λ i. gv_adjective-adjective_gv a i ∷ gv_adjectives-adjectives_gv others i

abbrev pub type_gv : SoftType → Gv
type_gv t = gcons (adjectives_gv t.adjectives) (radix_gv t.radix)

abbrev pub gv_type : Gv → SoftType
gv_type g = record { adjectives = gv_adjectives (left g); radix = gv_radix (right g) }

pub gv_type-type_gv : (t : SoftType) → gv_type (type_gv t) ≡ t
gv_type-type_gv t i = record { adjectives = gv_adjectives-adjectives_gv t.adjectives i; radix = gv_radix-radix_gv t.radix i }
