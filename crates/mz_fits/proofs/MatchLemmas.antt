-- What the code of matching tells.
use Rattle.std.proofs.Common.{◌≡◌, ◌≤◌, ◌<◌, ◌-◌, ℕ, zero, suc, List, [], ◌∷◌, refl, sym, subst, Bool, true, false, arith, length, Option, Some, None, ◌++◌, ◌∙◌, ap, append_assoc, get_or}
use Rattle.std.proofs.lemmas.List.{append-nil}
use Rattle.std.proofs.lemmas.Option.{slice_get_past}
use Rattle.std.specs.Prelude.{◌↔◌, IsTrue, nat_eq, slice_get, slice_set}
use Rattle.std.proofs.lemmas.Bool.{eqb-true}
use Rattle.mz_logic.specs.declared.sym.Sym.{Sym}
use Rattle.mz_logic.specs.Sym.{same_sym}
use Rattle.mz_logic.specs.Term.{Term, Bound, Const, App, terms_of}
use Rattle.mz_logic.specs.TermStorage.{sizes_of}
use Rattle.mz_core.specs.declared.soft_type.SoftType.{SoftType}
use Rattle.mz_context.specs.declared.constants.Constant.{Constant}
use Rattle.mz_ground.specs.declared.clause.Clause.{Clause}
use Rattle.mz_fits.specs.Fits.{AreEqualBy, LociFit}
use Rattle.mz_fits.specs.Matching as m
use Rattle.mz_fits.specs.Matching.{Fixed, heads_agree, Placed, Matched, AllMatched, with_value, Accepted}
use Rattle.mz_fits.proofs.FitLemmas.{not_both, empty}

-- the values behind others
abbrev pub with_values : List Term → Option (List Term) → Option (List Term)
with_values ts None = None
with_values ts (Some us) = Some (ts ++ us)

pub told_past : (cs : List Clause) (ks : List (Option Constant)) (fs : Fixed) (p : ℕ) (t : Term) → length fs ≤ p → Placed cs ks fs p t None
told_past cs ks fs p t le = m.no_place (slice_get_past fs p le)

slice_get-got : (fs : Fixed) (p : ℕ) (x : Option Term) → p < length fs → x ≡ get_or fs p x → slice_get fs p ≡ Some x
slice_get-got [] p x lt at = absurd (omega (arith, lt))
slice_get-got (s ∷ ss) zero x lt at = ap Some (sym at)
slice_get-got (s ∷ ss) (suc p) x lt at = slice_get-got ss p x (omega (arith, lt)) at

pub told_fixed : (cs : List Clause) (ks : List (Option Constant)) (fs : Fixed) (p : ℕ) (t u : Term) (x : Option Term) → p < length fs → x ≡ get_or fs p x → x ≡ None → u ≡ t → Placed cs ks fs p t (Some (slice_set fs p (Some u)))
told_fixed cs ks fs p t u x lt at ex same = subst (λ v. Placed cs ks fs p t (Some (slice_set fs p (Some v)))) (sym same) (m.fixes (slice_get-got fs p x lt at ∙ ap Some ex))

pub told_equal : (cs : List Clause) (ks : List (Option Constant)) (fs : Fixed) (p : ℕ) (t u : Term) (x : Option Term) (b : Bool) → p < length fs → x ≡ get_or fs p x → x ≡ Some u → IsTrue b ↔ AreEqualBy cs ks u t → b ≡ true → Placed cs ks fs p t (Some fs)
told_equal cs ks fs p t u x b lt at ex i eb = m.equal u (slice_get-got fs p x lt at ∙ ap Some ex) (i.0 eb)

pub told_unequal : (cs : List Clause) (ks : List (Option Constant)) (fs : Fixed) (p : ℕ) (t u : Term) (x : Option Term) (b : Bool) → p < length fs → x ≡ get_or fs p x → x ≡ Some u → IsTrue b ↔ AreEqualBy cs ks u t → b ≡ false → Placed cs ks fs p t None
told_unequal cs ks fs p t u x b lt at ex i eb = m.unequal u (slice_get-got fs p x lt at ∙ ap Some ex) (λ h. absurd (not_both b eb (i.1 h)))

pub ruleset placed_rules = (told_past, told_fixed, told_equal, told_unequal)

pub told_locus : (cs : List Clause) (ks : List (Option Constant)) (scope : ℕ) (fs : Fixed) (i p : ℕ) (t : Term) (o : Option Fixed) → i < scope → p ≡ scope - 1 - i → Placed cs ks fs p t o → Matched cs ks scope fs (Bound i) t o
told_locus cs ks scope fs i p t o lt same h =
    let e' : p ≡ scope - suc i = omega (arith, same, lt) in
    m.locus fs i t o lt (subst (λ q. Placed cs ks fs q t o) e' h)

pub told_no_locus : (cs : List Clause) (ks : List (Option Constant)) (scope : ℕ) (fs : Fixed) (i : ℕ) (t : Term) → scope ≤ i → Matched cs ks scope fs (Bound i) t None
told_no_locus cs ks scope fs i t le = m.no_locus fs i t le

pub told_constant : (cs : List Clause) (ks : List (Option Constant)) (scope : ℕ) (fs : Fixed) (k n : ℕ) → nat_eq k n ≡ true → Matched cs ks scope fs (Const k) (Const n) (Some fs)
told_constant cs ks scope fs k n h = subst (λ j. Matched cs ks scope fs (Const k) (Const j) (Some fs)) (eqb-true k n h) (m.constant fs k)

pub told_other_constant : (cs : List Clause) (ks : List (Option Constant)) (scope : ℕ) (fs : Fixed) (n : ℕ) (t : Term) → heads_agree (Const n) t ≡ false → Matched cs ks scope fs (Const n) t None
told_other_constant cs ks scope fs n t h = m.other_constant fs n t h

pub told_symbol : (cs : List Clause) (ks : List (Option Constant)) (scope : ℕ) (fs : Fixed) (s q : Sym) (us ts : List Term) (b : Bool) (o : Option Fixed) → IsTrue b ↔ (s ≡ q) → b ≡ true → AllMatched cs ks scope fs us ts o → Matched cs ks scope fs (App s (terms_of us)) (App q (terms_of ts)) o
told_symbol cs ks scope fs s q us ts b o i h a = subst (λ x. Matched cs ks scope fs (App s (terms_of us)) (App x (terms_of ts)) o) (i.0 h) (m.symbol fs s us ts o a)

pub told_other_symbol : (cs : List Clause) (ks : List (Option Constant)) (scope : ℕ) (fs : Fixed) (s q : Sym) (us ts : List Term) (b : Bool) → b ≡ same_sym s q → b ≡ false → Matched cs ks scope fs (App s (terms_of us)) (App q (terms_of ts)) None
told_other_symbol cs ks scope fs s q us ts b same h = m.other_symbol fs s us (App q (terms_of ts)) (sym same ∙ h)

pub told_other_shape : (cs : List Clause) (ks : List (Option Constant)) (scope : ℕ) (fs : Fixed) (s : Sym) (us : List Term) (t : Term) → heads_agree (App s (terms_of us)) t ≡ false → Matched cs ks scope fs (App s (terms_of us)) t None
told_other_shape cs ks scope fs s us t h = m.other_symbol fs s us t h

pub ruleset matched_rules = (told_locus, told_no_locus, told_constant, told_other_constant, told_symbol, told_other_symbol, told_other_shape)

one_fails : (cs : List Clause) (ks : List (Option Constant)) (scope : ℕ) (fs : Fixed) (u t : Term) (formals us terms ts : List Term) (o : Option Fixed) → formals ≡ u ∷ us → terms ≡ t ∷ ts → Matched cs ks scope fs u t o → o ≡ None → AllMatched cs ks scope fs formals terms None
one_fails cs ks scope fs u t formals us terms ts o ef et h eo =
    subst (λ xs. AllMatched cs ks scope fs xs terms None) (sym ef) (subst (λ xs. AllMatched cs ks scope fs (u ∷ us) xs None) (sym et) (m.one_fails fs u t us ts (subst (Matched cs ks scope fs u t) eo h)))

one_more : (cs : List Clause) (ks : List (Option Constant)) (scope : ℕ) (fs between : Fixed) (u t : Term) (formals us terms ts : List Term) (p o : Option Fixed) → formals ≡ u ∷ us → terms ≡ t ∷ ts → Matched cs ks scope fs u t p → p ≡ Some between → AllMatched cs ks scope between us ts o → AllMatched cs ks scope fs formals terms o
one_more cs ks scope fs between u t formals us terms ts p o ef et h ep a =
    subst (λ xs. AllMatched cs ks scope fs xs terms o) (sym ef) (subst (λ xs. AllMatched cs ks scope fs (u ∷ us) xs o) (sym et) (m.one_more fs between u t us ts o (subst (Matched cs ks scope fs u t) ep h) a))

all_matched : (cs : List Clause) (ks : List (Option Constant)) (scope : ℕ) (fs : Fixed) (formals terms : List Term) → length formals ≡ 0 → length terms ≡ 0 → AllMatched cs ks scope fs formals terms (Some fs)
all_matched cs ks scope fs formals terms ef et =
    subst (λ xs. AllMatched cs ks scope fs xs terms (Some fs)) (sym (empty _ ef)) (subst (λ xs. AllMatched cs ks scope fs [] xs (Some fs)) (sym (empty _ et)) (m.all_matched fs))

few : (cs : List Clause) (ks : List (Option Constant)) (scope : ℕ) (fs : Fixed) (terms : List Term) → (length terms ≡ 0 → ⊥) → AllMatched cs ks scope fs [] terms None
few cs ks scope fs [] h = absurd (h refl)
few cs ks scope fs (t ∷ ts) h = m.too_few fs t ts

too_few : (cs : List Clause) (ks : List (Option Constant)) (scope : ℕ) (fs : Fixed) (formals terms : List Term) → length formals ≡ 0 → (length terms ≡ 0 → ⊥) → AllMatched cs ks scope fs formals terms None
too_few cs ks scope fs formals terms ef et = subst (λ xs. AllMatched cs ks scope fs xs terms None) (sym (empty _ ef)) (few cs ks scope fs terms et)

too_many : (cs : List Clause) (ks : List (Option Constant)) (scope : ℕ) (fs : Fixed) (u : Term) (formals us terms : List Term) → formals ≡ u ∷ us → length terms ≡ 0 → AllMatched cs ks scope fs formals terms None
too_many cs ks scope fs u formals us terms ef et =
    subst (λ xs. AllMatched cs ks scope fs xs terms None) (sym ef) (subst (λ xs. AllMatched cs ks scope fs (u ∷ us) xs None) (sym (empty _ et)) (m.too_many fs u us))

-- what the pairs that are left give, all give
pub told_one_fails : (cs : List Clause) (ks : List (Option Constant)) (scope : ℕ) (fs between : Fixed) (u t : Term) (formals terms us more ts rest : List Term) (o : Option Fixed) → us ≡ u ∷ more → ts ≡ t ∷ rest → Matched cs ks scope between u t o → o ≡ None → ((p : Option Fixed) → AllMatched cs ks scope between us ts p → AllMatched cs ks scope fs formals terms p) → AllMatched cs ks scope fs formals terms None
told_one_fails cs ks scope fs between u t formals terms us more ts rest o eu et h eo w = w None (one_fails cs ks scope between u t us more ts rest o eu et h eo)

pub told_one_more : (cs : List Clause) (ks : List (Option Constant)) (scope : ℕ) (fs between behind : Fixed) (u t : Term) (formals terms us more ts rest : List Term) (o : Option Fixed) → us ≡ u ∷ more → ts ≡ t ∷ rest → Matched cs ks scope between u t o → o ≡ Some behind → ((p : Option Fixed) → AllMatched cs ks scope between us ts p → AllMatched cs ks scope fs formals terms p) → (p : Option Fixed) → AllMatched cs ks scope behind more rest p → AllMatched cs ks scope fs formals terms p
told_one_more cs ks scope fs between behind u t formals terms us more ts rest o eu et h eo w p a = w p (one_more cs ks scope between behind u t us more ts rest o p eu et h eo a)

pub told_all : (cs : List Clause) (ks : List (Option Constant)) (scope : ℕ) (fs between : Fixed) (formals terms us ts : List Term) → length us ≡ 0 → length ts ≡ 0 → ((p : Option Fixed) → AllMatched cs ks scope between us ts p → AllMatched cs ks scope fs formals terms p) → AllMatched cs ks scope fs formals terms (Some between)
told_all cs ks scope fs between formals terms us ts eu et w = w (Some between) (all_matched cs ks scope between us ts eu et)

pub told_few : (cs : List Clause) (ks : List (Option Constant)) (scope : ℕ) (fs between : Fixed) (formals terms us ts : List Term) → length us ≡ 0 → (length ts ≡ 0 → ⊥) → ((p : Option Fixed) → AllMatched cs ks scope between us ts p → AllMatched cs ks scope fs formals terms p) → AllMatched cs ks scope fs formals terms None
told_few cs ks scope fs between formals terms us ts eu et w = w None (too_few cs ks scope between us ts eu et)

pub told_many : (cs : List Clause) (ks : List (Option Constant)) (scope : ℕ) (fs between : Fixed) (u : Term) (formals terms us more ts : List Term) → us ≡ u ∷ more → length ts ≡ 0 → ((p : Option Fixed) → AllMatched cs ks scope between us ts p → AllMatched cs ks scope fs formals terms p) → AllMatched cs ks scope fs formals terms None
told_many cs ks scope fs between u formals terms us more ts eu et w = w None (too_many cs ks scope between u us more ts eu et)

pub fewer_sizes : (u : Term) (us more all : List Term) → us ≡ u ∷ more → sizes_of us ≤ sizes_of all → sizes_of more ≤ sizes_of all
fewer_sizes u us more all e h =
    let same : sizes_of us ≡ sizes_of (u ∷ more) = ap sizes_of e in
    omega (arith, same, h)

pub further_value : (ts : List Term) (t : Term) (o : Option (List Term)) → with_values ts (with_value t o) ≡ with_values (ts ++ t ∷ []) o
further_value ts t None = refl
further_value ts t (Some us) = ap Some (sym (append_assoc ts (t ∷ []) us))

pub no_further_value : (ts : List Term) → with_values ts (Some []) ≡ Some ts
no_further_value ts = ap Some (append-nil ts)

pub ruleset value_rules = (further_value, no_further_value)

pub told_not_fixed : (cs : List Clause) (ks : List (Option Constant)) (loci : List SoftType) (fs : Fixed) (o : Option (List Term)) → o ≡ m.values_of fs → o ≡ None → Accepted cs ks loci fs None
told_not_fixed cs ks loci fs o same h = m.not_fixed (sym same ∙ h)

pub told_fitting : (cs : List Clause) (ks : List (Option Constant)) (loci : List SoftType) (fs : Fixed) (o : Option (List Term)) (ts : List Term) (b : Bool) → o ≡ m.values_of fs → o ≡ Some ts → IsTrue b ↔ LociFit cs ks [] loci ts → b ≡ true → Accepted cs ks loci fs (Some ts)
told_fitting cs ks loci fs o ts b same h i x = m.fitting ts (sym same ∙ h) (i.0 x)

pub told_unfit : (cs : List Clause) (ks : List (Option Constant)) (loci : List SoftType) (fs : Fixed) (o : Option (List Term)) (ts : List Term) (b : Bool) → o ≡ m.values_of fs → o ≡ Some ts → IsTrue b ↔ LociFit cs ks [] loci ts → b ≡ false → Accepted cs ks loci fs None
told_unfit cs ks loci fs o ts b same h i x = m.unfit ts (sym same ∙ h) (λ f. absurd (not_both b x (i.1 f)))

pub ruleset accepted_rules = (told_not_fixed, told_fitting, told_unfit)
