-- What is read behind a heading has no constant as it stands under the loci, and no index but those of these, and of `it`.
use Rattle.std.proofs.Common.{◌≡◌, ◌≤◌, ◌<◌, ◌+◌, ℕ, zero, suc, Bool, true, map, length, refl, ap, subst, arith, Option, Some, None}
use Rattle.std.specs.List.{list_all}
use Rattle.std.specs.Prelude.{nat_le, nat_lt, Result, Ok, Err}
use Rattle.std.proofs.lemmas.Bool.{and_parts, and_from, le-leb, lt-ltb}
use Rattle.mz_logic.specs.Term.{Term, Const}
use Rattle.mz_core.specs.Abstraction.{statement_over}
use Rattle.mz_core.specs.Closed.{term_under, type_under, statement_under}
use Rattle.mz_core.specs.Statement.{Statement, Eq}
use Rattle.mz_core.specs.declared.formula_definiens.FormulaCase.{FormulaCase}
use Rattle.mz_core.specs.declared.formula_definiens.FormulaDefiniens.{FormulaDefiniens}
use Rattle.mz_core.specs.declared.outcome.Left.{Left}
use Rattle.mz_core.specs.declared.soft_type.SoftType.{SoftType}
use Rattle.mz_core.specs.declared.term_definiens.TermCase.{TermCase}
use Rattle.mz_core.specs.declared.term_definiens.TermDefiniens.{TermDefiniens}
use Rattle.mz_items.specs.Closed.{formula_case_under, formula_definiens_under, term_case_under, term_definiens_under}
use Rattle.mz_choice_laws.proofs.KnownValues.{type_known-where, statement_known-where}
use Rattle.mz_closed_laws.specs.ClosedEnvironment.{IsClosedEnvironment}
use Rattle.mz_cluster_items.specs.OverLoci.{term_over_loci}
use Rattle.mz_context.specs.Changes.{with_constant}
use Rattle.mz_context.specs.Context.{next}
use Rattle.mz_context.specs.declared.context.Context.{Context}
use Rattle.mz_environment.specs.declared.environment.Environment.{Environment}
use Rattle.mz_loci.specs.Loci.{type_over_loci, statement_over_loci}
use Rattle.mz_loci_laws.specs.Block.{StandsInBlock}
use Rattle.mz_loci_laws.proofs.BlockProofs.{next-variables, count_there, whole_there, closed_there}
use Rattle.mz_loci_laws.proofs.OverProofs.{between, type_under_loci, statement_under_loci}
use Rattle.mz_names.specs.Closing.{with_variables}
use Rattle.mz_names.specs.declared.refusal.Refusal.{Refusal}
use Rattle.mz_reading_laws.proofs.CallProofs.{term_call_law, type_call_law, formula_call_law}
use Rattle.mz_standing.specs.declared.standing.Standing.{Standing}
use Rattle.mz_standing_laws.specs.Soundly.{Setting}
use Rattle.mz_term_laws.specs.Usable.{is_usable, term_usable, type_usable, statement_usable}
use Rattle.mz_term_laws.specs.Whole.{IsWhole}
use Rattle.mz_term_laws.proofs.ChangeProofs.{constant_law}
use Rattle.mz_term_laws.proofs.UsableProofs.{next_further}
use Rattle.mz_resolve.specs.Calls.{TermRead, TypeRead, FormulaRead}
use Rattle.mz_tree.specs.Trees.{TermData, TypeData, FormulaData}
use Rattle.mz_tree_heading.specs.declared.heading.ResultTree.{ResultTree}
use Rattle.mz_tree_heading.specs.declared.meaning.CasesTree.{CasesTree}
use Rattle.mz_meanings.specs.Results as re
use Rattle.mz_meanings.specs.Results.{ResultRead, MeansRead, EqualsRead}
use Rattle.mz_meanings.specs.It.{it_constant, with_it}
use Rattle.mz_meanings.specs.Definientia.{formula_shape, term_shape, body_context, FormulasRead, TermsRead}
use Rattle.mz_defined.specs.Atoms.{AtomRead, atom_definiens}
use Rattle.mz_defined.specs.Definientia.{formula_case_over, formulas_over, term_case_over, terms_over}
use Rattle.mz_defined.specs.Functors.{MeansReadAt, EqualsReadAt}
use Rattle.mz_defined.specs.Owing.{loci_count}
use Rattle.mz_meanings.specs.declared.read_meaning.ReadMeans.{ReadMeans}
use Rattle.mz_meanings.specs.declared.read_meaning.ReadEquals.{ReadEquals}
use Rattle.mz_heading_laws.proofs.DefiniensProofs.{HasGoodParts, all_mapped, definiens_good}

-- the context with `it`

some-inj : {X : Type 0} (x y : X) (o : Option X) → o ≡ Some x → o ≡ Some y → x ≡ y
some-inj x y o h k = cc

abbrev term_there : Term → Option Term
term_there t = Some t

none_some : (t : Term) → None ≡ term_there t → ⊥
none_some t e = cc

same_term : (t u : Term) → term_there t ≡ term_there u → t ≡ u
same_term t u e = cc

whole_it : (least : ℕ) (c : Context) (t : Term) → IsWhole least c → term_usable least c t ≡ true → IsWhole least (record c { it = Some t })
whole_it least c t w h =
    record {
      constants = w.constants;
      reserved = w.reserved;
      labelled = w.labelled;
      previous = w.previous;
      functors = w.functors;
      predicates = w.predicates;
      letters = w.letters;
      thesis = w.thesis;
      it_is = λ u e. subst (λ (v : Term). term_usable least c v ≡ true) (same_term t u e) h;
      arguments = w.arguments;
      subject = w.subject;
    }

next_usable : (least : ℕ) (c : Context) (ty : SoftType) → least ≤ next c → term_usable least (with_constant c (it_constant ty)) (Const (next c)) ≡ true
next_usable least c ty le =
    let further : next (with_constant c (it_constant ty)) ≡ suc (next c) = next_further c (it_constant ty) in
    let lt : next c < next (with_constant c (it_constant ty)) = omega (arith, further) in
    and_from (nat_le least (next c)) (nat_lt (next c) (next (with_constant c (it_constant ty)))) (le-leb least (next c) le) (lt-ltb (next c) (next (with_constant c (it_constant ty))) lt)

pub whole_with_it : (least : ℕ) (c : Context) (ty : SoftType) → IsWhole least c → least ≤ next c → type_usable least c ty ≡ true → IsWhole least (with_it c ty)
whole_with_it least c ty w le usable =
    whole_it least (with_constant c (it_constant ty)) (Const (next c)) (constant_law least c (it_constant ty) w (usable, λ t e. absurd (none_some t e))) (next_usable least c ty le)

-- within a block

pub next_there : (g : Setting) (least : ℕ) (s : Standing) → StandsInBlock g least s → next s.context ≡ least + loci_count least s.context
next_there g least s b =
    let a : next s.context ≡ next (with_variables b.outside b.loci) = ap next b.here in
    let n : next (with_variables b.outside b.loci) ≡ next b.outside + length b.loci = next-variables b.outside b.loci in
    let e : next b.outside ≡ least = b.first in
    let k : loci_count least s.context ≡ length b.loci = count_there g least s b in
    omega (arith, a, n, e, k)

abbrev pub IsUsableType : ℕ → Context → Result SoftType Refusal → Type 0
IsUsableType least c (Ok ty) = type_usable least c ty ≡ true
IsUsableType least c (Err r) = Unit {0}

pub read_usable : (e : Environment) (c : Context) (least : ℕ) → IsClosedEnvironment e → IsWhole least c → (left after : Left) (t : ResultTree) (o : Result SoftType Refusal) → TypeRead e c least left t.ty o after → IsUsableType least c o
read_usable e c least closed whole left after t (Ok ty) h = type_call_law e c least least closed whole (omega arith) left after t.ty ty h
read_usable e c least closed whole left after t (Err r) h = tt

result_so : (e : Environment) (c : Context) (least : ℕ) → IsClosedEnvironment e → IsWhole least c → (left after : Left) (t : Option ResultTree) (o : Result SoftType Refusal) → ResultRead e c least left t o after → IsUsableType least c o
result_so e c least closed whole left _ _ _ re.unwritten = refl
result_so e c least closed whole left _ _ _ (re.written t o after h) = read_usable e c least closed whole left after t o h

result_usable : (e : Environment) (c : Context) (least : ℕ) → IsClosedEnvironment e → IsWhole least c → (left after : Left) (t : Option ResultTree) (ty : SoftType) → ResultRead e c least left t (Ok ty) after → type_usable least c ty ≡ true
result_usable e c least closed whole left after t ty h = result_so e c least closed whole left after t (Ok ty) h

pub record AreUnder (k : ℕ) (ty : SoftType) (d : FormulaDefiniens) : Type 0 where
  pub type_is : type_under k ty ≡ true
  pub definiens_is : formula_definiens_under k (k + 1) d ≡ true

pub record AreUnderLoci (k : ℕ) (ty : SoftType) (d : TermDefiniens) : Type 0 where
  pub type_is : type_under k ty ≡ true
  pub definiens_is : term_definiens_under k d ≡ true

pub type_so : (least : ℕ) (c : Context) (k : ℕ) (ty : SoftType) → next c ≡ least + k → type_usable least c ty ≡ true → type_under k (type_over_loci least k ty) ≡ true
type_so least c k ty e h = type_under_loci least (next c) k ty e (type_known-where (is_usable least c) (between least (next c)) (λ m u. u) 0 ty h)

formula_so : (least : ℕ) (c : Context) (k : ℕ) (s : Statement) → next c ≡ least + k → statement_usable least c s ≡ true → statement_under k (statement_over_loci least k s) ≡ true
formula_so least c k s e h = statement_under_loci least (next c) k s e (statement_known-where (is_usable least c) (between least (next c)) (λ m u. u) 0 s h)

-- a term, as both sides of an equation
over-equation : (least k : ℕ) (t : Term) → statement_over_loci least k (Eq t t) ≡ Eq (term_over_loci least k t) (term_over_loci least k t)
over-equation least zero t = refl
over-equation least (suc k) t = ap (statement_over (least + k) 0) (over-equation least k t)

pub term_so : (least : ℕ) (c : Context) (k : ℕ) (t : Term) → next c ≡ least + k → term_usable least c t ≡ true → term_under k (term_over_loci least k t) ≡ true
term_so least c k t e h =
    let both : statement_usable least c (Eq t t) ≡ true = and_from (term_usable least c t) (term_usable least c t) h h in
    let under : statement_under k (Eq (term_over_loci least k t) (term_over_loci least k t)) ≡ true = subst (λ s. statement_under k s ≡ true) (over-equation least k t) (formula_so least c k (Eq t t) e both) in
    (and_parts (term_under k (term_over_loci least k t)) (term_under k (term_over_loci least k t)) under).0

-- definientia

abbrev statement_test : ℕ → ℕ → Statement → Bool
statement_test least n d = statement_under n (statement_over_loci least n d)

abbrev formula_case_test : ℕ → ℕ → ℕ → FormulaCase → Bool
formula_case_test least k inner c = formula_case_under k inner (formula_case_over least k inner c)

abbrev formulas_test : ℕ → ℕ → ℕ → FormulaDefiniens → Bool
formulas_test least k inner d = formula_definiens_under k inner (formulas_over least k inner d)

formulas_parts : (e : Environment) (c : Context) (least k inner : ℕ) (it : Option SoftType) → IsClosedEnvironment e → IsWhole least c → IsWhole least (body_context c it) → next c ≡ least + k → next (body_context c it) ≡ least + inner →
    HasGoodParts formula_shape (FormulaRead e (body_context c it) least) (FormulaRead e c least) (statement_test least inner) (statement_test least k) (formula_case_test least k inner) (formulas_test least k inner)
formulas_parts e c least k inner it closed whole there n m = record {
  body_is = λ left after f d h. formula_so least (body_context c it) inner d m (formula_call_law e (body_context c it) least least closed there (omega arith) left after f d h);
  condition_is = λ left after f s h. formula_so least c k s n (formula_call_law e c least least closed whole (omega arith) left after f s h);
  case_is = λ d s hd hs. and_from (statement_under k (statement_over_loci least k s)) (statement_under inner (statement_over_loci least inner d)) hs hd;
  alone_is = λ d h. h;
  by_cases_is = λ ks h. all_mapped (formula_case_under k inner) (formula_case_over least k inner) ks h;
  with_otherwise_is = λ ks d h i. and_from (list_all (formula_case_under k inner) (map (formula_case_over least k inner) ks)) (statement_under inner (statement_over_loci least inner d)) (all_mapped (formula_case_under k inner) (formula_case_over least k inner) ks h) i;
}

pub formulas_so : (e : Environment) (c : Context) (least k inner : ℕ) (it : Option SoftType) → IsClosedEnvironment e → IsWhole least c → IsWhole least (body_context c it) → next c ≡ least + k → next (body_context c it) ≡ least + inner → (left after : Left) (f : CasesTree FormulaData) (d : FormulaDefiniens) →
    FormulasRead e c least it left f (Ok d) after → formula_definiens_under k inner (formulas_over least k inner d) ≡ true
formulas_so e c least k inner it closed whole there n m left after f d h =
    definiens_good formula_shape (FormulaRead e (body_context c it) least) (FormulaRead e c least) (statement_test least inner) (statement_test least k) (formula_case_test least k inner) (formulas_test least k inner) (formulas_parts e c least k inner it closed whole there n m) left after f (Ok d) h

abbrev term_test : ℕ → ℕ → Term → Bool
term_test least k t = term_under k (term_over_loci least k t)

abbrev term_case_test : ℕ → ℕ → TermCase → Bool
term_case_test least k c = term_case_under k (term_case_over least k c)

abbrev terms_test : ℕ → ℕ → TermDefiniens → Bool
terms_test least k d = term_definiens_under k (terms_over least k d)

terms_parts : (e : Environment) (c : Context) (least k : ℕ) → IsClosedEnvironment e → IsWhole least c → next c ≡ least + k →
    HasGoodParts term_shape (TermRead e c least) (FormulaRead e c least) (term_test least k) (statement_test least k) (term_case_test least k) (terms_test least k)
terms_parts e c least k closed whole n = record {
  body_is = λ left after u d h. term_so least c k d n (term_call_law e c least least closed whole (omega arith) left after u d h);
  condition_is = λ left after f s h. formula_so least c k s n (formula_call_law e c least least closed whole (omega arith) left after f s h);
  case_is = λ d s hd hs. and_from (statement_under k (statement_over_loci least k s)) (term_under k (term_over_loci least k d)) hs hd;
  alone_is = λ d h. h;
  by_cases_is = λ ks h. all_mapped (term_case_under k) (term_case_over least k) ks h;
  with_otherwise_is = λ ks d h i. and_from (list_all (term_case_under k) (map (term_case_over least k) ks)) (term_under k (term_over_loci least k d)) (all_mapped (term_case_under k) (term_case_over least k) ks h) i;
}

pub terms_so : (e : Environment) (c : Context) (least k : ℕ) → IsClosedEnvironment e → IsWhole least c → next c ≡ least + k → (left after : Left) (u : CasesTree TermData) (d : TermDefiniens) → TermsRead e c least left u (Ok d) after → term_definiens_under k (terms_over least k d) ≡ true
terms_so e c least k closed whole n left after u d h =
    definiens_good term_shape (TermRead e c least) (FormulaRead e c least) (term_test least k) (statement_test least k) (term_case_test least k) (terms_test least k) (terms_parts e c least k closed whole n) left after u (Ok d) h

-- types and definientia

abbrev MeansUnder : ℕ → ℕ → Result ReadMeans Refusal → Type 0
MeansUnder least k (Ok x) = AreUnder k (type_over_loci least k x.ty) (formulas_over least k (k + 1) x.definiens)
MeansUnder least k (Err r) = Unit {0}

abbrev EqualsUnder : ℕ → ℕ → Result ReadEquals Refusal → Type 0
EqualsUnder least k (Ok x) = AreUnderLoci k (type_over_loci least k x.ty) (terms_over least k x.definiens)
EqualsUnder least k (Err r) = Unit {0}

means_so : (e : Environment) (c : Context) (least k : ℕ) → IsClosedEnvironment e → IsWhole least c → next c ≡ least + k → (left : Left) (t : Option ResultTree) (f : CasesTree FormulaData) (o : Result ReadMeans Refusal) (after : Left) → MeansRead e c least left t f o after → MeansUnder least k o
means_so e c least k closed whole n left t f _ _ (re.no_type r after h) = tt
means_so e c least k closed whole n left t f _ _ (re.no_formula ty r between after h i) = tt
means_so e c least k closed whole n left t f _ _ (re.formula_read ty d between after h i) =
    let usable : type_usable least c ty ≡ true = result_usable e c least closed whole left between t ty h in
    let le : least ≤ next c = omega (arith, n) in
    let there : IsWhole least (with_it c ty) = whole_with_it least c ty whole le usable in
    let further : next (with_it c ty) ≡ suc (next c) = next_further c (it_constant ty) in
    let m : next (with_it c ty) ≡ least + (k + 1) = omega (arith, n, further) in
    record {
      type_is = type_so least c k ty n usable;
      definiens_is = formulas_so e c least k (k + 1) (Some ty) closed whole there n m between after f d i;
    }

equals_so : (e : Environment) (c : Context) (least k : ℕ) → IsClosedEnvironment e → IsWhole least c → next c ≡ least + k → (left : Left) (t : Option ResultTree) (u : CasesTree TermData) (o : Result ReadEquals Refusal) (after : Left) → EqualsRead e c least left t u o after → EqualsUnder least k o
equals_so e c least k closed whole n left t u _ _ (re.no_result r after h) = tt
equals_so e c least k closed whole n left t u _ _ (re.no_term ty r between after h i) = tt
equals_so e c least k closed whole n left t u _ _ (re.term_read ty d between after h i) =
    record {
      type_is = type_so least c k ty n (result_usable e c least closed whole left between t ty h);
      definiens_is = terms_so e c least k closed whole n between after u d i;
    }

pub means_under : (g : Setting) (least : ℕ) (s : Standing) (t : Option ResultTree) (f : CasesTree FormulaData) (x : ReadMeans) (after : Left) → StandsInBlock g least s → MeansReadAt least s t f (Ok x) after →
    AreUnder (loci_count least s.context) (type_over_loci least (loci_count least s.context) x.ty) (formulas_over least (loci_count least s.context) (loci_count least s.context + 1) x.definiens)
means_under g least s t f x after b h = means_so s.environment s.context least (loci_count least s.context) (closed_there g least s b) (whole_there g least s b) (next_there g least s b) s.left t f (Ok x) after h

pub equals_under : (g : Setting) (least : ℕ) (s : Standing) (t : Option ResultTree) (u : CasesTree TermData) (x : ReadEquals) (after : Left) → StandsInBlock g least s → EqualsReadAt least s t u (Ok x) after →
    AreUnderLoci (loci_count least s.context) (type_over_loci least (loci_count least s.context) x.ty) (terms_over least (loci_count least s.context) x.definiens)
equals_under g least s t u x after b h = equals_so s.environment s.context least (loci_count least s.context) (closed_there g least s b) (whole_there g least s b) (next_there g least s b) s.left t u (Ok x) after h

pub atom_under : (g : Setting) (least : ℕ) (s : Standing) (f : CasesTree FormulaData) (d : FormulaDefiniens) (after : Left) → StandsInBlock g least s → AtomRead least s f (Ok d) after → formula_definiens_under (loci_count least s.context) (loci_count least s.context) (atom_definiens least s.context d) ≡ true
atom_under g least s f d after b h =
    formulas_so s.environment s.context least (loci_count least s.context) (loci_count least s.context) None (closed_there g least s b) (whole_there g least s b) (whole_there g least s b) (next_there g least s b) (next_there g least s b) s.left after f d h

pub type_read_under : (g : Setting) (least : ℕ) (s : Standing) (t : TypeData) (ty : SoftType) (after : Left) → StandsInBlock g least s → TypeRead s.environment s.context least s.left t (Ok ty) after → type_under (loci_count least s.context) (type_over_loci least (loci_count least s.context) ty) ≡ true
type_read_under g least s t ty after b h =
    type_so least s.context (loci_count least s.context) ty (next_there g least s b) (type_call_law s.environment s.context least least (closed_there g least s b) (whole_there g least s b) (omega arith) s.left after t ty h)
