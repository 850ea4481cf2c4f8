-- What the code of results tells.
use Rattle.std.proofs.Common.{◌≡◌, ◌∙◌, ℕ, List, [], ◌∷◌, ◌++◌, length, take, refl, sym, ap, subst, Option, Some, None}
use Rattle.std.specs.Prelude.{Result, Ok, Err, OnOk}
use Rattle.mz_core.specs.Hidden.{set_type}
use Rattle.mz_core.specs.declared.formula_definiens.FormulaDefiniens.{FormulaDefiniens}
use Rattle.mz_core.specs.declared.outcome.Left.{Left}
use Rattle.mz_core.specs.declared.soft_type.SoftType.{SoftType}
use Rattle.mz_core.specs.declared.term_definiens.TermDefiniens.{TermDefiniens}
use Rattle.mz_context.specs.declared.context.Context.{Context}
use Rattle.mz_environment.specs.declared.environment.Environment.{Environment}
use Rattle.mz_names.specs.declared.refusal.Refusal.{Refusal}
use Rattle.mz_parts.proofs.ReadLemmas.{read_by, refused_by, read_more}
use Rattle.mz_resolve.specs.Answers.{OnRead}
use Rattle.mz_resolve.specs.Calls.{TypeRead}
use Rattle.mz_resolve.specs.declared.resolve_fault.ResolveFault.{ResolveFault}
use Rattle.mz_tree.specs.Trees.{TermData, FormulaData}
use Rattle.mz_tree_heading.specs.declared.heading.ResultTree.{ResultTree}
use Rattle.mz_tree_heading.specs.declared.meaning.CasesTree.{CasesTree}
use Rattle.mz_meanings.specs.Results as re
use Rattle.mz_meanings.specs.Definientia.{FormulasRead, TermsRead}
use Rattle.mz_meanings.specs.Results.{ResultRead, MeansRead, EqualsRead}
use Rattle.mz_meanings.specs.declared.read_meaning.ReadMeans.{ReadMeans}
use Rattle.mz_meanings.specs.declared.read_meaning.ReadEquals.{ReadEquals}

-- results

pub told_written : (e : Environment) (c : Context) (least : ℕ) (left after : Left) (t : ResultTree) (r : Option ResultTree) (z : Result SoftType ResolveFault) → r ≡ Some t → OnRead z (λ o. TypeRead e c least left t.ty o after) → OnRead z (λ o. ResultRead e c least left r o after)
told_written e c least left after t r z is h = read_more (λ o. TypeRead e c least left t.ty o after) (λ o. ResultRead e c least left r o after) z h (λ o k. subst (λ x. ResultRead e c least left x o after) (sym is) (re.written t o after k))

pub told_unwritten : (e : Environment) (c : Context) (least : ℕ) (left : Left) (r : Option ResultTree) (ty : SoftType) → r ≡ None → ty ≡ set_type → ResultRead e c least left r (Ok ty) left
told_unwritten e c least left r ty is et = subst (λ x. ResultRead e c least left x (Ok ty) left) (sym is) (subst (λ y. ResultRead e c least left None (Ok y) left) (sym et) re.unwritten)

-- both

abbrev TypeSo : Environment → Context → ℕ → Left → Option ResultTree → Left → Result SoftType Refusal → Type 0
TypeSo e c least left t after o = ResultRead e c least left t o after

abbrev FormulasSo : Environment → Context → ℕ → Option SoftType → Left → CasesTree FormulaData → Left → Result FormulaDefiniens Refusal → Type 0
FormulasSo e c least it left f after o = FormulasRead e c least it left f o after

abbrev TermsSo : Environment → Context → ℕ → Left → CasesTree TermData → Left → Result TermDefiniens Refusal → Type 0
TermsSo e c least left u after o = TermsRead e c least left u o after

abbrev MeansSo : Environment → Context → ℕ → Left → Option ResultTree → CasesTree FormulaData → Left → Result ReadMeans Refusal → Type 0
MeansSo e c least left t f after o = MeansRead e c least left t f o after

abbrev EqualsSo : Environment → Context → ℕ → Left → Option ResultTree → CasesTree TermData → Left → Result ReadEquals Refusal → Type 0
EqualsSo e c least left t u after o = EqualsRead e c least left t u o after

pub told_no_type : (e : Environment) (c : Context) (least : ℕ) (left after : Left) (t : Option ResultTree) (f : CasesTree FormulaData) (q : Result SoftType ResolveFault) (g : ResolveFault) → OnRead q (TypeSo e c least left t after) → q ≡ Err g →
    OnRead {X = ReadMeans} (Err g) (MeansSo e c least left t f after)
told_no_type e c least left after t f q g h eq = refused_by (TypeSo e c least left t after) (MeansSo e c least left t f after) q g h eq (λ r k. re.no_type r after k)

formulas_there : (e : Environment) (c d : Context) (least : ℕ) (left after : Left) (f : CasesTree FormulaData) (it : Option SoftType) (ty : SoftType) (o : Result FormulaDefiniens Refusal) → it ≡ Some ty → d ≡ c → FormulasSo e d least it left f after o → FormulasSo e c least (Some ty) left f after o
formulas_there e c d least left after f it ty o ei ed h = subst (λ (x : Context). FormulasSo e x least (Some ty) left f after o) ed (subst (λ (i : Option SoftType). FormulasSo e d least i left f after o) ei h)

pub told_no_formula : (e : Environment) (c d : Context) (least : ℕ) (left between after : Left) (t : Option ResultTree) (f : CasesTree FormulaData) (q : Result SoftType ResolveFault) (ty : SoftType) (it : Option SoftType) (p : Result FormulaDefiniens ResolveFault) (g : ResolveFault) →
    OnRead q (TypeSo e c least left t between) → q ≡ Ok ty → d ≡ c → it ≡ Some ty → OnRead p (FormulasSo e d least it between f after) → p ≡ Err g → OnRead {X = ReadMeans} (Err g) (MeansSo e c least left t f after)
told_no_formula e c d least left between after t f q ty it p g h eq ed ei k ep =
    refused_by (FormulasSo e d least it between f after) (MeansSo e c least left t f after) p g k ep
    (λ r j. re.no_formula ty r between after (read_by (TypeSo e c least left t between) q ty h eq) (formulas_there e c d least between after f it ty (Err r) ei ed j))

pub told_means : (e : Environment) (c d : Context) (least : ℕ) (left between after : Left) (t : Option ResultTree) (f : CasesTree FormulaData) (q : Result SoftType ResolveFault) (ty : SoftType) (it : Option SoftType) (p : Result FormulaDefiniens ResolveFault) (s : FormulaDefiniens) →
    OnRead q (TypeSo e c least left t between) → q ≡ Ok ty → d ≡ c → it ≡ Some ty → OnRead p (FormulasSo e d least it between f after) → p ≡ Ok s → MeansRead e c least left t f (Ok (record { ty = ty; definiens = s })) after
told_means e c d least left between after t f q ty it p s h eq ed ei k ep =
    re.formula_read ty s between after (read_by (TypeSo e c least left t between) q ty h eq)
    (formulas_there e c d least between after f it ty (Ok s) ei ed (read_by (FormulasSo e d least it between f after) p s k ep))

pub told_kept : {X : Type 0} (z : Result X ResolveFault) (x : X) (a b d : Context) → OnOk z (d ≡ b) → z ≡ Ok x → b ≡ a → d ≡ a
told_kept z x a b d h ez e = subst (λ y. OnOk y (d ≡ b)) ez h ∙ e

pub ruleset means_rules = (told_no_type, told_kept)

pub told_no_result : (e : Environment) (c : Context) (least : ℕ) (left after : Left) (t : Option ResultTree) (u : CasesTree TermData) (q : Result SoftType ResolveFault) (g : ResolveFault) → OnRead q (TypeSo e c least left t after) → q ≡ Err g →
    OnRead {X = ReadEquals} (Err g) (EqualsSo e c least left t u after)
told_no_result e c least left after t u q g h eq = refused_by (TypeSo e c least left t after) (EqualsSo e c least left t u after) q g h eq (λ r k. re.no_result r after k)

pub told_no_term : (e : Environment) (c d : Context) (least : ℕ) (left between after : Left) (t : Option ResultTree) (u : CasesTree TermData) (q : Result SoftType ResolveFault) (ty : SoftType) (p : Result TermDefiniens ResolveFault) (g : ResolveFault) →
    OnRead q (TypeSo e c least left t between) → q ≡ Ok ty → d ≡ c → OnRead p (TermsSo e d least between u after) → p ≡ Err g → OnRead {X = ReadEquals} (Err g) (EqualsSo e c least left t u after)
told_no_term e c d least left between after t u q ty p g h eq ed k ep =
    refused_by (TermsSo e d least between u after) (EqualsSo e c least left t u after) p g k ep
    (λ r j. re.no_term ty r between after (read_by (TypeSo e c least left t between) q ty h eq) (subst (λ (x : Context). TermsSo e x least between u after (Err r)) ed j))

pub told_equals : (e : Environment) (c d : Context) (least : ℕ) (left between after : Left) (t : Option ResultTree) (u : CasesTree TermData) (q : Result SoftType ResolveFault) (ty : SoftType) (p : Result TermDefiniens ResolveFault) (s : TermDefiniens) →
    OnRead q (TypeSo e c least left t between) → q ≡ Ok ty → d ≡ c → OnRead p (TermsSo e d least between u after) → p ≡ Ok s → EqualsRead e c least left t u (Ok (record { ty = ty; definiens = s })) after
told_equals e c d least left between after t u q ty p s h eq ed k ep =
    re.term_read ty s between after (read_by (TypeSo e c least left t between) q ty h eq)
    (subst (λ (x : Context). TermsSo e x least between u after (Ok s)) ed (read_by (TermsSo e d least between u after) p s k ep))

pub ruleset equals_rules = (told_no_result, told_kept)
