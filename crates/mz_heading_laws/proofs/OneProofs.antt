-- One thing at most comes of the heading of a definition.
use Rattle.std.proofs.Common.{◌≡◌, ℕ, true, false, List, [], refl, sym, subst, ◌∙◌, Option, Some, None}
use Rattle.std.specs.Prelude.{Result, Ok, Err}
use Rattle.mz_base.specs.declared.place.Place.{Place}
use Rattle.mz_core.specs.Hidden.{set_type}
use Rattle.mz_core.specs.declared.formula_definiens.FormulaDefiniens.{FormulaDefiniens}
use Rattle.mz_core.specs.declared.outcome.Left.{Left}
use Rattle.mz_core.specs.declared.soft_type.SoftType.{SoftType}
use Rattle.mz_core.specs.declared.term_definiens.TermDefiniens.{TermDefiniens}
use Rattle.mz_context.specs.declared.context.Context.{Context}
use Rattle.mz_environment.specs.declared.environment.Environment.{Environment}
use Rattle.mz_justified.specs.declared.proof_fault.ProofRefusal.TheVariants.{Resolve}
use Rattle.mz_justified_laws.specs.Determined.{AtMostOne, IsDetermined}
use Rattle.mz_justified_laws.proofs.Sequence.{one_by, NextSome, one_next_some, AfterRead, one_after_read, determined_by, IsValue, determined_value, ThenRead, determined_then, as_it_is}
use Rattle.mz_meanings.specs.Definientia.{formula_shape, term_shape, body_context, FormulasRead, TermsRead}
use Rattle.mz_meanings.specs.Results as re
use Rattle.mz_meanings.specs.Results.{ResultRead, MeansRead, EqualsRead}
use Rattle.mz_meanings.specs.declared.read_meaning.ReadMeans.{ReadMeans}
use Rattle.mz_meanings.specs.declared.read_meaning.ReadEquals.{ReadEquals}
use Rattle.mz_names.specs.declared.refusal.Refusal.{Refusal}
use Rattle.mz_parts_laws.proofs.OneExpression.{one_term_read, one_type_read}
use Rattle.mz_patterns.specs.declared.visible.Visible.{Visible}
use Rattle.mz_resolve.specs.Calls.{TermRead, TypeRead, FormulaRead}
use Rattle.mz_standing.specs.Standing.{with_left}
use Rattle.mz_standing.specs.declared.standing.Standing.{Standing}
use Rattle.mz_taken.specs.Taken.{Taken, Refused}
use Rattle.mz_taken.specs.declared.item_fault.ItemRefusal.TheVariants.{Proof, BadLoci}
use Rattle.mz_tree.specs.Trees.{TermData, FormulaData}
use Rattle.mz_tree_heading.specs.declared.heading.AbbreviationTree.{AbbreviationTree}
use Rattle.mz_tree_heading.specs.declared.heading.FunctorHeadingTree.{FunctorHeadingTree}
use Rattle.mz_tree_heading.specs.declared.heading.ResultTree.{ResultTree}
use Rattle.mz_tree_heading.specs.declared.meaning.CasesTree.{CasesTree}
use Rattle.mz_tree_heading.specs.declared.meaning.MeaningTree.{MeaningTree}
use Rattle.mz_tree_item.specs.declared.definition.ConditionOrPropertyTree.{ConditionOrPropertyTree}
use Rattle.mz_defined.specs.Atoms.{AtomRead, predicate_heading, DefinesPredicate, attribute_heading, DefinesAttribute}
use Rattle.mz_defined.specs.Functors as fu
use Rattle.mz_defined.specs.Functors.{MeansReadAt, EqualsReadAt, means_functor_heading, equals_functor_heading, DefinesFunctorBy, DefinesFunctor, mode_visible, mode_heading, DefinesMode, abbreviation_of, DefinesAbbreviation}
use Rattle.mz_defined.specs.Headed as hd
use Rattle.mz_defined.specs.Headed.{DefiningHeading, DefinesBy, DefinesByFormulas}
use Rattle.mz_defined.specs.Owing.{TakesWritten, TakesOwing}
use Rattle.mz_heading_laws.specs.Laws.{OneHeadingLaw}
use Rattle.mz_heading_laws.proofs.DefiniensOne.{one_definiens}
use Rattle.mz_heading_laws.proofs.FormulaOne.{one_formula_read}
use Rattle.mz_heading_laws.proofs.OwingProofs.{one_written, one_owing}

-- results

abbrev ResultAs : Environment → Context → ℕ → Left → Option ResultTree → Result SoftType Refusal → Left → Type 0
ResultAs e c least left None o a = IsValue (Ok set_type) left o a
ResultAs e c least left (Some t) o a = TypeRead e c least left t.ty o a

result_as : (e : Environment) (c : Context) (least : ℕ) (left : Left) (t : Option ResultTree) (o : Result SoftType Refusal) (a : Left) → ResultRead e c least left t o a → ResultAs e c least left t o a
result_as e c least left _ _ _ re.unwritten = (refl, refl)
result_as e c least left _ _ _ (re.written t o a h) = h

result_determined : (e : Environment) (c : Context) (least : ℕ) (left : Left) (t : Option ResultTree) → IsDetermined (ResultAs e c least left t)
result_determined e c least left None = determined_value (Ok set_type) left
result_determined e c least left (Some t) = one_type_read e c least left t.ty

one_result : (e : Environment) (c : Context) (least : ℕ) (left : Left) (t : Option ResultTree) → IsDetermined (ResultRead e c least left t)
one_result e c least left t = determined_by (ResultRead e c least left t) (ResultAs e c least left t) (result_as e c least left t) (result_determined e c least left t)

-- definientia

pub one_formulas : (e : Environment) (c : Context) (least : ℕ) (it : Option SoftType) (left : Left) (f : CasesTree FormulaData) → IsDetermined (FormulasRead e c least it left f)
one_formulas e c least it left f =
    one_definiens formula_shape (FormulaRead e (body_context c it) least) (FormulaRead e c least) (λ l b. one_formula_read e (body_context c it) least l b) (λ l b. one_formula_read e c least l b) left f

pub one_terms : (e : Environment) (c : Context) (least : ℕ) (left : Left) (u : CasesTree TermData) → IsDetermined (TermsRead e c least left u)
one_terms e c least left u = one_definiens term_shape (TermRead e c least) (FormulaRead e c least) (λ l b. one_term_read e c least l b) (λ l b. one_formula_read e c least l b) left u

abbrev MeansValue : SoftType → FormulaDefiniens → Left → Result ReadMeans Refusal → Left → Type 0
MeansValue ty d l = IsValue (Ok (record { ty = ty; definiens = d })) l

abbrev MeansNext : Environment → Context → ℕ → CasesTree FormulaData → SoftType → Left → Result ReadMeans Refusal → Left → Type 0
MeansNext e c least f ty l = ThenRead (FormulasRead e c least (Some ty) l f) as_it_is (MeansValue ty)

abbrev MeansAs : Environment → Context → ℕ → Left → Option ResultTree → CasesTree FormulaData → Result ReadMeans Refusal → Left → Type 0
MeansAs e c least left t f = ThenRead (ResultRead e c least left t) as_it_is (MeansNext e c least f)

means_as : (e : Environment) (c : Context) (least : ℕ) (left : Left) (t : Option ResultTree) (f : CasesTree FormulaData) (o : Result ReadMeans Refusal) (a : Left) → MeansRead e c least left t f o a → MeansAs e c least left t f o a
means_as e c least left t f _ _ (re.no_type r a h) = (Err r, a, h, refl)
means_as e c least left t f _ _ (re.no_formula ty r between a h i) = (Ok ty, between, h, (Err r, a, i, refl))
means_as e c least left t f _ _ (re.formula_read ty d between a h i) = (Ok ty, between, h, (Ok d, a, i, (refl, refl)))

one_means : (e : Environment) (c : Context) (least : ℕ) (left : Left) (t : Option ResultTree) (f : CasesTree FormulaData) → IsDetermined (MeansRead e c least left t f)
one_means e c least left t f =
    determined_by (MeansRead e c least left t f) (MeansAs e c least left t f) (means_as e c least left t f)
    (determined_then (ResultRead e c least left t) as_it_is (MeansNext e c least f) (one_result e c least left t)
    (λ ty l. determined_then (FormulasRead e c least (Some ty) l f) as_it_is (MeansValue ty) (one_formulas e c least (Some ty) l f) (λ d m. determined_value (Ok (record { ty = ty; definiens = d })) m)))

abbrev EqualsValue : SoftType → TermDefiniens → Left → Result ReadEquals Refusal → Left → Type 0
EqualsValue ty d l = IsValue (Ok (record { ty = ty; definiens = d })) l

abbrev EqualsNext : Environment → Context → ℕ → CasesTree TermData → SoftType → Left → Result ReadEquals Refusal → Left → Type 0
EqualsNext e c least u ty l = ThenRead (TermsRead e c least l u) as_it_is (EqualsValue ty)

abbrev EqualsAs : Environment → Context → ℕ → Left → Option ResultTree → CasesTree TermData → Result ReadEquals Refusal → Left → Type 0
EqualsAs e c least left t u = ThenRead (ResultRead e c least left t) as_it_is (EqualsNext e c least u)

equals_as : (e : Environment) (c : Context) (least : ℕ) (left : Left) (t : Option ResultTree) (u : CasesTree TermData) (o : Result ReadEquals Refusal) (a : Left) → EqualsRead e c least left t u o a → EqualsAs e c least left t u o a
equals_as e c least left t u _ _ (re.no_result r a h) = (Err r, a, h, refl)
equals_as e c least left t u _ _ (re.no_term ty r between a h i) = (Ok ty, between, h, (Err r, a, i, refl))
equals_as e c least left t u _ _ (re.term_read ty d between a h i) = (Ok ty, between, h, (Ok d, a, i, (refl, refl)))

one_equals : (e : Environment) (c : Context) (least : ℕ) (left : Left) (t : Option ResultTree) (u : CasesTree TermData) → IsDetermined (EqualsRead e c least left t u)
one_equals e c least left t u =
    determined_by (EqualsRead e c least left t u) (EqualsAs e c least left t u) (equals_as e c least left t u)
    (determined_then (ResultRead e c least left t) as_it_is (EqualsNext e c least u) (one_result e c least left t)
    (λ ty l. determined_then (TermsRead e c least l u) as_it_is (EqualsValue ty) (one_terms e c least l u) (λ d m. determined_value (Ok (record { ty = ty; definiens = d })) m)))

-- a heading with a definiens

abbrev unread : Refusal → Taken Standing
unread r = Refused (Proof (Resolve r))

next_there : {X : Type 0} (bad : Taken Standing) (next : X → Taken Standing → Type 0) (z : Option X) (x : X) (o : Taken Standing) → z ≡ Some x → next x o → NextSome bad next z o
next_there {X} bad next z x o e h = subst (λ (y : Option X). NextSome bad next y o) (sym e) h

next_lacking : {X : Type 0} (bad : Taken Standing) (next : X → Taken Standing → Type 0) (z : Option X) → z ≡ None → NextSome bad next z bad
next_lacking {X} bad next z e = subst (λ (y : Option X). NextSome bad next y bad) (sym e) refl

abbrev OwingNext : {X : Type 0} → ℕ → Standing → DefiningHeading X → List ConditionOrPropertyTree → Place → Visible → X → Left → Taken Standing → Type 0
OwingNext least s h ws behind v x l = TakesOwing least (with_left s l) h.first h.label (h.item v x) ws behind

abbrev ByBehind : {X : Type 0} → ℕ → Standing → DefiningHeading X → (Result X Refusal → Left → Type 0) → List ConditionOrPropertyTree → Place → Visible → Taken Standing → Type 0
ByBehind least s h reads ws behind v = AfterRead reads unread (OwingNext least s h ws behind v)

abbrev ByAs : {X : Type 0} → ℕ → Standing → DefiningHeading X → (Result X Refusal → Left → Type 0) → List ConditionOrPropertyTree → Place → Taken Standing → Type 0
ByAs least s h reads ws behind = NextSome (Refused (BadLoci h.first)) (ByBehind least s h reads ws behind) h.visible

by_as : {X : Type 0} (least : ℕ) (s : Standing) (h : DefiningHeading X) (reads : Result X Refusal → Left → Type 0) (ws : List ConditionOrPropertyTree) (behind : Place) (o : Taken Standing) → DefinesBy least s h reads ws behind o → ByAs least s h reads ws behind o
by_as least s h reads ws behind o (hd.bad_loci bad) = next_lacking (Refused (BadLoci h.first)) (ByBehind least s h reads ws behind) h.visible bad
by_as least s h reads ws behind o (hd.not_read v r after vis read) = next_there (Refused (BadLoci h.first)) (ByBehind least s h reads ws behind) h.visible v o vis (Err r, after, read, refl)
by_as least s h reads ws behind _ (hd.is_read v x after o vis read takes) = next_there (Refused (BadLoci h.first)) (ByBehind least s h reads ws behind) h.visible v o vis (Ok x, after, read, takes)

pub one_heading_by : {X : Type 0} (least : ℕ) (s : Standing) (h : DefiningHeading X) (reads : Result X Refusal → Left → Type 0) (ws : List ConditionOrPropertyTree) (behind : Place) → IsDetermined reads → AtMostOne (DefinesBy least s h reads ws behind)
one_heading_by {X} least s h reads ws behind is =
    one_by (DefinesBy least s h reads ws behind) (ByAs least s h reads ws behind) (by_as least s h reads ws behind)
    (one_next_some (Refused (BadLoci h.first)) (ByBehind least s h reads ws behind)
    (λ (v : Visible). one_after_read reads unread (OwingNext least s h ws behind v) is (λ x l o p i j. one_owing least (with_left s l) h.first h.label (h.item v x) ws behind i j)) h.visible)

one_heading_formulas : {X : Type 0} (least : ℕ) (s : Standing) (h : DefiningHeading X) (reads : CasesTree FormulaData → Result X Refusal → Left → Type 0) (ws : List ConditionOrPropertyTree) (behind : Place) → ((f : CasesTree FormulaData) → IsDetermined (reads f)) → {m : MeaningTree} {v w : Taken Standing} →
    DefinesByFormulas least s h reads ws behind m v → DefinesByFormulas least s h reads ws behind m w → v ≡ w
one_heading_formulas least s h reads ws behind is (hd.by_formulas means label f o k) (hd.by_formulas _ _ _ p j) = one_heading_by least s h (reads f) ws behind (is f) o p k j
one_heading_formulas least s h reads ws behind is (hd.no_formulas equals label u) (hd.no_formulas _ _ _) = refl

-- predicates, attributes, functors and modes

pub one_predicate : OneHeadingLaw DefinesPredicate
one_predicate least s t ws behind o p h k = one_heading_formulas least s (predicate_heading least s.context t) (AtomRead least s) ws behind (λ f. one_formulas s.environment s.context least None s.left f) h k

pub one_attribute : OneHeadingLaw DefinesAttribute
one_attribute least s t ws behind o p h k = one_heading_formulas least s (attribute_heading least s.context t) (AtomRead least s) ws behind (λ f. one_formulas s.environment s.context least None s.left f) h k

one_functor_by : (least : ℕ) (s : Standing) (t : FunctorHeadingTree MeaningTree) (ws : List ConditionOrPropertyTree) (behind : Place) {m : MeaningTree} {v w : Taken Standing} → DefinesFunctorBy least s t ws behind m v → DefinesFunctorBy least s t ws behind m w → v ≡ w
one_functor_by least s t ws behind (fu.by_means means label f o k) (fu.by_means _ _ _ p j) =
    one_heading_by least s (means_functor_heading least s.context t) (MeansReadAt least s t.result f) ws behind (one_means s.environment s.context least s.left t.result f) o p k j
one_functor_by least s t ws behind (fu.by_equals equals label u o k) (fu.by_equals _ _ _ p j) =
    one_heading_by least s (equals_functor_heading least s.context t) (EqualsReadAt least s t.result u) ws behind (one_equals s.environment s.context least s.left t.result u) o p k j

pub one_functor : OneHeadingLaw DefinesFunctor
one_functor least s t ws behind o p h k = one_functor_by least s t ws behind h k

true_false : true ≡ false → ⊥
true_false e = cc

pub one_mode : OneHeadingLaw DefinesMode
one_mode least s t ws behind _ _ (fu.hidden_mode a) (fu.hidden_mode b) = refl
one_mode least s t ws behind _ _ (fu.hidden_mode a) (fu.other_mode p b k) = absurd (true_false (sym a ∙ b))
one_mode least s t ws behind _ _ (fu.other_mode o a h) (fu.hidden_mode b) = absurd (true_false (sym b ∙ a))
one_mode least s t ws behind _ _ (fu.other_mode o a h) (fu.other_mode p b k) =
    one_heading_formulas least s (mode_heading least s.context t) (MeansReadAt least s t.result) ws behind (λ f. one_means s.environment s.context least s.left t.result f) h k

-- abbreviations

abbrev AbbreviationBehind : ℕ → Standing → AbbreviationTree → List ConditionOrPropertyTree → Place → Visible → Taken Standing → Type 0
AbbreviationBehind least s t ws behind v = AfterRead (TypeRead s.environment s.context least s.left t.ty) unread (λ ty l. TakesWritten least (with_left s l) [] (abbreviation_of least s.context t.pattern v ty) ws behind)

abbrev AbbreviationAs : ℕ → Standing → AbbreviationTree → List ConditionOrPropertyTree → Place → Taken Standing → Type 0
AbbreviationAs least s t ws behind = NextSome (Refused (BadLoci t.mode)) (AbbreviationBehind least s t ws behind) (mode_visible least s.context t.pattern)

abbreviation_as : (least : ℕ) (s : Standing) (t : AbbreviationTree) (ws : List ConditionOrPropertyTree) (behind : Place) (o : Taken Standing) → DefinesAbbreviation least s t ws behind o → AbbreviationAs least s t ws behind o
abbreviation_as least s t ws behind o (fu.pattern_unfit bad) = next_lacking (Refused (BadLoci t.mode)) (AbbreviationBehind least s t ws behind) (mode_visible least s.context t.pattern) bad
abbreviation_as least s t ws behind o (fu.type_refused v r after vis read) = next_there (Refused (BadLoci t.mode)) (AbbreviationBehind least s t ws behind) (mode_visible least s.context t.pattern) v o vis (Err r, after, read, refl)
abbreviation_as least s t ws behind _ (fu.type_read v ty after o vis read takes) = next_there (Refused (BadLoci t.mode)) (AbbreviationBehind least s t ws behind) (mode_visible least s.context t.pattern) v o vis (Ok ty, after, read, takes)

pub one_abbreviation : OneHeadingLaw DefinesAbbreviation
one_abbreviation least s t ws behind =
    one_by (DefinesAbbreviation least s t ws behind) (AbbreviationAs least s t ws behind) (abbreviation_as least s t ws behind)
    (one_next_some (Refused (BadLoci t.mode)) (AbbreviationBehind least s t ws behind)
    (λ v. one_after_read (TypeRead s.environment s.context least s.left t.ty) unread (λ ty l. TakesWritten least (with_left s l) [] (abbreviation_of least s.context t.pattern v ty) ws behind) (one_type_read s.environment s.context least s.left t.ty)
    (λ ty l o p i j. one_written least (with_left s l) [] (abbreviation_of least s.context t.pattern v ty) ws behind i j)) (mode_visible least s.context t.pattern))
