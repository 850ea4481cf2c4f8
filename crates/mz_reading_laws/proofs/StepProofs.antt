-- Contexts of steps stay whole, and what they say is of constants in force.
use Rattle.std.proofs.Common.{◌≡◌, ◌<◌, ◌+◌, ℕ, suc, Bool, true, false, List, [], ◌∷◌, ◌++◌, map, length, refl, sym, ap, ◌∙◌, subst, arith, Option, Some, None}
use Rattle.std.specs.Prelude.{◌&&◌, Contains, slice_get, flat_map}
use Rattle.std.specs.List.{list_all}
use Rattle.std.proofs.lemmas.Bool.{and_parts, and_from, lt-ltb, true≢false}
use Rattle.std.proofs.lemmas.List.{map-append}
use Rattle.std.proofs.lemmas.List.Elements.{Contains-append_cases}
use Rattle.mz_std_laws.proofs.Sums.{either}
use Rattle.mz_logic.specs.Term.{Term, Const}
use Rattle.mz_logic.specs.Indices.{is_below}
use Rattle.mz_logic.specs.Literal.{literal_formula}
use Rattle.mz_logic.proofs.ListLemmas.{list_all-where, list_all-map_where}
use Rattle.mz_core.specs.Statement.{Statement}
use Rattle.mz_core.specs.Parts.{conjunction}
use Rattle.mz_core.specs.Guard.{guard, guard_literals}
use Rattle.mz_core.specs.Erasure.{erase}
use Rattle.mz_core.specs.Closed.{term_under, type_under, statement_under, loci_closed}
use Rattle.mz_core.specs.InForce.{term_in_force, formula_in_force, type_in_force, statement_in_force}
use Rattle.mz_core.specs.Below.{statement_below}
use Rattle.mz_core.specs.TypeStatements.{is_of_type}
use Rattle.mz_core.specs.declared.scheme.SchemeLetter.{SchemeLetter}
use Rattle.mz_core.specs.declared.scheme.SchemeLetter.TheVariants.{OfFunctor, OfPredicate}
use Rattle.mz_core.proofs.AllLemmas.{all-append, conjunction_all, is_of_type_all}
use Rattle.mz_core.proofs.LawProofs.{in_force_at, statement_in_force-all, guard_in_force, erasure_in_force}
use Rattle.mz_items.specs.Closed.{letter_closed}
use Rattle.mz_items.specs.Loci.{over, term_on}
use Rattle.mz_items.specs.SchemeRows.{letter_types}
use Rattle.mz_items.proofs.RowLemmas.{under_at, over_under, term_on_under}
use Rattle.mz_context.specs.Context.{in_force, constant_at, next}
use Rattle.mz_context.specs.Changes.{with_constant, labelled}
use Rattle.mz_context.specs.Gather.{known_of, equation_if_any}
use Rattle.mz_context.specs.declared.constants.Constant.{Constant}
use Rattle.mz_context.specs.declared.context.Context.{Context}
use Rattle.mz_context.specs.declared.labelled.LabelledStatement.{LabelledStatement}
use Rattle.mz_fits.proofs.OneMatch.{some-inj, none_some}
use Rattle.mz_names.specs.Closing.{constant_of, with_variables}
use Rattle.mz_names.specs.declared.variable.Variable.{Variable}
use Rattle.mz_steps.specs.Rows.{constant_for, with_constants}
use Rattle.mz_steps.specs.Changes.{with_thesis, statement_of, joined_by, label_of, with_stated}
use Rattle.mz_steps.specs.declared.block.Effect.{Effect}
use Rattle.mz_steps.specs.declared.block.Effect.TheVariants.{Unchanged, Leaves, Says}
use Rattle.mz_steps.specs.declared.read_step.ReadStep.{ReadStep}
use Rattle.mz_steps.specs.declared.read_step.ReadStep.TheVariants.{Let, Assume, Given, Thus, Take, Consider, Reconsider, Set, State}
use Rattle.mz_steps_laws.specs.Facts.{known_from, just_before, letter_of, statements_in}
use Rattle.mz_steps_laws.specs.StepLaws.{AreDeclared}
use Rattle.mz_choice_laws.specs.Known.{term_known}
use Rattle.mz_choice_laws.proofs.ListParts.{all-from}
use Rattle.mz_choice_laws.proofs.KnownTerms.{term_known-under, term_known-below, term_known-in_force}
use Rattle.mz_choice_laws.proofs.KnownValues.{statement_all-where}
use Rattle.mz_term_laws.specs.Usable.{is_usable, statement_usable}
use Rattle.mz_term_laws.specs.Whole.{IsUsableConstant, IsWhole}
use Rattle.mz_term_laws.specs.ChangeLaws.{AreUsable}
use Rattle.mz_term_laws.proofs.UsableProofs.{next_further, numbered_below, statement_from-zero, usable_term_law, usable_type_law, usable_statement_law}
use Rattle.mz_term_laws.proofs.ChangeProofs.{constant_law, variables_law, thesis_law, previous_law, usable_variable, labelled_usable}
use Rattle.mz_reading_laws.specs.StepLaws.{IsUsableStep, LeavesUsable, AreUsableStatements, ContextAfterLaw, StartLaw, FactsInForceLaw, FactsClosedLaw, DeclaredInForceLaw}

-- with a step's constants
with_constants_whole : (least : ℕ) (c : Context) → IsWhole least c → (s : ReadStep) → IsUsableStep least c s → IsWhole least (with_constants c s)
with_constants_whole least c w (Let v) u = constant_law least c (constant_of v) w (usable_variable least c v u)
with_constants_whole least c w (Assume s) u = w
with_constants_whole least c w (Given vs s) u = variables_law least c vs w u.0
with_constants_whole least c w (Thus s) u = w
with_constants_whole least c w (Take t) u = w
with_constants_whole least c w (Consider vs s) u = variables_law least c vs w u.0
with_constants_whole least c w (Reconsider d) u = constant_law least c (constant_for d) w u
with_constants_whole least c w (Set d) u = constant_law least c (constant_for d) w u
with_constants_whole least c w (State s) u = w

-- with what was stated
stated_labelled : (least : ℕ) (c : Context) (ps : List LabelledStatement) → AreUsableStatements least c ps → (p : LabelledStatement) → Contains (flat_map label_of ps) p → statement_usable least c p.statement ≡ true
stated_labelled least c [] f p i = absurd (let lt = i.1 in omega arith)
stated_labelled least c (q ∷ qs) f p i =
    either (Contains-append_cases (labelled q.label q.statement) (flat_map label_of qs) p i) (λ j. labelled_usable least c q.label q.statement (f q (0, omega arith, refl)) p j)
    (λ j. stated_labelled least c qs (λ r k. f r (suc k.0, omega (arith, k.1), k.2)) p j)

all-statements : (least : ℕ) (c : Context) (ps : List LabelledStatement) → AreUsableStatements least c ps → list_all (statement_usable least c) (map statement_of ps) ≡ true
all-statements least c ps f =
    list_all-map_where (λ p. statement_usable least c (statement_of p)) (statement_usable least c) statement_of (λ p h. h) ps (all-from (λ p. statement_usable least c (statement_of p)) ps f)

joined_usable : (least : ℕ) (c : Context) (ps : List LabelledStatement) → AreUsableStatements least c ps → (s : Statement) → joined_by ps ≡ Some s → statement_usable least c s ≡ true
joined_usable least c [] f s e = absurd (none_some s e)
joined_usable least c (p ∷ ps) f s e =
    let each : list_all (statement_usable least c) (map statement_of (p ∷ ps)) ≡ true = all-statements least c (p ∷ ps) f in
    subst (λ (t : Statement). statement_usable least c t ≡ true) (some-inj (conjunction (map statement_of (p ∷ ps))) s e) (conjunction_all (term_known (is_usable least c)) 0 (map statement_of (p ∷ ps)) each)

stated_whole : (least : ℕ) (c : Context) (ps : List LabelledStatement) → IsWhole least c → AreUsableStatements least c ps → IsWhole least (with_stated c ps)
stated_whole least c ps w f =
    record {
      constants = w.constants;
      reserved = w.reserved;
      labelled = λ p i h. either (Contains-append_cases c.labelled (flat_map label_of ps) p i) (λ j. w.labelled p j h) (λ j. stated_labelled least c ps f p j);
      previous = λ s e h. joined_usable least c ps f s e;
      functors = w.functors;
      predicates = w.predicates;
      letters = w.letters;
      thesis = w.thesis;
      it_is = w.it_is;
      arguments = w.arguments;
      subject = w.subject;
    }

after_effect : (least : ℕ) (c : Context) (e : Effect) (ps : List LabelledStatement) → IsWhole least c → LeavesUsable least c e → AreUsableStatements least c ps → IsWhole least (with_stated (with_thesis c e) ps)
after_effect least c Unchanged ps w l f = stated_whole least c ps w f
after_effect least c (Leaves s) ps w l f = stated_whole least (record c { thesis = Some s }) ps (thesis_law least c s w l) f
after_effect least c (Says qs) ps w l f = stated_whole least c ps w f

pub context_after_law : ContextAfterLaw
context_after_law least c w s u e l ps f = after_effect least (with_constants c s) e ps (with_constants_whole least c w s u) l f

pub start_law : StartLaw
start_law least c w = (λ s h. previous_law least (record c { thesis = Some s }) (thesis_law least c s w h), previous_law least c w)

-- what is known of constants
equation_in_force : (n m : ℕ) (o : Option Term) → m < n → ((t : Term) → o ≡ Some t → term_in_force n t ≡ true) → list_all (formula_in_force n) (map literal_formula (equation_if_any m o)) ≡ true
equation_in_force n m None lt f = refl
equation_in_force n m (Some t) lt f = and_from (term_in_force n (Const m) && term_in_force n t) true (and_from (term_in_force n (Const m)) (term_in_force n t) (lt-ltb m n lt) (f t refl)) refl

known_in_force : (c : Context) → IsWhole 0 c → (n : ℕ) (k : Constant) → constant_at c n ≡ Some k → list_all (formula_in_force (next c)) (map literal_formula (known_of n (Some k))) ≡ true
known_in_force c w n k e =
    let u : IsUsableConstant 0 c k = w.constants n k e (omega arith) in
    let lt : n < next c = numbered_below c.constants n k e in
    let guards : list_all (formula_in_force (next c)) (guard k.ty (Const n)) ≡ true = guard_in_force (next c) k.ty (Const n) (usable_type_law 0 c k.ty u.0).1 (lt-ltb n (next c) lt) in
    let equation : list_all (formula_in_force (next c)) (map literal_formula (equation_if_any n k.equal)) ≡ true = equation_in_force (next c) n k.equal lt (λ t i. (usable_term_law 0 c t (u.1 t i)).1) in
    ap (list_all (formula_in_force (next c))) (map-append literal_formula (guard_literals k.ty (Const n)) (equation_if_any n k.equal)) ∙
    all-append (formula_in_force (next c)) (guard k.ty (Const n)) (map literal_formula (equation_if_any n k.equal)) guards equation

place_in_force : (c : Context) → IsWhole 0 c → (n : ℕ) (o : Option Constant) → ((k : Constant) → o ≡ Some k → constant_at c n ≡ Some k) → list_all (formula_in_force (next c)) (map literal_formula (known_of n o)) ≡ true
place_in_force c w n None f = refl
place_in_force c w n (Some k) f = known_in_force c w n k (f k refl)

places_in_force : (c : Context) → IsWhole 0 c → (n : ℕ) (os : List (Option Constant)) → ((m : ℕ) (k : Constant) → slice_get os m ≡ Some (Some k) → constant_at c (n + m) ≡ Some k) → list_all (formula_in_force (next c)) (map literal_formula (known_from n os)) ≡ true
places_in_force c w n [] f = refl
places_in_force c w n (o ∷ os) f =
    let zero_more : n + 0 ≡ n = omega arith in
    let first : list_all (formula_in_force (next c)) (map literal_formula (known_of n o)) ≡ true =
    place_in_force c w n o (λ k e. subst (λ i. constant_at c i ≡ Some k) zero_more (f 0 k (ap (λ x. Some x) e))) in
    let others : list_all (formula_in_force (next c)) (map literal_formula (known_from (suc n) os)) ≡ true =
    places_in_force c w (suc n) os (λ m k e. let one_more : n + suc m ≡ suc n + m = omega arith in subst (λ i. constant_at c i ≡ Some k) one_more (f (suc m) k e)) in
    ap (list_all (formula_in_force (next c))) (map-append literal_formula (known_of n o) (known_from (suc n) os)) ∙
    all-append (formula_in_force (next c)) (map literal_formula (known_of n o)) (map literal_formula (known_from (suc n) os)) first others

-- what holds of usable statements holds of those that are labelled and of the one just before
labelled_all : (p : Statement → Bool) (c : Context) → IsWhole 0 c → ((s : Statement) → statement_usable 0 c s ≡ true → p s ≡ true) → list_all p (map statement_of c.labelled) ≡ true
labelled_all p c w f =
    list_all-map_where (λ q. p (statement_of q)) p statement_of (λ q h. h) c.labelled
    (all-from (λ q. p (statement_of q)) c.labelled (λ q i. f q.statement (w.labelled q i (statement_from-zero q.statement))))

previous_all : (p : Statement → Bool) (o : Option Statement) → ((s : Statement) → o ≡ Some s → p s ≡ true) → list_all p (just_before o) ≡ true
previous_all p None f = refl
previous_all p (Some s) f = and_from (p s) true (f s refl) refl

-- the types of letters have no constant
letter_types_closed : (ls : List SchemeLetter) → list_all letter_closed ls ≡ true → list_all (statement_under 0) (letter_types ls) ≡ true
letter_types_closed [] h = refl
letter_types_closed (OfFunctor s places ty ∷ ls) h =
    let both : (letter_closed (OfFunctor s places ty) ≡ true) × (list_all letter_closed ls ≡ true) = and_parts (letter_closed (OfFunctor s places ty)) (list_all letter_closed ls) h in
    let parts : (loci_closed places ≡ true) × (type_under (length places) ty ≡ true) = and_parts (loci_closed places) (type_under (length places) ty) both.0 in
    let e : length places ≡ 0 + length places = omega arith in
    let said : statement_under (length places) (is_of_type ty (term_on places s)) ≡ true = is_of_type_all term_under (length places) ty (term_on places s) parts.1 (term_on_under places s) in
    and_from (statement_under 0 (over places (is_of_type ty (term_on places s)))) (list_all (statement_under 0) (letter_types ls))
    (over_under 0 places (is_of_type ty (term_on places s)) parts.0 (under_at (length places) (0 + length places) (is_of_type ty (term_on places s)) e said)) (letter_types_closed ls both.1)
letter_types_closed (OfPredicate s places ∷ ls) h = letter_types_closed ls (and_parts (letter_closed (OfPredicate s places)) (list_all letter_closed ls) h).1

letters_all : (p : Statement → Bool) (c : Context) → IsWhole 0 c → ((s : Statement) → statement_under 0 s ≡ true → p s ≡ true) → list_all p (letter_types (map letter_of c.letters)) ≡ true
letters_all p c w f =
    list_all-where (statement_under 0) p f (letter_types (map letter_of c.letters))
    (letter_types_closed (map letter_of c.letters) (list_all-map_where (λ l. letter_closed (letter_of l)) letter_closed letter_of (λ l h. h) c.letters (all-from (λ l. letter_closed (letter_of l)) c.letters (λ l i. w.letters l i))))

-- what holds of usable statements and of closed ones holds of all that a context says
statements_all : (p : Statement → Bool) (c : Context) → IsWhole 0 c → ((s : Statement) → statement_usable 0 c s ≡ true → p s ≡ true) → ((s : Statement) → statement_under 0 s ≡ true → p s ≡ true) → list_all p (statements_in c) ≡ true
statements_all p c w f g =
    all-append p (map statement_of c.labelled ++ just_before c.previous) (letter_types (map letter_of c.letters))
    (all-append p (map statement_of c.labelled) (just_before c.previous) (labelled_all p c w f) (previous_all p c.previous (λ s e. f s (w.previous s e (statement_from-zero s)))))
    (letters_all p c w g)

closed_in_force : (next : ℕ) (s : Statement) → statement_under 0 s ≡ true → statement_in_force next s ≡ true
closed_in_force next s h =
    statement_in_force-all next 0 s ∙ statement_all-where term_under (in_force_at next) 0 s (λ m t k. term_known-in_force (λ c. false) next (λ c e. absurd (true≢false (sym e))) m t (term_known-under (λ c. false) m t k)) h

closed_below : (s : Statement) → statement_under 0 s ≡ true → statement_below 0 s ≡ true
closed_below s h = statement_all-where term_under is_below 0 s (λ m t k. term_known-below (λ c. false) m t (term_known-under (λ c. false) m t k)) h

statements_in_force : (c : Context) → IsWhole 0 c → list_all (statement_in_force (next c)) (statements_in c) ≡ true
statements_in_force c w = statements_all (statement_in_force (next c)) c w (λ s h. (usable_statement_law 0 c s h).1) (closed_in_force (next c))

pub facts_closed_law : FactsClosedLaw
facts_closed_law c w = statements_all (statement_below 0) c w (λ s h. (usable_statement_law 0 c s h).0) closed_below

pub facts_in_force_law : FactsInForceLaw
facts_in_force_law c w =
    all-append (formula_in_force (next c)) (map literal_formula (known_from 1 c.constants)) (map erase (statements_in c))
    (places_in_force c w 1 c.constants (λ m k e. let one : suc m ≡ 1 + m = omega arith in subst (λ i. constant_at c i ≡ Some k) one (ap in_force e)))
    (list_all-map_where (statement_in_force (next c)) (formula_in_force (next c)) erase (λ s h. erasure_in_force (next c) s h) (statements_in c) (statements_in_force c w))

-- declared variables
declared_at : (least : ℕ) (c : Context) (n : ℕ) (vs : List Variable) (s : Statement) → next c ≡ n → AreUsable least c vs → statement_usable least (with_variables c vs) s ≡ true → AreDeclared n vs s
declared_at least c n [] s e u h = subst (λ m. statement_in_force m s ≡ true) e (usable_statement_law least c s h).1
declared_at least c n (v ∷ vs) s e u h = (
  subst (λ m. type_in_force m v.ty ≡ true) e (usable_type_law least c v.ty u.0).1,
  declared_at least (with_constant c (constant_of v)) (suc n) vs s (next_further c (constant_of v) ∙ ap suc e) u.1 h,
)

pub declared_in_force_law : DeclaredInForceLaw
declared_in_force_law least c vs s u h = declared_at least c (next c) vs s refl u h
