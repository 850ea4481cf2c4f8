-- Proof of the law of unfoldings.
use Rattle.std.proofs.Common.{◌≡◌, ℕ, ◌+◌, List, [], ◌∷◌, ◌++◌, map, length, refl, sym, ap, ◌∙◌, subst, arith, Bool, true, false}
use Rattle.std.specs.Prelude.{◌&&◌, not, if◌then◌else◌, flat_map, Option, Some, None}
use Rattle.std.proofs.lemmas.Bool.{and_parts}
use Rattle.mz_logic.specs.Term as term
use Rattle.mz_logic.specs.Term.{Bound}
use Rattle.mz_logic.specs.Formula as formula
use Rattle.mz_logic.specs.Formula.{Formula}
use Rattle.mz_logic.specs.Negation.{negated, falsity}
use Rattle.mz_logic.specs.Connectives.{implies}
use Rattle.mz_logic.specs.Substitution.{shift, substitute_formula, value_at}
use Rattle.mz_logic.specs.Derives.{Derives}
use Rattle.mz_logic.specs.declared.sym.Sym.{Sym}
use Rattle.mz_logic.specs.declared.literal.Literal.{Literal}
use Rattle.mz_logic.specs.declared.literal.Literal.TheVariants as literal
use Rattle.mz_logic.proofs.Rules.{and_left, and_right, not_in, not_out, classical}
use Rattle.mz_logic.proofs.Connectives.{first, second, under, anywhere}
use Rattle.mz_logic.proofs.Each.{Along, negated_in, negated_out, implies_in, implies_out}
use Rattle.mz_core.specs.Statement as statement
use Rattle.mz_core.specs.Statement.{Statement, For}
use Rattle.mz_core.specs.StatementForms.{opposite, equivalence}
use Rattle.mz_core.specs.Parts.{conjunction}
use Rattle.mz_core.specs.Erasure.{erase}
use Rattle.mz_core.specs.Guard.{adjective_literal}
use Rattle.mz_core.specs.Hidden.{is_of_any_object}
use Rattle.mz_core.specs.TypeShift.{shift_adjective}
use Rattle.mz_core.specs.TypeStatements.{literal_statement, is_of_type_inside}
use Rattle.mz_core.specs.TypedSequent.{erased_sequent}
use Rattle.mz_core.specs.declared.typed_sequent.TypedSequent.{TypedSequent}
use Rattle.mz_core.specs.declared.adjective.Adjective.{Adjective}
use Rattle.mz_core.specs.declared.soft_type.SoftType.{SoftType}
use Rattle.mz_core.specs.declared.formula_definiens.FormulaDefiniens.{FormulaDefiniens}
use Rattle.mz_core.specs.declared.formula_definiens.FormulaDefiniens.TheVariants.{Plain, Cases, CasesOtherwise}
use Rattle.mz_core.specs.declared.redefinition.FunctorMeaning.{FunctorMeaning}
use Rattle.mz_core.specs.declared.redefinition.FunctorMeaning.TheVariants.{Means, Equals}
use Rattle.mz_core.specs.declared.item.Item.TheVariants.{Axiom, AxiomScheme, Primitive, Theorem, Scheme, FunctorMeans, FunctorEquals, Predicate, Attribute, ModeMeans, Abbreviation, Notation, RedefinedFunctor, RedefinedMode, RedefinedPredicate, RedefinedAttribute, Property, Existential, Conditional, Functorial, Reduction, Identification, Structure, SetTerm, Choice}
use Rattle.mz_ground.specs.declared.trigger.Trigger.{Trigger}
use Rattle.mz_ground.specs.declared.trigger.Trigger.TheVariants.{Term, Atom}
use Rattle.mz_ground.specs.Variables.{has_all_below}
use Rattle.mz_items.specs.Loci.{over, term_on, predicate_on, attribute_on, mode_on}
use Rattle.mz_items.specs.DefinitionRows.{functor_means, atom_means, mode_means}
use Rattle.mz_items.specs.RedefinitionRows.{type_or, functor_coherence, mode_coherence, functor_compatibility, mode_compatibility, atom_compatibility}
use Rattle.mz_items.specs.Items.{owes, grants, owed_if_any}
use Rattle.mz_items.specs.Exports.{conclusion_alone}
use Rattle.mz_environment.specs.Rows.{is_empty, is_bare, is_mode, has_loci}
use Rattle.mz_environment.specs.Unfoldings.{is_application, unfolding_of, unfolding_where, literal_unfoldings, literal_definition, literal_redefinition, mode_definition, mode_redefinition, functor_definition, functor_redefinition}
use Rattle.mz_clause_laws.specs.RowLaws.{AllFollow}
use Rattle.mz_clause_laws.proofs.Literals.{over_closed, implication_at}
use Rattle.mz_clause_laws.proofs.PropertyProofs.{opposite_at}
use Rattle.mz_clause_laws.proofs.ItemProofs.{owed_follows}
use Rattle.mz_unfolding_laws.specs.UnfoldingLaw.{head_statement, Unfolds, AllUnfold, UnfoldingLaw}

along_of : (ax g fs : List Formula) → AllFollow ax g fs → Along ax g fs
along_of ax g [] a = tt
along_of ax g (f ∷ fs) a = (a.0, along_of ax g fs a.1)

-- from the equivalence itself
unfolds : (ax : List Formula) (loci : List SoftType) (r : Trigger) (d : Statement) → Derives ax [] (erase (over loci (equivalence (head_statement r) d))) → Unfolds ax (unfolding_of loci r d)
unfolds ax loci r d derived g ts h count guards =
    let whole : length ts ≡ length loci + 0 = omega arith in
    let both : Derives ax g (substitute_formula 0 (value_at ts) (erase (equivalence (head_statement r) d))) = over_closed ax g 0 ts loci (equivalence (head_statement r) d) h whole (along_of ax g _ guards) (anywhere ax g _ derived) in
    (and_left ax g _ _ both, and_right ax g _ _ both)

-- from that of the negated atom and the negated definiens
negation_forth : (ax g : List Formula) (a d : Formula) → Derives ax g (implies d (formula.Not a)) → Derives ax g (implies a (negated d))
negation_forth ax g a d e =
    let h : List Formula = d ∷ a ∷ g in
    let fails : Derives ax h (formula.Not a) = implies_out ax h d (formula.Not a) (under ax (a ∷ g) d (implies d (formula.Not a)) (under ax g a (implies d (formula.Not a)) e)) (first ax (a ∷ g) d) in
    let holds : Derives ax h a = second ax g a d in
    implies_in ax g a (negated d) (negated_in ax (a ∷ g) d (not_in ax (a ∷ g) d (not_out ax h a falsity holds fails)))

negation_back : (ax g : List Formula) (a d : Formula) → Derives ax g (implies (formula.Not a) d) → Derives ax g (implies (negated d) a)
negation_back ax g a d e =
    let k : List Formula = negated d ∷ g in
    let h : List Formula = formula.Not a ∷ negated d ∷ g in
    let holds : Derives ax h d = implies_out ax h (formula.Not a) d (under ax k (formula.Not a) (implies (formula.Not a) d) (under ax g (negated d) (implies (formula.Not a) d) e)) (first ax k (formula.Not a)) in
    let fails : Derives ax h (formula.Not d) = negated_out ax h d (second ax g (negated d) (formula.Not a)) in
    implies_in ax g (negated d) a (classical ax k a (not_out ax h d falsity holds fails))

unfolds_negated : (ax : List Formula) (loci : List SoftType) (s : Sym) (us : List term.Term) (d : Statement) → Derives ax [] (erase (over loci (equivalence (statement.Not (statement.Atom s us)) d))) → Unfolds ax (unfolding_of loci (Atom s us) (opposite d))
unfolds_negated ax loci s us d derived g ts h count guards =
    let v : ℕ → term.Term = value_at ts in
    let whole : length ts ≡ length loci + 0 = omega arith in
    let a : Formula = substitute_formula 0 v (formula.Atom s us) in
    let e : Formula = substitute_formula 0 v (erase d) in
    let both : Derives ax g (substitute_formula 0 v (erase (equivalence (statement.Not (statement.Atom s us)) d))) = over_closed ax g 0 ts loci (equivalence (statement.Not (statement.Atom s us)) d) h whole (along_of ax g _ guards) (anywhere ax g _ derived) in
    let forth : Derives ax g (implies (formula.Not a) e) = subst (Derives ax g) (implication_at v (statement.Not (statement.Atom s us)) d) (and_left ax g _ _ both) in
    let back : Derives ax g (implies e (formula.Not a)) = subst (Derives ax g) (implication_at v d (statement.Not (statement.Atom s us))) (and_right ax g _ _ both) in (
      subst (Derives ax g) (ap (implies a) (sym (opposite_at v d)) ∙ sym (implication_at v (statement.Atom s us) (opposite d))) (negation_forth ax g a e back),
      subst (Derives ax g) (ap (λ k. implies k a) (sym (opposite_at v d)) ∙ sym (implication_at v (opposite d) (statement.Atom s us))) (negation_back ax g a e forth),
    )

-- an unfolding, where there is one
where_unfolds : (ax : List Formula) (b : Bool) (loci : List SoftType) (r : Trigger) (d : Statement) → (b ≡ true → Unfolds ax (unfolding_of loci r d)) → AllUnfold ax (unfolding_where b loci r d)
where_unfolds ax true loci r d each = (each refl, tt)
where_unfolds ax false loci r d each = tt

-- predicates and attributes
literal_unfolds : (ax : List Formula) (loci : List SoftType) (l : Literal) (d : Statement) → Derives ax [] (erase (over loci (equivalence (literal_statement l) d))) → AllUnfold ax (literal_unfoldings loci l d)
literal_unfolds ax loci (literal.Eq positive t u) d derived = tt
literal_unfolds ax loci (literal.Atom true s us) d derived = where_unfolds ax (has_all_below (length loci) (Atom s us)) loci (Atom s us) d (λ e. unfolds ax loci (Atom s us) d derived)
literal_unfolds ax loci (literal.Atom false s us) d derived = where_unfolds ax (has_all_below (length loci) (Atom s us)) loci (Atom s us) (opposite d) (λ e. unfolds_negated ax loci s us d derived)

literal_defined : (ax : List Formula) (loci : List SoftType) (l : Literal) (d : FormulaDefiniens) → Derives ax [] (erase (over loci (atom_means (literal_statement l) d))) → AllUnfold ax (literal_definition loci l d)
literal_defined ax loci l (Plain e) derived = literal_unfolds ax loci l e derived
literal_defined ax loci l (Cases cases) derived = tt
literal_defined ax loci l (CasesOtherwise cases e) derived = tt

literal_redefined : (ax : List Formula) (loci : List SoftType) (l : Literal) (m : Option FormulaDefiniens) → ((d : FormulaDefiniens) → m ≡ Some d → Derives ax [] (erase (over loci (atom_means (literal_statement l) d)))) → AllUnfold ax (literal_redefinition loci l m)
literal_redefined ax loci l None each = tt
literal_redefined ax loci l (Some d) each = literal_defined ax loci l d (each d refl)

-- one more locus
over_one_more : (loci : List SoftType) (ty : SoftType) (s : Statement) → over loci (For ty s) ≡ over (loci ++ ty ∷ []) s
over_one_more [] ty s = refl
over_one_more (u ∷ us) ty s = ap (For u) (over_one_more us ty s)

one_more : (ax : List Formula) (loci : List SoftType) (ty : SoftType) (s : Statement) → Derives ax [] (erase (over loci (For ty s))) → Derives ax [] (erase (over (loci ++ ty ∷ []) s))
one_more ax loci ty s d = subst (λ w. Derives ax [] (erase w)) (over_one_more loci ty s) d

-- functors
functor_defined : (ax : List Formula) (loci : List SoftType) (t : term.Term) (ty : SoftType) (d : FormulaDefiniens) → Derives ax [] (erase (over loci (functor_means t ty d))) → AllUnfold ax (functor_definition loci t ty d)
functor_defined ax loci t ty (Plain e) derived =
    where_unfolds ax (is_application t && has_all_below (length loci) (Term t)) (loci ++ ty ∷ []) (Term (shift 0 1 t)) e
    (λ b. unfolds ax (loci ++ ty ∷ []) (Term (shift 0 1 t)) e (one_more ax loci ty (equivalence (statement.Eq (Bound 0) (shift 0 1 t)) e) derived))
functor_defined ax loci t ty (Cases cases) derived = tt
functor_defined ax loci t ty (CasesOtherwise cases e) derived = tt

functor_redefined : (ax : List Formula) (loci : List SoftType) (t : term.Term) (ty : SoftType) (m : Option FunctorMeaning) → ((d : FormulaDefiniens) → m ≡ Some (Means d) → Derives ax [] (erase (over loci (functor_means t ty d)))) → AllUnfold ax (functor_redefinition loci t ty m)
functor_redefined ax loci t ty None each = tt
functor_redefined ax loci t ty (Some (Means d)) each = functor_defined ax loci t ty d (each d refl)
functor_redefined ax loci t ty (Some (Equals d)) each = tt

-- modes
no_adjectives : (xs : List Adjective) → is_empty xs ≡ true → xs ≡ []
no_adjectives [] h = refl
no_adjectives (x ∷ xs) h = cc

not_any : (b : Bool) → not b ≡ true → b ≡ false
not_any true h = cc
not_any false h = refl

if-chosen_last : (X : Type 0) (b : Bool) (x y : X) → b ≡ false → (if b then x else y) ≡ y
if-chosen_last X true x y h = cc
if-chosen_last X false x y h = refl

is_of_type_inside-bare_atom : (mode : SoftType) → is_bare mode ≡ true → is_of_type_inside mode ≡ statement.Atom mode.radix.sym (map (shift 0 1) mode.radix.args ++ Bound 0 ∷ [])
is_of_type_inside-bare_atom mode h =
    let both : (is_empty mode.adjectives ≡ true) × (not (is_of_any_object mode.radix.sym) ≡ true) = and_parts (is_empty mode.adjectives) (not (is_of_any_object mode.radix.sym)) h in
    let none : mode.adjectives ≡ [] = no_adjectives mode.adjectives both.0 in
    let atom : List Literal = literal.Atom true mode.radix.sym (map (shift 0 1) mode.radix.args ++ Bound 0 ∷ []) ∷ [] in
    let radix : (if is_of_any_object mode.radix.sym then [] else atom) ≡ atom = if-chosen_last (List Literal) (is_of_any_object mode.radix.sym) [] atom (not_any (is_of_any_object mode.radix.sym) both.1) in
    λ i. conjunction (map literal_statement (radix i ++ map (adjective_literal (Bound 0)) (map (shift_adjective 0 1) (none i))))

mode_defined : (ax : List Formula) (loci : List SoftType) (mode ty : SoftType) (d : FormulaDefiniens) → Derives ax [] (erase (over loci (mode_means mode ty d))) → AllUnfold ax (mode_definition loci mode ty d)
mode_defined ax loci mode ty (Plain e) derived =
    where_unfolds ax (is_bare mode && is_mode mode.radix.sym.kind && has_loci loci mode) (loci ++ ty ∷ []) (Atom mode.radix.sym (map (shift 0 1) mode.radix.args ++ Bound 0 ∷ [])) e
    (λ b. unfolds ax (loci ++ ty ∷ []) (Atom mode.radix.sym (map (shift 0 1) mode.radix.args ++ Bound 0 ∷ [])) e
    (subst (λ s. Derives ax [] (erase (over (loci ++ ty ∷ []) (equivalence s e)))) (is_of_type_inside-bare_atom mode (and_parts (is_bare mode) (is_mode mode.radix.sym.kind) (and_parts (is_bare mode && is_mode mode.radix.sym.kind) (has_loci loci mode) b).0).0) (one_more ax loci ty (equivalence (is_of_type_inside mode) e) derived)))
mode_defined ax loci mode ty (Cases cases) derived = tt
mode_defined ax loci mode ty (CasesOtherwise cases e) derived = tt

mode_redefined : (ax : List Formula) (loci : List SoftType) (mode ty : SoftType) (m : Option FormulaDefiniens) → ((d : FormulaDefiniens) → m ≡ Some d → Derives ax [] (erase (over loci (mode_means mode ty d)))) → AllUnfold ax (mode_redefinition loci mode ty m)
mode_redefined ax loci mode ty None each = tt
mode_redefined ax loci mode ty (Some d) each = mode_defined ax loci mode ty d (each d refl)

-- an owed statement that stands behind another
later_follows : (ax : List Formula) (loci : List SoftType) (o p : Option Statement) (rest : List TypedSequent) (s : Statement) → p ≡ Some s → AllFollow ax [] (flat_map conclusion_alone (map erased_sequent (owed_if_any loci o ++ (owed_if_any loci p ++ rest)))) → Derives ax [] (erase (over loci s))
later_follows ax loci None p rest s e a = owed_follows ax [] loci p rest s e a
later_follows ax loci (Some t) p rest s e a = owed_follows ax [] loci p rest s e a.1

pub unfolding_law : UnfoldingLaw
unfolding owes grants
unfolding_law (Axiom s) ax a = tt
unfolding_law (AxiomScheme s) ax a = tt
unfolding_law (Primitive n) ax a = tt
unfolding_law (Theorem s) ax a = tt
unfolding_law (Scheme s) ax a = tt
unfolding_law (FunctorMeans d) ax a = functor_defined ax d.pattern.loci (term_on d.pattern.loci d.sym) d.ty d.definiens a.1.0
unfolding_law (FunctorEquals d) ax a = tt
unfolding_law (Predicate d) ax a = literal_defined ax d.pattern.loci (predicate_on d.pattern.loci d.sym) d.definiens a.0
unfolding_law (Attribute d) ax a = literal_defined ax d.pattern.loci (attribute_on d.pattern.loci d.subject d.sym) d.definiens a.0
unfolding_law (ModeMeans d) ax a = mode_defined ax d.pattern.loci (mode_on d.pattern.loci d.sym) d.ty d.definiens a.1.0
unfolding_law (Abbreviation n) ax a = tt
unfolding_law (Notation n) ax a = tt
unfolding_law (RedefinedFunctor d) ax a = functor_redefined ax d.pattern.loci d.term (type_or d.ty d.old) d.meaning (λ m e. later_follows ax d.pattern.loci (functor_coherence d.term d.ty) (functor_compatibility d.term (type_or d.ty d.old) d.meaning) _ (functor_means d.term (type_or d.ty d.old) m) (ap (functor_compatibility d.term (type_or d.ty d.old)) e) a)
unfolding_law (RedefinedMode d) ax a = mode_redefined ax d.pattern.loci d.mode (type_or d.ty d.old) d.meaning (λ m e. later_follows ax d.pattern.loci (mode_coherence d.mode d.ty) (mode_compatibility d.mode (type_or d.ty d.old) d.meaning) _ (mode_means d.mode (type_or d.ty d.old) m) (ap (mode_compatibility d.mode (type_or d.ty d.old)) e) a)
unfolding_law (RedefinedPredicate d) ax a = literal_redefined ax d.pattern.loci d.literal d.meaning (λ m e. owed_follows ax [] d.pattern.loci (atom_compatibility (literal_statement d.literal) d.meaning) _ (atom_means (literal_statement d.literal) m) (ap (atom_compatibility (literal_statement d.literal)) e) a)
unfolding_law (RedefinedAttribute d) ax a = literal_redefined ax d.pattern.loci d.literal d.meaning (λ m e. owed_follows ax [] d.pattern.loci (atom_compatibility (literal_statement d.literal) d.meaning) _ (atom_means (literal_statement d.literal) m) (ap (atom_compatibility (literal_statement d.literal)) e) a)
unfolding_law (Property p) ax a = tt
unfolding_law (Existential r) ax a = tt
unfolding_law (Conditional r) ax a = tt
unfolding_law (Functorial r) ax a = tt
unfolding_law (Reduction r) ax a = tt
unfolding_law (Identification r) ax a = tt
unfolding_law (Structure s) ax a = tt
unfolding_law (SetTerm s) ax a = tt
unfolding_law (Choice c) ax a = tt
