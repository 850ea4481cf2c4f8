-- The rows and unfoldings of items.
use Rattle.std.proofs.Common.{◌≡◌, ℕ, ◌+◌, List, [], ◌∷◌, ◌++◌, map, length, refl, sym, ◌∙◌, subst, arith, Bool, true, false}
use Rattle.std.specs.Prelude.{Option, Some, None}
use Rattle.std.specs.List.{list_all}
use Rattle.std.proofs.lemmas.Bool.{and_parts, and_from}
use Rattle.std.proofs.lemmas.List.{length-append}
use Rattle.mz_logic.specs.declared.sym.Sym.{Sym}
use Rattle.mz_logic.specs.Term as term
use Rattle.mz_logic.specs.Term.{Bound, Const, App, Terms, none, more, list_of}
use Rattle.mz_logic.specs.Substitution.{shift}
use Rattle.mz_logic.specs.declared.literal.Literal.{Literal}
use Rattle.mz_logic.specs.declared.literal.Literal.TheVariants as literal
use Rattle.mz_core.specs.Statement.{Statement}
use Rattle.mz_core.specs.Hidden.{set_type}
use Rattle.mz_core.specs.Closed.{term_under, args_under, literal_under, type_under, statement_under, loci_under, loci_closed}
use Rattle.mz_core.specs.declared.soft_type.SoftType.{SoftType}
use Rattle.mz_core.specs.declared.formula_definiens.FormulaDefiniens.{FormulaDefiniens}
use Rattle.mz_core.specs.declared.formula_definiens.FormulaDefiniens.TheVariants.{Plain, Cases, CasesOtherwise}
use Rattle.mz_core.specs.declared.redefinition.FunctorMeaning.{FunctorMeaning}
use Rattle.mz_core.specs.declared.redefinition.FunctorMeaning.TheVariants.{Means, Equals}
use Rattle.mz_core.specs.declared.scheme.SchemeLetter.TheVariants.{OfFunctor, OfPredicate}
use Rattle.mz_core.specs.declared.set_term.SetTerm.{SetTerm as TheSetTerm}
use Rattle.mz_core.specs.declared.item.Item.{Item}
use Rattle.mz_core.specs.declared.item.Item.TheVariants.{Axiom, AxiomScheme, Primitive, Theorem, Scheme, FunctorMeans, FunctorEquals, Predicate, Attribute, ModeMeans, Abbreviation, Notation, RedefinedFunctor, RedefinedMode, RedefinedPredicate, RedefinedAttribute, Property, Existential, Conditional, Functorial, Reduction, Identification, Structure, SetTerm, Choice}
use Rattle.mz_core.proofs.UnderTerms.{term_under-shift}
use Rattle.mz_core.proofs.AllLemmas.{opposite_all, statement_all-at}
use Rattle.mz_ground.specs.declared.trigger.Trigger.{Trigger}
use Rattle.mz_ground.specs.declared.trigger.Trigger.TheVariants.{Term, Atom}
use Rattle.mz_items.specs.Loci.{term_on, predicate_on, attribute_on, mode_on}
use Rattle.mz_items.specs.RedefinitionRows.{type_or}
use Rattle.mz_items.specs.Closed.{contents_closed, set_term_closed, pattern_closed, is_only, formula_definiens_under, type_if_any_under, functor_meaning_under, formula_meaning_under, functor_redefinition_under, mode_redefinition_under, atom_redefinition_under}
use Rattle.mz_items.proofs.RowLemmas.{loci_variables, term_on_under, predicate_on_under, attribute_on_under, mode_on_under}
use Rattle.mz_items.proofs.ItemLemmas.{three}
use Rattle.mz_environment.specs.declared.rows.Row.{Row}
use Rattle.mz_environment.specs.Rows.{row, row_on, row_where, redefined_functor_rows, redefined_mode_rows, functor_rows, mode_rows}
use Rattle.mz_environment.specs.Unfoldings.{unfolding_where, signed_definiens, literal_unfoldings, literal_definition, literal_redefinition, mode_definition, mode_redefinition, functor_definition, functor_redefinition, unfoldings_of}
use Rattle.mz_closed_laws.specs.ClosedClauses.{trigger_under, row_closed, unfolding_closed}
use Rattle.mz_closed_laws.specs.ClosedLaws.{FunctorRowLaw, ModeRowLaw, LetterRowLaw, UnfoldingLaw}
use Rattle.mz_closed_laws.proofs.LiteralLemmas.{type_at, last_under, index_0, raised_under, radix_args}
use Rattle.mz_closed_laws.proofs.ItemProofs.{four, pattern_loci, means_parts, equals_parts, functor_again_parts, mode_again_parts, contents}

-- rows
one_row_closed : (loci : List SoftType) (s : Sym) (ts : List term.Term) (ty : SoftType) → loci_closed loci ≡ true → list_all (term_under (length loci)) ts ≡ true → type_under (length loci) ty ≡ true → row_closed (row loci s ts ty) ≡ true
one_row_closed loci s ts ty c h k = and_from _ _ (and_from _ _ c h) k

row_on_closed : (loci : List SoftType) (s : Sym) (ty : SoftType) → loci_closed loci ≡ true → type_under (length loci) ty ≡ true → list_all row_closed (row_on loci s ty ∷ []) ≡ true
row_on_closed loci s ty c h = and_from _ _ (and_from _ _ (and_from _ _ c (loci_variables loci)) h) refl

row_where_closed : (b : Bool) (r : Row) → row_closed r ≡ true → list_all row_closed (row_where b r) ≡ true
row_where_closed true r h = and_from _ _ h refl
row_where_closed false r h = refl

list_under : (n : ℕ) (ts : Terms) → args_under n ts ≡ true → list_all (term_under n) (list_of ts) ≡ true
list_under n none h = refl
list_under n (more t ts) h =
    let both : (term_under n t ≡ true) × (args_under n ts ≡ true) = and_parts (term_under n t) (args_under n ts) h in
    and_from _ _ both.0 (list_under n ts both.1)

functor_again_closed : (loci : List SoftType) (t : term.Term) (ty : Option SoftType) → loci_closed loci ≡ true → term_under (length loci) t ≡ true → type_if_any_under (length loci) ty ≡ true → list_all row_closed (redefined_functor_rows loci t ty) ≡ true
functor_again_closed loci t None c h k = refl
functor_again_closed loci (Bound index) (Some ty) c h k = refl
functor_again_closed loci (Const number) (Some ty) c h k = refl
functor_again_closed loci (App s ts) (Some ty) c h k = row_where_closed _ (row loci s (list_of ts) ty) (one_row_closed loci s (list_of ts) ty c (list_under (length loci) ts h) k)

mode_again_closed : (loci : List SoftType) (mode : SoftType) (ty : Option SoftType) → loci_closed loci ≡ true → type_under (length loci) mode ≡ true → type_if_any_under (length loci) ty ≡ true → list_all row_closed (redefined_mode_rows loci mode ty) ≡ true
mode_again_closed loci mode None c h k = refl
mode_again_closed loci mode (Some ty) c h k =
    row_where_closed _ (row loci mode.radix.sym mode.radix.args ty) (one_row_closed loci mode.radix.sym mode.radix.args ty c (radix_args (length loci) mode h) k)

set_term_loci : (s : TheSetTerm) → set_term_closed s ≡ true → loci_closed s.loci ≡ true
set_term_loci s h = (four (loci_closed s.loci) (type_under (length s.loci) s.ty) (term_under (length s.loci + 1) s.term) (statement_under (length s.loci + 1) s.formula) h).0

functor_rows_closed : (i : Item) → contents_closed i ≡ true → list_all row_closed (functor_rows i) ≡ true
functor_rows_closed (Axiom s) h = refl
functor_rows_closed (AxiomScheme s) h = refl
functor_rows_closed (Primitive n) h = refl
functor_rows_closed (Theorem s) h = refl
functor_rows_closed (Scheme s) h = refl
functor_rows_closed (FunctorMeans d) h = row_on_closed d.pattern.loci d.sym d.ty (means_parts d h).0 (means_parts d h).1
functor_rows_closed (FunctorEquals d) h = row_on_closed d.pattern.loci d.sym d.ty (equals_parts d h).0 (equals_parts d h).1
functor_rows_closed (Predicate d) h = refl
functor_rows_closed (Attribute d) h = refl
functor_rows_closed (ModeMeans d) h = refl
functor_rows_closed (Abbreviation n) h = refl
functor_rows_closed (Notation n) h = refl
functor_rows_closed (RedefinedFunctor d) h =
    let both : (pattern_closed d.pattern ≡ true) × (functor_redefinition_under (length d.pattern.loci) d ≡ true) = and_parts (pattern_closed d.pattern) (functor_redefinition_under (length d.pattern.loci) d) h in
    let f : (term_under (length d.pattern.loci) d.term ≡ true) × (type_under (length d.pattern.loci) d.old ≡ true) × (type_if_any_under (length d.pattern.loci) d.ty ≡ true) × (functor_meaning_under (length d.pattern.loci) d.meaning ≡ true) = functor_again_parts (length d.pattern.loci) d both.1 in
    functor_again_closed d.pattern.loci d.term d.ty (pattern_loci d.pattern both.0) f.0 f.2
functor_rows_closed (RedefinedMode d) h = refl
functor_rows_closed (RedefinedPredicate d) h = refl
functor_rows_closed (RedefinedAttribute d) h = refl
functor_rows_closed (Property p) h = refl
functor_rows_closed (Existential r) h = refl
functor_rows_closed (Conditional r) h = refl
functor_rows_closed (Functorial r) h = refl
functor_rows_closed (Reduction r) h = refl
functor_rows_closed (Identification r) h = refl
functor_rows_closed (Structure s) h = refl
functor_rows_closed (SetTerm s) h = row_on_closed s.loci s.sym set_type (set_term_loci s h) refl
functor_rows_closed (Choice c) h =
    let both : (loci_closed c.loci ≡ true) × (type_under (length c.loci) c.ty ≡ true) = and_parts (loci_closed c.loci) (type_under (length c.loci) c.ty) h in
    row_on_closed c.loci c.sym c.ty both.0 both.1

mode_rows_closed : (i : Item) → contents_closed i ≡ true → list_all row_closed (mode_rows i) ≡ true
mode_rows_closed (Axiom s) h = refl
mode_rows_closed (AxiomScheme s) h = refl
mode_rows_closed (Primitive n) h = refl
mode_rows_closed (Theorem s) h = refl
mode_rows_closed (Scheme s) h = refl
mode_rows_closed (FunctorMeans d) h = refl
mode_rows_closed (FunctorEquals d) h = refl
mode_rows_closed (Predicate d) h = refl
mode_rows_closed (Attribute d) h = refl
mode_rows_closed (ModeMeans d) h = row_on_closed d.pattern.loci d.sym d.ty (means_parts d h).0 (means_parts d h).1
mode_rows_closed (Abbreviation n) h = refl
mode_rows_closed (Notation n) h = refl
mode_rows_closed (RedefinedFunctor d) h = refl
mode_rows_closed (RedefinedMode d) h =
    let both : (pattern_closed d.pattern ≡ true) × (mode_redefinition_under (length d.pattern.loci) d ≡ true) = and_parts (pattern_closed d.pattern) (mode_redefinition_under (length d.pattern.loci) d) h in
    let f : (type_under (length d.pattern.loci) d.mode ≡ true) × (type_under (length d.pattern.loci) d.old ≡ true) × (type_if_any_under (length d.pattern.loci) d.ty ≡ true) × (formula_meaning_under (length d.pattern.loci) (length d.pattern.loci + 1) d.meaning ≡ true) = mode_again_parts (length d.pattern.loci) d both.1 in
    mode_again_closed d.pattern.loci d.mode d.ty (pattern_loci d.pattern both.0) f.0 f.2
mode_rows_closed (RedefinedPredicate d) h = refl
mode_rows_closed (RedefinedAttribute d) h = refl
mode_rows_closed (Property p) h = refl
mode_rows_closed (Existential r) h = refl
mode_rows_closed (Conditional r) h = refl
mode_rows_closed (Functorial r) h = refl
mode_rows_closed (Reduction r) h = refl
mode_rows_closed (Identification r) h = refl
mode_rows_closed (Structure s) h = refl
mode_rows_closed (SetTerm s) h = refl
mode_rows_closed (Choice c) h = refl

-- unfoldings
one_unfolding_closed : (b : Bool) (loci : List SoftType) (r : Trigger) (d : Statement) → loci_closed loci ≡ true → trigger_under (length loci) r ≡ true → statement_under (length loci) d ≡ true → list_all unfolding_closed (unfolding_where b loci r d) ≡ true
one_unfolding_closed true loci r d c h k = and_from _ _ (and_from _ _ (and_from _ _ c h) k) refl
one_unfolding_closed false loci r d c h k = refl

signed_under : (n : ℕ) (positive : Bool) (d : Statement) → statement_under n d ≡ true → statement_under n (signed_definiens positive d) ≡ true
signed_under n true d h = h
signed_under n false d h = opposite_all term_under n d ∙ h

literal_closed : (loci : List SoftType) (l : Literal) (d : Statement) → loci_closed loci ≡ true → literal_under (length loci) l ≡ true → statement_under (length loci) d ≡ true → list_all unfolding_closed (literal_unfoldings loci l d) ≡ true
literal_closed loci (literal.Eq positive t u) d c h k = refl
literal_closed loci (literal.Atom positive s ts) d c h k = one_unfolding_closed _ loci (Atom s ts) (signed_definiens positive d) c h (signed_under (length loci) positive d k)

literal_definition_closed : (loci : List SoftType) (l : Literal) (d : FormulaDefiniens) → loci_closed loci ≡ true → literal_under (length loci) l ≡ true → formula_definiens_under (length loci) (length loci) d ≡ true → list_all unfolding_closed (literal_definition loci l d) ≡ true
literal_definition_closed loci l (Plain d) c h k = literal_closed loci l d c h k
literal_definition_closed loci l (Cases cases) c h k = refl
literal_definition_closed loci l (CasesOtherwise cases d) c h k = refl

literal_again_closed : (loci : List SoftType) (l : Literal) (d : Option FormulaDefiniens) → loci_closed loci ≡ true → literal_under (length loci) l ≡ true → formula_meaning_under (length loci) (length loci) d ≡ true → list_all unfolding_closed (literal_redefinition loci l d) ≡ true
literal_again_closed loci l None c h k = refl
literal_again_closed loci l (Some d) c h k = literal_definition_closed loci l d c h k

-- one more locus
more_loci_under : (n : ℕ) (loci : List SoftType) (ty : SoftType) → loci_under n loci ≡ true → type_under (n + length loci) ty ≡ true → loci_under n (loci ++ ty ∷ []) ≡ true
more_loci_under n [] ty c h = let e : n + 0 ≡ n = omega arith in and_from _ _ (type_at (n + 0) n ty e h) refl
more_loci_under n (t ∷ ts) ty c h =
    let both : (type_under n t ≡ true) × (loci_under (n + 1) ts ≡ true) = and_parts (type_under n t) (loci_under (n + 1) ts) c in
    let e : n + length (t ∷ ts) ≡ n + 1 + length ts = omega arith in
    and_from _ _ both.0 (more_loci_under (n + 1) ts ty both.1 (type_at (n + length (t ∷ ts)) (n + 1 + length ts) ty e h))

more_loci_closed : (b : Bool) (loci : List SoftType) (ty : SoftType) (r : Trigger) (d : Statement) → loci_closed loci ≡ true → type_under (length loci) ty ≡ true → trigger_under (length loci + 1) r ≡ true → statement_under (length loci + 1) d ≡ true → list_all unfolding_closed (unfolding_where b (loci ++ ty ∷ []) r d) ≡ true
more_loci_closed b loci ty r d c hy h k =
    let before : length loci ≡ 0 + length loci = omega arith in
    let long : length loci + 1 ≡ length (loci ++ ty ∷ []) = sym (length-append loci (ty ∷ [])) in
    let Q : ℕ → Type 0 = λ n. trigger_under n r ≡ true in
    one_unfolding_closed b (loci ++ ty ∷ []) r d (more_loci_under 0 loci ty c (type_at (length loci) (0 + length loci) ty before hy)) (subst Q long h) (statement_all-at term_under (length loci + 1) (length (loci ++ ty ∷ [])) d long k)

mode_closed : (loci : List SoftType) (mode ty : SoftType) (d : FormulaDefiniens) → loci_closed loci ≡ true → type_under (length loci) mode ≡ true → type_under (length loci) ty ≡ true → formula_definiens_under (length loci) (length loci + 1) d ≡ true → list_all unfolding_closed (mode_definition loci mode ty d) ≡ true
mode_closed loci mode ty (Plain d) c h k l =
    more_loci_closed _ loci ty (Atom mode.radix.sym (map (shift 0 1) mode.radix.args ++ Bound 0 ∷ [])) d c k
    (last_under (length loci + 1) (map (shift 0 1) mode.radix.args) (Bound 0) (raised_under (length loci) mode.radix.args (radix_args (length loci) mode h)) (index_0 (length loci))) l
mode_closed loci mode ty (Cases cases) c h k l = refl
mode_closed loci mode ty (CasesOtherwise cases d) c h k l = refl

mode_meaning_closed : (loci : List SoftType) (mode ty : SoftType) (d : Option FormulaDefiniens) → loci_closed loci ≡ true → type_under (length loci) mode ≡ true → type_under (length loci) ty ≡ true → formula_meaning_under (length loci) (length loci + 1) d ≡ true → list_all unfolding_closed (mode_redefinition loci mode ty d) ≡ true
mode_meaning_closed loci mode ty None c h k l = refl
mode_meaning_closed loci mode ty (Some d) c h k l = mode_closed loci mode ty d c h k l

functor_closed : (loci : List SoftType) (t : term.Term) (ty : SoftType) (d : FormulaDefiniens) → loci_closed loci ≡ true → term_under (length loci) t ≡ true → type_under (length loci) ty ≡ true → formula_definiens_under (length loci) (length loci + 1) d ≡ true → list_all unfolding_closed (functor_definition loci t ty d) ≡ true
functor_closed loci t ty (Plain d) c h k l = more_loci_closed _ loci ty (Term (shift 0 1 t)) d c k (term_under-shift 0 1 (length loci) t h) l
functor_closed loci t ty (Cases cases) c h k l = refl
functor_closed loci t ty (CasesOtherwise cases d) c h k l = refl

functor_meaning_closed : (loci : List SoftType) (t : term.Term) (ty : SoftType) (d : Option FunctorMeaning) → loci_closed loci ≡ true → term_under (length loci) t ≡ true → type_under (length loci) ty ≡ true → functor_meaning_under (length loci) d ≡ true → list_all unfolding_closed (functor_redefinition loci t ty d) ≡ true
functor_meaning_closed loci t ty None c h k l = refl
functor_meaning_closed loci t ty (Some (Means d)) c h k l = functor_closed loci t ty d c h k l
functor_meaning_closed loci t ty (Some (Equals d)) c h k l = refl

pub type_or_under : (n : ℕ) (ty : Option SoftType) (old : SoftType) → type_if_any_under n ty ≡ true → type_under n old ≡ true → type_under n (type_or ty old) ≡ true
type_or_under n None old h k = k
type_or_under n (Some ty) old h k = h

unfoldings_closed : (i : Item) → contents_closed i ≡ true → list_all unfolding_closed (unfoldings_of i) ≡ true
unfoldings_closed (Axiom s) h = refl
unfoldings_closed (AxiomScheme s) h = refl
unfoldings_closed (Primitive n) h = refl
unfoldings_closed (Theorem s) h = refl
unfoldings_closed (Scheme s) h = refl
unfoldings_closed (FunctorMeans d) h =
    functor_closed d.pattern.loci (term_on d.pattern.loci d.sym) d.ty d.definiens (means_parts d h).0 (term_on_under d.pattern.loci d.sym) (means_parts d h).1 (means_parts d h).2
unfoldings_closed (FunctorEquals d) h = refl
unfoldings_closed (Predicate d) h =
    let both : (pattern_closed d.pattern ≡ true) × (formula_definiens_under (length d.pattern.loci) (length d.pattern.loci) d.definiens ≡ true) = and_parts (pattern_closed d.pattern) (formula_definiens_under (length d.pattern.loci) (length d.pattern.loci) d.definiens) h in
    literal_definition_closed d.pattern.loci (predicate_on d.pattern.loci d.sym) d.definiens (pattern_loci d.pattern both.0) (predicate_on_under d.pattern.loci d.sym) both.1
unfoldings_closed (Attribute d) h =
    let t : (pattern_closed d.pattern ≡ true) × (is_only d.subject d.pattern.right ≡ true) × (formula_definiens_under (length d.pattern.loci) (length d.pattern.loci) d.definiens ≡ true) = three (pattern_closed d.pattern) (is_only d.subject d.pattern.right) (formula_definiens_under (length d.pattern.loci) (length d.pattern.loci) d.definiens) h in
    literal_definition_closed d.pattern.loci (attribute_on d.pattern.loci d.subject d.sym) d.definiens (pattern_loci d.pattern t.0) (attribute_on_under d.pattern.loci d.subject d.sym) t.2
unfoldings_closed (ModeMeans d) h =
    mode_closed d.pattern.loci (mode_on d.pattern.loci d.sym) d.ty d.definiens (means_parts d h).0 (mode_on_under d.pattern.loci d.sym) (means_parts d h).1 (means_parts d h).2
unfoldings_closed (Abbreviation n) h = refl
unfoldings_closed (Notation n) h = refl
unfoldings_closed (RedefinedFunctor d) h =
    let both : (pattern_closed d.pattern ≡ true) × (functor_redefinition_under (length d.pattern.loci) d ≡ true) = and_parts (pattern_closed d.pattern) (functor_redefinition_under (length d.pattern.loci) d) h in
    let f : (term_under (length d.pattern.loci) d.term ≡ true) × (type_under (length d.pattern.loci) d.old ≡ true) × (type_if_any_under (length d.pattern.loci) d.ty ≡ true) × (functor_meaning_under (length d.pattern.loci) d.meaning ≡ true) = functor_again_parts (length d.pattern.loci) d both.1 in
    functor_meaning_closed d.pattern.loci d.term (type_or d.ty d.old) d.meaning (pattern_loci d.pattern both.0) f.0 (type_or_under (length d.pattern.loci) d.ty d.old f.2 f.1) f.3
unfoldings_closed (RedefinedMode d) h =
    let both : (pattern_closed d.pattern ≡ true) × (mode_redefinition_under (length d.pattern.loci) d ≡ true) = and_parts (pattern_closed d.pattern) (mode_redefinition_under (length d.pattern.loci) d) h in
    let f : (type_under (length d.pattern.loci) d.mode ≡ true) × (type_under (length d.pattern.loci) d.old ≡ true) × (type_if_any_under (length d.pattern.loci) d.ty ≡ true) × (formula_meaning_under (length d.pattern.loci) (length d.pattern.loci + 1) d.meaning ≡ true) = mode_again_parts (length d.pattern.loci) d both.1 in
    mode_meaning_closed d.pattern.loci d.mode (type_or d.ty d.old) d.meaning (pattern_loci d.pattern both.0) f.0 (type_or_under (length d.pattern.loci) d.ty d.old f.2 f.1) f.3
unfoldings_closed (RedefinedPredicate d) h =
    let both : (pattern_closed d.pattern ≡ true) × (atom_redefinition_under (length d.pattern.loci) d ≡ true) = and_parts (pattern_closed d.pattern) (atom_redefinition_under (length d.pattern.loci) d) h in
    let f : (literal_under (length d.pattern.loci) d.literal ≡ true) × (formula_meaning_under (length d.pattern.loci) (length d.pattern.loci) d.meaning ≡ true) = and_parts (literal_under (length d.pattern.loci) d.literal) (formula_meaning_under (length d.pattern.loci) (length d.pattern.loci) d.meaning) both.1 in
    literal_again_closed d.pattern.loci d.literal d.meaning (pattern_loci d.pattern both.0) f.0 f.1
unfoldings_closed (RedefinedAttribute d) h =
    let both : (pattern_closed d.pattern ≡ true) × (atom_redefinition_under (length d.pattern.loci) d ≡ true) = and_parts (pattern_closed d.pattern) (atom_redefinition_under (length d.pattern.loci) d) h in
    let f : (literal_under (length d.pattern.loci) d.literal ≡ true) × (formula_meaning_under (length d.pattern.loci) (length d.pattern.loci) d.meaning ≡ true) = and_parts (literal_under (length d.pattern.loci) d.literal) (formula_meaning_under (length d.pattern.loci) (length d.pattern.loci) d.meaning) both.1 in
    literal_again_closed d.pattern.loci d.literal d.meaning (pattern_loci d.pattern both.0) f.0 f.1
unfoldings_closed (Property p) h = refl
unfoldings_closed (Existential r) h = refl
unfoldings_closed (Conditional r) h = refl
unfoldings_closed (Functorial r) h = refl
unfoldings_closed (Reduction r) h = refl
unfoldings_closed (Identification r) h = refl
unfoldings_closed (Structure s) h = refl
unfoldings_closed (SetTerm s) h = refl
unfoldings_closed (Choice c) h = refl

-- laws
pub functor_row_law : FunctorRowLaw
functor_row_law i h = functor_rows_closed i (contents i h)

pub mode_row_law : ModeRowLaw
mode_row_law i h = mode_rows_closed i (contents i h)

pub letter_row_law : LetterRowLaw
letter_row_law (OfFunctor s places ty) h =
    let both : (loci_closed places ≡ true) × (type_under (length places) ty ≡ true) = and_parts (loci_closed places) (type_under (length places) ty) h in
    row_on_closed places s ty both.0 both.1
letter_row_law (OfPredicate s places) h = refl

pub unfolding_law : UnfoldingLaw
unfolding_law i h = unfoldings_closed i (contents i h)
