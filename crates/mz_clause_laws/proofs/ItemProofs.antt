-- The clauses of each item, and of an export, derive from what it grants and owes.
use Rattle.std.proofs.Common.{◌≡◌, List, [], ◌∷◌, ◌++◌, map, length, refl, sym, ap, subst, true}
use Rattle.std.specs.Prelude.{flat_map, Option, Some, None}
use Rattle.std.specs.List.{list_all}
use Rattle.std.proofs.lemmas.Bool.{and_parts}
use Rattle.std.proofs.lemmas.List.{map-append}
use Rattle.mz_logic.specs.Term.{Term}
use Rattle.mz_logic.specs.Formula.{Formula}
use Rattle.mz_logic.specs.Derives.{Derives}
use Rattle.mz_logic.proofs.Each.{Along, along_each, axiom_derives}
use Rattle.mz_core.specs.Statement.{Statement}
use Rattle.mz_core.specs.Erasure.{erase}
use Rattle.mz_core.specs.TypeStatements.{is_of_type}
use Rattle.mz_core.specs.TypedSequent.{erased_sequent}
use Rattle.mz_core.specs.declared.typed_sequent.TypedSequent.{TypedSequent}
use Rattle.mz_core.specs.declared.soft_type.SoftType.{SoftType}
use Rattle.mz_core.specs.declared.term_definiens.TermDefiniens.{TermDefiniens}
use Rattle.mz_core.specs.declared.term_definiens.TermDefiniens.TheVariants.{Plain, Cases, CasesOtherwise}
use Rattle.mz_core.specs.declared.scheme.SchemeLetter.TheVariants.{OfFunctor, OfPredicate}
use Rattle.mz_core.specs.declared.property.Property.{Property as TheProperty}
use Rattle.mz_core.specs.declared.item.Item.{Item}
use Rattle.mz_core.specs.declared.item.Item.TheVariants.{Axiom, AxiomScheme, Primitive, Theorem, Scheme, FunctorMeans, FunctorEquals, Predicate, Attribute, ModeMeans, Abbreviation, Notation, RedefinedFunctor, RedefinedMode, RedefinedPredicate, RedefinedAttribute, Property, Existential, Conditional, Functorial, Reduction, Identification, Structure, SetTerm, Choice}
use Rattle.mz_ground.specs.ClauseFormula.{clause_formula}
use Rattle.mz_items.specs.Loci.{over, term_on, mode_on}
use Rattle.mz_items.specs.Closed.{kind_fits, contents_closed, item_closed, property_form_under}
use Rattle.mz_core.specs.Closed.{loci_closed}
use Rattle.mz_items.specs.DefinitionRows.{mode_type, functor_equals}
use Rattle.mz_items.specs.RedefinitionRows.{functor_coherence, mode_coherence}
use Rattle.mz_items.specs.Items.{owes, grants, owed_if_any}
use Rattle.mz_items.specs.Exports.{conclusion_alone, item_statements, statements_of}
use Rattle.mz_clauses.specs.declared.clause_groups.ClauseGroup.{ClauseGroup}
use Rattle.mz_clauses.specs.Groups.{groups_clauses}
use Rattle.mz_clauses.specs.DefinitionClauses.{functor_type_groups, new_functor_type_groups, mode_parent_groups, new_mode_parent_groups, equality_groups}
use Rattle.mz_clauses.specs.RegistrationClauses.{functorial_groups, conditional_groups, registered_equation_groups}
use Rattle.mz_clauses.specs.StructureClauses.{part_groups, aggregate_groups, strict_groups}
use Rattle.mz_clauses.specs.PropertyClauses.{property_groups}
use Rattle.mz_clauses.specs.Clauses.{item_clauses, clauses_of, letter_clauses}
use Rattle.mz_clause_laws.specs.RowLaws.{AllFollow}
use Rattle.mz_clause_laws.specs.ClausesLaw.{ItemLaw, LetterLaw, ClausesLaw}
use Rattle.mz_clause_laws.proofs.RowProofs.{follow_append, functor_type_law, mode_parent_law, equation_law, functorial_law, conditional_law}
use Rattle.mz_clause_laws.proofs.StructureProofs.{part_law, aggregate_law, strict_law}
use Rattle.mz_clause_laws.proofs.PropertyProofs.{groups_follow_both, property_law}

-- lists of formulas that follow
follow_front : (ax known fs gs : List Formula) → AllFollow ax known (fs ++ gs) → AllFollow ax known fs
follow_front ax known [] gs a = tt
follow_front ax known (f ∷ fs) gs a = (a.0, follow_front ax known fs gs a.1)

follow_back : (ax known fs gs : List Formula) → AllFollow ax known (fs ++ gs) → AllFollow ax known gs
follow_back ax known [] gs a = a
follow_back ax known (f ∷ fs) gs a = follow_back ax known fs gs a.1

follow_along : (ax known fs : List Formula) → Along ax known fs → AllFollow ax known fs
follow_along ax known [] a = tt
follow_along ax known (f ∷ fs) a = (a.0, follow_along ax known fs a.1)

-- the clauses of three lists of groups
all_follow : (ax known : List Formula) (these others last : List ClauseGroup) → AllFollow ax known (map clause_formula (groups_clauses these)) → AllFollow ax known (map clause_formula (groups_clauses others)) → AllFollow ax known (map clause_formula (groups_clauses last)) → AllFollow ax known (map clause_formula (groups_clauses these ++ groups_clauses others ++ groups_clauses last))
all_follow ax known these others last p q r =
    subst (AllFollow ax known) (sym (map-append clause_formula (groups_clauses these ++ groups_clauses others) (groups_clauses last)))
    (follow_append ax known (map clause_formula (groups_clauses these ++ groups_clauses others)) (map clause_formula (groups_clauses last))
    (subst (AllFollow ax known) (sym (map-append clause_formula (groups_clauses these) (groups_clauses others))) (follow_append ax known (map clause_formula (groups_clauses these)) (map clause_formula (groups_clauses others)) p q)) r)

typing_follows : (ax known : List Formula) (gs : List ClauseGroup) → AllFollow ax known (map clause_formula (groups_clauses gs)) → AllFollow ax known (map clause_formula (groups_clauses gs ++ groups_clauses [] ++ groups_clauses []))
typing_follows ax known gs p = all_follow ax known gs [] [] p tt tt

further_follows : (ax known : List Formula) (gs : List ClauseGroup) → AllFollow ax known (map clause_formula (groups_clauses gs)) → AllFollow ax known (map clause_formula (groups_clauses [] ++ groups_clauses gs ++ groups_clauses []))
further_follows ax known gs p = all_follow ax known [] gs [] tt p tt

-- an owed statement, where there is one
pub owed_follows : (ax known : List Formula) (loci : List SoftType) (o : Option Statement) (rest : List TypedSequent) (s : Statement) → o ≡ Some s → AllFollow ax known (flat_map conclusion_alone (map erased_sequent (owed_if_any loci o ++ rest))) → Derives ax known (erase (over loci s))
owed_follows ax known loci o rest s e a = (subst (λ p. AllFollow ax known (flat_map conclusion_alone (map erased_sequent (owed_if_any loci p ++ rest)))) e a).0

new_type_follows : (ax known : List Formula) (loci : List SoftType) (t : Term) (ty : Option SoftType) → ((u : SoftType) → ty ≡ Some u → Derives ax known (erase (over loci (is_of_type u t)))) → AllFollow ax known (map clause_formula (groups_clauses (new_functor_type_groups loci t ty)))
new_type_follows ax known loci t None each = tt
new_type_follows ax known loci t (Some u) each = functor_type_law loci t u ax known (each u refl)

new_parent_follows : (ax known : List Formula) (loci : List SoftType) (mode : SoftType) (ty : Option SoftType) → ((u : SoftType) → ty ≡ Some u → Derives ax known (erase (over loci (mode_type mode u)))) → AllFollow ax known (map clause_formula (groups_clauses (new_mode_parent_groups loci mode ty)))
new_parent_follows ax known loci mode None each = tt
new_parent_follows ax known loci mode (Some u) each = mode_parent_law loci mode u ax known (each u refl)

equality_follows : (ax known : List Formula) (loci : List SoftType) (t : Term) (d : TermDefiniens) → Derives ax known (erase (over loci (functor_equals t d))) → AllFollow ax known (map clause_formula (groups_clauses (equality_groups loci t d)))
equality_follows ax known loci t (Plain u) d = equation_law loci t u ax known d
equality_follows ax known loci t (Cases cases) d = tt
equality_follows ax known loci t (CasesOtherwise cases u) d = tt

form_under : (p : TheProperty) → item_closed (Property p) ≡ true → property_form_under (length p.loci) p.form ≡ true
form_under p h = (and_parts (loci_closed p.loci) (property_form_under (length p.loci) p.form) (and_parts (kind_fits (Property p)) (contents_closed (Property p)) h).1).1

-- the clauses of an item
item_follows : (ax known : List Formula) (item : Item) → item_closed item ≡ true → AllFollow ax known (item_statements item) → AllFollow ax known (map clause_formula (item_clauses item))
unfolding owes grants item_clauses
item_follows ax known (Axiom s) h a = tt
item_follows ax known (AxiomScheme s) h a = tt
item_follows ax known (Primitive n) h a = tt
item_follows ax known (Theorem s) h a = tt
item_follows ax known (Scheme s) h a = tt
item_follows ax known (FunctorMeans d) h a = typing_follows ax known (functor_type_groups d.pattern.loci (term_on d.pattern.loci d.sym) d.ty) (functor_type_law d.pattern.loci (term_on d.pattern.loci d.sym) d.ty ax known a.0)
item_follows ax known (FunctorEquals d) h a = all_follow ax known (functor_type_groups d.pattern.loci (term_on d.pattern.loci d.sym) d.ty) [] (equality_groups d.pattern.loci (term_on d.pattern.loci d.sym) d.definiens) (functor_type_law d.pattern.loci (term_on d.pattern.loci d.sym) d.ty ax known a.0) tt (equality_follows ax known d.pattern.loci (term_on d.pattern.loci d.sym) d.definiens a.1.0)
item_follows ax known (Predicate d) h a = tt
item_follows ax known (Attribute d) h a = tt
item_follows ax known (ModeMeans d) h a = typing_follows ax known (mode_parent_groups d.pattern.loci (mode_on d.pattern.loci d.sym) d.ty) (mode_parent_law d.pattern.loci (mode_on d.pattern.loci d.sym) d.ty ax known a.0)
item_follows ax known (Abbreviation n) h a = tt
item_follows ax known (Notation n) h a = tt
item_follows ax known (RedefinedFunctor d) h a = typing_follows ax known (new_functor_type_groups d.pattern.loci d.term d.ty) (new_type_follows ax known d.pattern.loci d.term d.ty (λ u e. owed_follows ax known d.pattern.loci (functor_coherence d.term d.ty) _ (is_of_type u d.term) (ap (functor_coherence d.term) e) a))
item_follows ax known (RedefinedMode d) h a = typing_follows ax known (new_mode_parent_groups d.pattern.loci d.mode d.ty) (new_parent_follows ax known d.pattern.loci d.mode d.ty (λ u e. owed_follows ax known d.pattern.loci (mode_coherence d.mode d.ty) _ (mode_type d.mode u) (ap (mode_coherence d.mode) e) a))
item_follows ax known (RedefinedPredicate d) h a = tt
item_follows ax known (RedefinedAttribute d) h a = tt
item_follows ax known (Property p) h a = further_follows ax known (property_groups p.loci p.form) (property_law p.loci p.form (form_under p h) ax known a.0)
item_follows ax known (Existential r) h a = tt
item_follows ax known (Conditional r) h a = typing_follows ax known (conditional_groups r) (conditional_law r ax known a.0)
item_follows ax known (Functorial r) h a = typing_follows ax known (functorial_groups r) (functorial_law r ax known a.0)
item_follows ax known (Reduction r) h a = further_follows ax known (registered_equation_groups r) (equation_law r.loci r.left r.right ax known a.0)
item_follows ax known (Identification r) h a = further_follows ax known (registered_equation_groups r) (equation_law r.loci r.left r.right ax known a.0)
item_follows ax known (Structure s) h a = all_follow ax known (part_groups s ++ aggregate_groups s) (strict_groups s) [] (groups_follow_both ax known (part_groups s) (aggregate_groups s) (part_law s ax known a.0 a.1.0) (aggregate_law s ax known a.1.1.0)) (strict_law s ax known a.1.1.1.0) tt
item_follows ax known (SetTerm s) h a = tt
item_follows ax known (Choice c) h a = typing_follows ax known (functor_type_groups c.loci (term_on c.loci c.sym) c.ty) (functor_type_law c.loci (term_on c.loci c.sym) c.ty ax known a.0)

items_follow : (ax known : List Formula) (items : List Item) → list_all item_closed items ≡ true → AllFollow ax known (flat_map item_statements items) → AllFollow ax known (map clause_formula (flat_map item_clauses items))
items_follow ax known [] h a = tt
items_follow ax known (item ∷ items) h a =
    let both : (item_closed item ≡ true) × (list_all item_closed items ≡ true) = and_parts (item_closed item) (list_all item_closed items) h in
    subst (AllFollow ax known) (sym (map-append clause_formula (item_clauses item) (flat_map item_clauses items)))
    (follow_append ax known (map clause_formula (item_clauses item)) (map clause_formula (flat_map item_clauses items))
    (item_follows ax known item both.0 (follow_front ax known (item_statements item) (flat_map item_statements items) a))
    (items_follow ax known items both.1 (follow_back ax known (item_statements item) (flat_map item_statements items) a)))

pub item_law : ItemLaw
item_law item ax known h a = item_follows ax known item h a

-- a letter's type
pub letter_law : LetterLaw
unfolding letter_clauses
letter_law (OfFunctor s places ty) ax known a = functor_type_law places (term_on places s) ty ax known a.0
letter_law (OfPredicate s places) ax known a = tt

pub clauses_law : ClausesLaw
unfolding clauses_of
clauses_law e h =
    items_follow (statements_of e) [] e.items h
    (follow_along (statements_of e) [] (statements_of e) (along_each (statements_of e) [] (statements_of e) (λ f is. axiom_derives (statements_of e) [] f is)))
