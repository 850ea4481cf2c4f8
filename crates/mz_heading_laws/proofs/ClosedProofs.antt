-- What definitions owe, closed, and what follows where each of their conditions derives for all loci.
use Rattle.std.proofs.Common.{◌≡◌, ◌<◌, ◌+◌, ◌⊎◌, inl, inr, ℕ, true, false, List, [], ◌∷◌, ◌++◌, map, length, refl, sym, ap, subst, arith, Option, Some, None}
use Rattle.std.specs.Prelude.{◌&&◌, flat_map, Contains}
use Rattle.std.specs.List.{list_all}
use Rattle.std.proofs.lemmas.Bool.{and_from}
use Rattle.std.proofs.lemmas.List.Elements.{Contains-append_cases}
use Rattle.mz_logic.specs.Formula.{Formula}
use Rattle.mz_logic.specs.Derives.{Derives}
use Rattle.mz_logic.specs.declared.sequent.Sequent.{Sequent}
use Rattle.mz_core.specs.Closed.{term_under, type_under, statement_under}
use Rattle.mz_core.specs.Erasure.{erase}
use Rattle.mz_core.specs.Statement.{Statement}
use Rattle.mz_core.specs.TypedSequent.{typed_sequent, erased_sequent}
use Rattle.mz_core.specs.declared.definition.AtomDefinition.{AtomDefinition}
use Rattle.mz_core.specs.declared.definition.AttributeDefinition.{AttributeDefinition}
use Rattle.mz_core.specs.declared.definition.EqualsDefinition.{EqualsDefinition}
use Rattle.mz_core.specs.declared.definition.MeansDefinition.{MeansDefinition}
use Rattle.mz_core.specs.declared.formula_definiens.FormulaDefiniens.{FormulaDefiniens}
use Rattle.mz_core.specs.declared.item.Item.{Item}
use Rattle.mz_core.specs.declared.item.Item.TheVariants as item
use Rattle.mz_core.specs.declared.notation.Notation.{Notation}
use Rattle.mz_core.specs.declared.soft_type.SoftType.{SoftType}
use Rattle.mz_core.specs.declared.typed_sequent.TypedSequent.{TypedSequent}
use Rattle.mz_core.proofs.AllLemmas.{conjunction_all}
use Rattle.mz_items.specs.Cases.{formula_cases, term_cases, agreements_in_type, agreements_as_formulas, agreements_as_terms}
use Rattle.mz_items.specs.Closed.{formula_definiens_under, term_definiens_under, is_only, pattern_closed, notation_closed, kind_fits, contents_closed, item_closed}
use Rattle.mz_items.specs.DefinitionRows.{consistency, functor_means_thesis, functor_equals_thesis, atom_thesis, mode_means_thesis}
use Rattle.mz_items.specs.Exports.{is_primitive}
use Rattle.mz_items.specs.Items.{thesis_of, loci_of, conditions, owed_if_any, owed_condition, owed_conditions, owes}
use Rattle.mz_items.specs.Loci.{over}
use Rattle.mz_items.specs.declared.condition.Condition.{Condition}
use Rattle.mz_items.specs.declared.condition.Condition.TheVariants.{Existence, Uniqueness, Coherence, Compatibility, Consistency, Reducibility}
use Rattle.mz_items.proofs.RowLemmas.{existence_under, uniqueness_under, coherence_under, agreements_in_type_under, agreements_as_formulas_under, agreements_as_terms_under, formula_cases_under, term_cases_under}
use Rattle.mz_ground.proofs.ListLemmas.{contains_one}
use Rattle.mz_condition_laws.specs.Laws.{AreClosedTheses}

-- each condition of the item derives for all loci
abbrev pub AllDerive : List Formula → List SoftType → Item → Type 0
AllDerive ax loci x = (c : Condition) (t : Statement) → thesis_of x c ≡ Some t → Derives ax [] (erase (over loci t))

pub record IsClosedOwed (count : ℕ) (loci : List SoftType) (x : Item) : Type 0 where
  pub closed : item_closed x ≡ true
  pub own : is_primitive x ≡ false
  pub has : loci_of x ≡ loci
  pub theses : AreClosedTheses count x
  pub owed : (ax : List Formula) → AllDerive ax loci x → (q : Sequent) → Contains (owes x) q → Derives ax q.premises q.conclusion

-- so each sequent that is owed derives, where conditions alone are owed

in_none : (q : Sequent) → Contains [] q → ⊥
in_none q h = let lt : h.0 < 0 = h.1 in omega arith

map-append : (ss ts : List TypedSequent) → map erased_sequent (ss ++ ts) ≡ map erased_sequent ss ++ map erased_sequent ts
map-append [] ts = refl
map-append (s ∷ ss) ts = ap (λ qs. erased_sequent s ∷ qs) (map-append ss ts)

one_derives : (ax : List Formula) (loci : List SoftType) (x : Item) (c : Condition) (o : Option Statement) → thesis_of x c ≡ o → AllDerive ax loci x → (q : Sequent) → Contains (map erased_sequent (owed_if_any loci o)) q → Derives ax q.premises q.conclusion
one_derives ax loci x c None e all q is = absurd (in_none q is)
one_derives ax loci x c (Some t) e all q is = subst (λ (p : Sequent). Derives ax p.premises p.conclusion) (contains_one (erased_sequent (typed_sequent [] (over loci t))) q is) (all c t e)

first_or_later : (ax : List Formula) (loci : List SoftType) (x : Item) (c : Condition) (ss : List TypedSequent) → AllDerive ax loci x → (q : Sequent) → (Contains (map erased_sequent ss) q → Derives ax q.premises q.conclusion) →
    Contains (map erased_sequent (owed_condition loci x c)) q ⊎ Contains (map erased_sequent ss) q → Derives ax q.premises q.conclusion
first_or_later ax loci x c ss all q later (inl h) = one_derives ax loci x c (thesis_of x c) refl all q h
first_or_later ax loci x c ss all q later (inr h) = later h

each_derives : (ax : List Formula) (loci : List SoftType) (x : Item) → AllDerive ax loci x → (cs : List Condition) (q : Sequent) → Contains (map erased_sequent (flat_map (owed_condition loci x) cs)) q → Derives ax q.premises q.conclusion
each_derives ax loci x all [] q is = absurd (in_none q is)
each_derives ax loci x all (c ∷ cs) q is =
    let rest : List TypedSequent = flat_map (owed_condition loci x) cs in
    first_or_later ax loci x c rest all q (each_derives ax loci x all cs q)
    (Contains-append_cases (map erased_sequent (owed_condition loci x c)) (map erased_sequent rest) q (subst (λ qs. Contains qs q) (map-append (owed_condition loci x c) rest) is))

conditions_derive : (ax : List Formula) (loci : List SoftType) (x : Item) (qs : List Sequent) → qs ≡ map erased_sequent (owed_conditions loci x) → AllDerive ax loci x → (q : Sequent) → Contains qs q → Derives ax q.premises q.conclusion
conditions_derive ax loci x qs e all q is = each_derives ax loci x all conditions q (subst (λ ps. Contains ps q) e is)

means_functor_owes : (d : MeansDefinition) → owes (item.FunctorMeans d) ≡ map erased_sequent (owed_conditions d.pattern.loci (item.FunctorMeans d))
unfolding owes
means_functor_owes d = refl

equals_functor_owes : (d : EqualsDefinition) → owes (item.FunctorEquals d) ≡ map erased_sequent (owed_conditions d.pattern.loci (item.FunctorEquals d))
unfolding owes
equals_functor_owes d = refl

mode_owes : (d : MeansDefinition) → owes (item.ModeMeans d) ≡ map erased_sequent (owed_conditions d.pattern.loci (item.ModeMeans d))
unfolding owes
mode_owes d = refl

predicate_owes : (d : AtomDefinition) → owes (item.Predicate d) ≡ map erased_sequent (owed_conditions d.pattern.loci (item.Predicate d))
unfolding owes
predicate_owes d = refl

attribute_owes : (d : AttributeDefinition) → owes (item.Attribute d) ≡ map erased_sequent (owed_conditions d.pattern.loci (item.Attribute d))
unfolding owes
attribute_owes d = refl

-- what their conditions state

abbrev AtMost : ℕ → Option Statement → Type 0
AtMost n None = Unit {0}
AtMost n (Some s) = statement_under n s ≡ true

abbrev there : Statement → Option Statement
there s = Some s

none_some : (t : Statement) → None ≡ there t → ⊥
none_some t e = cc

same_one : (s t : Statement) → there s ≡ there t → s ≡ t
same_one s t e = cc

stated : (n : ℕ) (o : Option Statement) → AtMost n o → (t : Statement) → o ≡ Some t → statement_under n t ≡ true
stated n None h t e = absurd (none_some t e)
stated n (Some s) h t e = subst (λ u. statement_under n u ≡ true) (same_one s t e) h

consistency_at : (n : ℕ) (ss : List Statement) → list_all (statement_under n) ss ≡ true → AtMost n (consistency ss)
consistency_at n [] h = tt
consistency_at n (s ∷ ss) h = conjunction_all term_under n (s ∷ ss) h

functor_means_at : (n : ℕ) (d : MeansDefinition) → type_under n d.ty ≡ true → formula_definiens_under n (n + 1) d.definiens ≡ true → (c : Condition) → AtMost n (functor_means_thesis d c)
functor_means_at n d t h Existence = existence_under n d.ty d.definiens t h
functor_means_at n d t h Uniqueness = uniqueness_under n d.ty d.definiens t h
functor_means_at n d t h Coherence = tt
functor_means_at n d t h Compatibility = tt
functor_means_at n d t h Consistency = consistency_at n (agreements_in_type d.ty (formula_cases d.definiens)) (agreements_in_type_under n d.ty (formula_cases d.definiens) t (formula_cases_under n (n + 1) d.definiens h))
functor_means_at n d t h Reducibility = tt

mode_means_at : (n : ℕ) (d : MeansDefinition) → type_under n d.ty ≡ true → formula_definiens_under n (n + 1) d.definiens ≡ true → (c : Condition) → AtMost n (mode_means_thesis d c)
mode_means_at n d t h Existence = existence_under n d.ty d.definiens t h
mode_means_at n d t h Uniqueness = tt
mode_means_at n d t h Coherence = tt
mode_means_at n d t h Compatibility = tt
mode_means_at n d t h Consistency = consistency_at n (agreements_in_type d.ty (formula_cases d.definiens)) (agreements_in_type_under n d.ty (formula_cases d.definiens) t (formula_cases_under n (n + 1) d.definiens h))
mode_means_at n d t h Reducibility = tt

functor_equals_at : (n : ℕ) (d : EqualsDefinition) → type_under n d.ty ≡ true → term_definiens_under n d.definiens ≡ true → (c : Condition) → AtMost n (functor_equals_thesis d c)
functor_equals_at n d t h Existence = tt
functor_equals_at n d t h Uniqueness = tt
functor_equals_at n d t h Coherence = coherence_under n d.ty d.definiens t h
functor_equals_at n d t h Compatibility = tt
functor_equals_at n d t h Consistency = consistency_at n (agreements_as_terms (term_cases d.definiens)) (agreements_as_terms_under n (term_cases d.definiens) (term_cases_under n d.definiens h))
functor_equals_at n d t h Reducibility = tt

atom_at : (n : ℕ) (d : FormulaDefiniens) → formula_definiens_under n n d ≡ true → (c : Condition) → AtMost n (atom_thesis d c)
atom_at n d h Existence = tt
atom_at n d h Uniqueness = tt
atom_at n d h Coherence = tt
atom_at n d h Compatibility = tt
atom_at n d h Consistency = consistency_at n (agreements_as_formulas (formula_cases d)) (agreements_as_formulas_under n (formula_cases d) (formula_cases_under n n d h))
atom_at n d h Reducibility = tt

-- closed

pub predicate_closed : (n : ℕ) (d : AtomDefinition) → kind_fits (item.Predicate d) ≡ true → length d.pattern.loci ≡ n → pattern_closed d.pattern ≡ true → formula_definiens_under n n d.definiens ≡ true → IsClosedOwed n d.pattern.loci (item.Predicate d)
predicate_closed n d fits long p h = record {
  closed = and_from (kind_fits (item.Predicate d)) (contents_closed (item.Predicate d)) fits (
      and_from (pattern_closed d.pattern) (formula_definiens_under (length d.pattern.loci) (length d.pattern.loci) d.definiens) p (subst (λ m. formula_definiens_under m m d.definiens ≡ true) (sym long) h));
  own = refl;
  has = refl;
  theses = λ c s e. stated n (atom_thesis d.definiens c) (atom_at n d.definiens h c) s e;
  owed = λ ax all. conditions_derive ax d.pattern.loci (item.Predicate d) (owes (item.Predicate d)) (predicate_owes d) all;
}

pub attribute_closed : (n : ℕ) (d : AttributeDefinition) → kind_fits (item.Attribute d) ≡ true → length d.pattern.loci ≡ n → pattern_closed d.pattern ≡ true → is_only d.subject d.pattern.right ≡ true → formula_definiens_under n n d.definiens ≡ true → IsClosedOwed n d.pattern.loci (item.Attribute d)
attribute_closed n d fits long p only h = record {
  closed = and_from (kind_fits (item.Attribute d)) (contents_closed (item.Attribute d)) fits (
      and_from (pattern_closed d.pattern && is_only d.subject d.pattern.right) (formula_definiens_under (length d.pattern.loci) (length d.pattern.loci) d.definiens)
      (and_from (pattern_closed d.pattern) (is_only d.subject d.pattern.right) p only) (subst (λ m. formula_definiens_under m m d.definiens ≡ true) (sym long) h));
  own = refl;
  has = refl;
  theses = λ c s e. stated n (atom_thesis d.definiens c) (atom_at n d.definiens h c) s e;
  owed = λ ax all. conditions_derive ax d.pattern.loci (item.Attribute d) (owes (item.Attribute d)) (attribute_owes d) all;
}

pub functor_means_closed : (n : ℕ) (d : MeansDefinition) → kind_fits (item.FunctorMeans d) ≡ true → length d.pattern.loci ≡ n → pattern_closed d.pattern ≡ true → type_under n d.ty ≡ true → formula_definiens_under n (n + 1) d.definiens ≡ true → IsClosedOwed n d.pattern.loci (item.FunctorMeans d)
functor_means_closed n d fits long p t h = record {
  closed = and_from (kind_fits (item.FunctorMeans d)) (contents_closed (item.FunctorMeans d)) fits (
      and_from (pattern_closed d.pattern && type_under (length d.pattern.loci) d.ty) (formula_definiens_under (length d.pattern.loci) (length d.pattern.loci + 1) d.definiens)
      (and_from (pattern_closed d.pattern) (type_under (length d.pattern.loci) d.ty) p (subst (λ m. type_under m d.ty ≡ true) (sym long) t)) (subst (λ m. formula_definiens_under m (m + 1) d.definiens ≡ true) (sym long) h));
  own = refl;
  has = refl;
  theses = λ c s e. stated n (functor_means_thesis d c) (functor_means_at n d t h c) s e;
  owed = λ ax all. conditions_derive ax d.pattern.loci (item.FunctorMeans d) (owes (item.FunctorMeans d)) (means_functor_owes d) all;
}

pub mode_means_closed : (n : ℕ) (d : MeansDefinition) → kind_fits (item.ModeMeans d) ≡ true → length d.pattern.loci ≡ n → pattern_closed d.pattern ≡ true → type_under n d.ty ≡ true → formula_definiens_under n (n + 1) d.definiens ≡ true → IsClosedOwed n d.pattern.loci (item.ModeMeans d)
mode_means_closed n d fits long p t h = record {
  closed = and_from (kind_fits (item.ModeMeans d)) (contents_closed (item.ModeMeans d)) fits (
      and_from (pattern_closed d.pattern && type_under (length d.pattern.loci) d.ty) (formula_definiens_under (length d.pattern.loci) (length d.pattern.loci + 1) d.definiens)
      (and_from (pattern_closed d.pattern) (type_under (length d.pattern.loci) d.ty) p (subst (λ m. type_under m d.ty ≡ true) (sym long) t)) (subst (λ m. formula_definiens_under m (m + 1) d.definiens ≡ true) (sym long) h));
  own = refl;
  has = refl;
  theses = λ c s e. stated n (mode_means_thesis d c) (mode_means_at n d t h c) s e;
  owed = λ ax all. conditions_derive ax d.pattern.loci (item.ModeMeans d) (owes (item.ModeMeans d)) (mode_owes d) all;
}

pub functor_equals_closed : (n : ℕ) (d : EqualsDefinition) → kind_fits (item.FunctorEquals d) ≡ true → length d.pattern.loci ≡ n → pattern_closed d.pattern ≡ true → type_under n d.ty ≡ true → term_definiens_under n d.definiens ≡ true → IsClosedOwed n d.pattern.loci (item.FunctorEquals d)
functor_equals_closed n d fits long p t h = record {
  closed = and_from (kind_fits (item.FunctorEquals d)) (contents_closed (item.FunctorEquals d)) fits (
      and_from (pattern_closed d.pattern && type_under (length d.pattern.loci) d.ty) (term_definiens_under (length d.pattern.loci) d.definiens)
      (and_from (pattern_closed d.pattern) (type_under (length d.pattern.loci) d.ty) p (subst (λ m. type_under m d.ty ≡ true) (sym long) t)) (subst (λ m. term_definiens_under m d.definiens ≡ true) (sym long) h));
  own = refl;
  has = refl;
  theses = λ c s e. stated n (functor_equals_thesis d c) (functor_equals_at n d t h c) s e;
  owed = λ ax all. conditions_derive ax d.pattern.loci (item.FunctorEquals d) (owes (item.FunctorEquals d)) (equals_functor_owes d) all;
}

-- an abbreviation owes nothing

abbreviation_owes : (x : Notation) → owes (item.Abbreviation x) ≡ []
unfolding owes
abbreviation_owes x = refl

no_thesis_there : (t : Statement) → None ≡ there t → ⊥
no_thesis_there t e = cc

pub abbreviation_closed : (n : ℕ) (x : Notation) → kind_fits (item.Abbreviation x) ≡ true → notation_closed x ≡ true → IsClosedOwed n x.pattern.loci (item.Abbreviation x)
abbreviation_closed n x fits h = record {
  closed = and_from (kind_fits (item.Abbreviation x)) (contents_closed (item.Abbreviation x)) fits h;
  own = refl;
  has = refl;
  theses = λ c t e. absurd (no_thesis_there t e);
  owed = λ ax all q is. absurd (in_none q (subst (λ qs. Contains qs q) (abbreviation_owes x) is));
}
