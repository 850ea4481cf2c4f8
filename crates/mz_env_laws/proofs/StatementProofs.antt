-- Proofs that statements that may be cited derive.
use Rattle.std.proofs.Common.{◌≡◌, ◌⊎◌, inl, inr, ℕ, List, [], ◌∷◌, ◌++◌, ◌+◌, map, refl, ap, subst, Bool, true, false}
use Rattle.std.specs.Prelude.{Contains, Option, Some, None, flat_map}
use Rattle.std.proofs.lemmas.List.Elements.{Contains-append_cases}
use Rattle.mz_logic.specs.Formula.{Formula}
use Rattle.mz_logic.specs.Derives.{Derives}
use Rattle.mz_core.specs.Statement.{Statement}
use Rattle.mz_core.specs.Erasure.{erase}
use Rattle.mz_core.specs.TypeStatements.{literal_statement}
use Rattle.mz_core.specs.TypedSequent.{erased_sequent}
use Rattle.mz_core.specs.declared.typed_sequent.TypedSequent.{TypedSequent}
use Rattle.mz_core.specs.declared.soft_type.SoftType.{SoftType}
use Rattle.mz_core.specs.declared.item.Item.{Item}
use Rattle.mz_core.specs.declared.item.Item.TheVariants.{Axiom, AxiomScheme, Primitive, Theorem, Scheme, FunctorMeans, FunctorEquals, Predicate, Attribute, ModeMeans, Abbreviation, Notation, RedefinedFunctor, RedefinedMode, RedefinedPredicate, RedefinedAttribute, Property, Existential, Conditional, Functorial, Reduction, Identification, Structure, SetTerm, Choice}
use Rattle.mz_core.specs.declared.outcome.Export.{Export}
use Rattle.mz_items.specs.Exports.{conclusion_alone, item_statements}
use Rattle.mz_items.specs.Loci.{over}
use Rattle.mz_items.specs.DefinitionRows.{functor_meaning, equal_functor_meaning, predicate_meaning, attribute_meaning, mode_meaning}
use Rattle.mz_items.specs.Items.{owes, grants, over_if_any, owed_if_any, definitional_theorem}
use Rattle.mz_items.specs.RedefinitionRows.{type_or, functor_coherence, mode_coherence, functor_compatibility, mode_compatibility, atom_compatibility}
use Rattle.mz_clause_laws.specs.RowLaws.{AllFollow}
use Rattle.mz_clause_laws.proofs.ItemProofs.{owed_follows}
use Rattle.mz_row_laws.proofs.MemberLemmas.{in_one}
use Rattle.mz_environment.specs.Cited.{theorem_of, statement_cited, statements_cited}
use Rattle.mz_environment.specs.declared.cited.CitedStatement.{CitedStatement}
use Rattle.mz_environment.specs.declared.numbering.Numbering.{Numbering}
use Rattle.mz_environment.specs.declared.environment.Environment.{Environment}
use Rattle.mz_env_laws.specs.Entries.{IsOfExports, SomeItem, AreOfItems}
use Rattle.mz_env_laws.specs.DerivedLaws.{AreSaid, StatementsLaw}
use Rattle.mz_env_laws.proofs.Along.{in_none, stands_member}

abbrev statement_or : Statement → Option Statement → Statement
statement_or t None = t
statement_or t (Some s) = s

same : (ax g : List Formula) (t s : Statement) → Some t ≡ Some s → Derives ax g (erase t) → Derives ax g (erase s)
same ax g t s e d = subst (λ z. Derives ax g (erase z)) (ap (statement_or t) e) d

no_statement : (s : Statement) → None ≡ Some s → ⊥
no_statement s e = cc

-- an owed statement that stands behind another
later_owed : (ax known : List Formula) (loci : List SoftType) (o p : Option Statement) (rest : List TypedSequent) (s : Statement) → p ≡ Some s → AllFollow ax known (flat_map conclusion_alone (map erased_sequent (owed_if_any loci o ++ (owed_if_any loci p ++ rest)))) → Derives ax known (erase (over loci s))
later_owed ax known loci None p rest s e a = owed_follows ax known loci p rest s e a
later_owed ax known loci (Some t) p rest s e a = owed_follows ax known loci p rest s e a.1

over_derives : (ax g : List Formula) (loci : List SoftType) (o : Option Statement) (s : Statement) → ((t : Statement) → o ≡ Some t → Derives ax g (erase (over loci t))) → over_if_any loci o ≡ Some s → Derives ax g (erase s)
over_derives ax g loci None s each e = absurd (no_statement s e)
over_derives ax g loci (Some t) s each e = same ax g (over loci t) s e (each t refl)

-- the theorem of an item
theorem_derives : (ax g : List Formula) (x : Item) → AllFollow ax g (item_statements x) → (s : Statement) → theorem_of x ≡ Some s → Derives ax g (erase s)
unfolding owes grants
theorem_derives ax g (Axiom t) a s e = same ax g t s e a.0
theorem_derives ax g (AxiomScheme t) a s e = absurd (no_statement s e)
theorem_derives ax g (Primitive t) a s e = absurd (no_statement s e)
theorem_derives ax g (Theorem t) a s e = same ax g t s e a.0
theorem_derives ax g (Scheme t) a s e = absurd (no_statement s e)
theorem_derives ax g (FunctorMeans t) a s e = absurd (no_statement s e)
theorem_derives ax g (FunctorEquals t) a s e = absurd (no_statement s e)
theorem_derives ax g (Predicate t) a s e = absurd (no_statement s e)
theorem_derives ax g (Attribute t) a s e = absurd (no_statement s e)
theorem_derives ax g (ModeMeans t) a s e = absurd (no_statement s e)
theorem_derives ax g (Abbreviation t) a s e = absurd (no_statement s e)
theorem_derives ax g (Notation t) a s e = absurd (no_statement s e)
theorem_derives ax g (RedefinedFunctor t) a s e = absurd (no_statement s e)
theorem_derives ax g (RedefinedMode t) a s e = absurd (no_statement s e)
theorem_derives ax g (RedefinedPredicate t) a s e = absurd (no_statement s e)
theorem_derives ax g (RedefinedAttribute t) a s e = absurd (no_statement s e)
theorem_derives ax g (Property t) a s e = absurd (no_statement s e)
theorem_derives ax g (Existential t) a s e = absurd (no_statement s e)
theorem_derives ax g (Conditional t) a s e = absurd (no_statement s e)
theorem_derives ax g (Functorial t) a s e = absurd (no_statement s e)
theorem_derives ax g (Reduction t) a s e = absurd (no_statement s e)
theorem_derives ax g (Identification t) a s e = absurd (no_statement s e)
theorem_derives ax g (Structure t) a s e = absurd (no_statement s e)
theorem_derives ax g (SetTerm t) a s e = absurd (no_statement s e)
theorem_derives ax g (Choice t) a s e = absurd (no_statement s e)

-- its definitional theorem
definition_derives : (ax g : List Formula) (x : Item) → AllFollow ax g (item_statements x) → (s : Statement) → definitional_theorem x ≡ Some s → Derives ax g (erase s)
unfolding owes grants
definition_derives ax g (Axiom d) a s e = absurd (no_statement s e)
definition_derives ax g (AxiomScheme d) a s e = absurd (no_statement s e)
definition_derives ax g (Primitive d) a s e = absurd (no_statement s e)
definition_derives ax g (Theorem d) a s e = absurd (no_statement s e)
definition_derives ax g (Scheme d) a s e = absurd (no_statement s e)
definition_derives ax g (FunctorMeans d) a s e = same ax g (over d.pattern.loci (functor_meaning d)) s e a.1.0
definition_derives ax g (FunctorEquals d) a s e = same ax g (over d.pattern.loci (equal_functor_meaning d)) s e a.1.0
definition_derives ax g (Predicate d) a s e = same ax g (over d.pattern.loci (predicate_meaning d)) s e a.0
definition_derives ax g (Attribute d) a s e = same ax g (over d.pattern.loci (attribute_meaning d)) s e a.0
definition_derives ax g (ModeMeans d) a s e = same ax g (over d.pattern.loci (mode_meaning d)) s e a.1.0
definition_derives ax g (Abbreviation d) a s e = absurd (no_statement s e)
definition_derives ax g (Notation d) a s e = absurd (no_statement s e)
definition_derives ax g (RedefinedFunctor d) a s e =
    over_derives ax g d.pattern.loci (functor_compatibility d.term (type_or d.ty d.old) d.meaning) s
    (λ t is. later_owed ax g d.pattern.loci (functor_coherence d.term d.ty) (functor_compatibility d.term (type_or d.ty d.old) d.meaning) _ t is a) e
definition_derives ax g (RedefinedMode d) a s e =
    over_derives ax g d.pattern.loci (mode_compatibility d.mode (type_or d.ty d.old) d.meaning) s
    (λ t is. later_owed ax g d.pattern.loci (mode_coherence d.mode d.ty) (mode_compatibility d.mode (type_or d.ty d.old) d.meaning) _ t is a) e
definition_derives ax g (RedefinedPredicate d) a s e =
    over_derives ax g d.pattern.loci (atom_compatibility (literal_statement d.literal) d.meaning) s
    (λ t is. owed_follows ax g d.pattern.loci (atom_compatibility (literal_statement d.literal) d.meaning) _ t is a) e
definition_derives ax g (RedefinedAttribute d) a s e =
    over_derives ax g d.pattern.loci (atom_compatibility (literal_statement d.literal) d.meaning) s
    (λ t is. owed_follows ax g d.pattern.loci (atom_compatibility (literal_statement d.literal) d.meaning) _ t is a) e
definition_derives ax g (Property d) a s e = absurd (no_statement s e)
definition_derives ax g (Existential d) a s e = absurd (no_statement s e)
definition_derives ax g (Conditional d) a s e = absurd (no_statement s e)
definition_derives ax g (Functorial d) a s e = absurd (no_statement s e)
definition_derives ax g (Reduction d) a s e = absurd (no_statement s e)
definition_derives ax g (Identification d) a s e = absurd (no_statement s e)
definition_derives ax g (Structure d) a s e = absurd (no_statement s e)
definition_derives ax g (SetTerm d) a s e = absurd (no_statement s e)
definition_derives ax g (Choice d) a s e = absurd (no_statement s e)

cited_derives : (ax g : List Formula) (definition : Bool) (article above : ℕ) (o : Option Statement) (c : CitedStatement) → ((s : Statement) → o ≡ Some s → Derives ax g (erase s)) → Contains (statement_cited definition article above o) c → Derives ax g (erase c.statement)
cited_derives ax g definition article above None c each is = absurd (in_none c is)
cited_derives ax g definition article above (Some s) c each is =
    subst (λ (k : CitedStatement). Derives ax g (erase k.statement)) (in_one (record { article = article; is_definition = definition; number = above + 1; statement = s }) c is) (each s refl)

pub item_cited : (ax g : List Formula) (at : Numbering) (x : Item) → AllFollow ax g (item_statements x) → (c : CitedStatement) → Contains (statements_cited at x) c → Derives ax g (erase c.statement)
item_cited ax g at x a c is =
    elim (Contains-append_cases (statement_cited false at.article at.theorems (theorem_of x)) (statement_cited true at.article at.definitions (definitional_theorem x)) c is) [
      | inl front ↦ cited_derives ax g false at.article at.theorems (theorem_of x) c (theorem_derives ax g x a) front
      | inr back ↦ cited_derives ax g true at.article at.definitions (definitional_theorem x) c (definition_derives ax g x a) back
    ]

pub statements_law : StatementsLaw
statements_law exports e p axioms premises each c is =
    let g : SomeItem (IsOfExports exports) (λ at x. Contains (statements_cited at x) c) = p.theorems c is in
    item_cited axioms premises g.0 g.1 (each g.2.0 g.2.1 g.1 (stands_member g.2.2)) c g.3
