-- Proofs that schemes that may be cited derive.
use Rattle.std.proofs.Common.{◌≡◌, ◌+◌, ℕ, List, [], ◌++◌, map, refl, ap, sym, subst}
use Rattle.std.specs.Prelude.{Contains, Option, Some, None}
use Rattle.std.proofs.lemmas.List.Elements.{Contains-append_right}
use Rattle.mz_logic.specs.Formula as formula
use Rattle.mz_logic.specs.Formula.{Formula}
use Rattle.mz_logic.specs.Connectives.{implies}
use Rattle.mz_logic.specs.Derives.{Derives}
use Rattle.mz_logic.specs.declared.sequent.Sequent.{Sequent}
use Rattle.mz_logic.proofs.Rules.{hypothesis}
use Rattle.mz_logic.proofs.Each.{along_each, implies_out, joined_in, premises_within}
use Rattle.mz_core.specs.Statement.{Statement}
use Rattle.mz_core.specs.StatementForms.{implication}
use Rattle.mz_core.specs.Parts.{conjunction}
use Rattle.mz_core.specs.Erasure.{erase}
use Rattle.mz_core.specs.TypedSequent.{erased_sequent}
use Rattle.mz_core.specs.declared.scheme.Scheme.{Scheme}
use Rattle.mz_core.specs.declared.item.Item.{Item}
use Rattle.mz_core.specs.declared.item.Item.TheVariants.{Axiom, AxiomScheme, Primitive, Theorem, Scheme as SchemeItem, FunctorMeans, FunctorEquals, Predicate, Attribute, ModeMeans, Abbreviation, Notation, RedefinedFunctor, RedefinedMode, RedefinedPredicate, RedefinedAttribute, Property, Existential, Conditional, Functorial, Reduction, Identification, Structure, SetTerm, Choice}
use Rattle.mz_core.proofs.LawProofs.{erasure_of_negation, erasure_of_conjunction}
use Rattle.mz_ground.proofs.ListLemmas.{contains_map, map_contains}
use Rattle.mz_items.specs.Exports.{item_statements}
use Rattle.mz_items.specs.Items.{owes, grants}
use Rattle.mz_items.specs.SchemeRows.{letter_types, scheme_sequent, axiom_scheme_grant}
use Rattle.mz_clause_laws.specs.RowLaws.{AllFollow}
use Rattle.mz_row_laws.proofs.MemberLemmas.{in_one}
use Rattle.mz_environment.specs.Cited.{scheme_of, scheme_cited}
use Rattle.mz_environment.specs.declared.cited.CitedScheme.{CitedScheme}
use Rattle.mz_env_laws.specs.Entries.{IsOfExports, SomeItem}
use Rattle.mz_env_laws.specs.DerivedLaws.{SchemesLaw}
use Rattle.mz_env_laws.proofs.Along.{in_none, the_first, stands_member}

-- the sequent of the scheme derives
abbrev SchemeDerives : List Formula → Scheme → Type 0
SchemeDerives ax s = Derives ax (map erase (scheme_sequent s).premises) (erase (scheme_sequent s).conclusion)

-- from what an axiom scheme grants
erase-implication : (s t : Statement) → erase (implication s t) ≡ implies (erase s) (erase t)
erase-implication s t = ap (λ f. formula.Not (formula.And (erase s) f)) (erasure_of_negation t)

later_erased : (ss ts : List Statement) (f : Formula) → Contains (map erase ts) f → Contains (map erase (ss ++ ts)) f
later_erased ss ts f is =
    let from : (t : Statement) × Contains ts t × (erase t ≡ f) = contains_map erase ts f is in
    subst (Contains (map erase (ss ++ ts))) from.2 (map_contains erase (ss ++ ts) from.0 (Contains-append_right ss ts from.0 from.1))

granted_scheme : (ax : List Formula) (s : Scheme) → Derives ax [] (erase (axiom_scheme_grant s)) → SchemeDerives ax s
granted_scheme ax s d =
    let g : List Formula = map erase (letter_types s.letters ++ s.premises) in
    let implied : Derives ax g (implies (erase (conjunction s.premises)) (erase s.conclusion)) =
    premises_within [] g _ ax (λ k none. absurd (in_none k none)) (subst (Derives ax []) (erase-implication (conjunction s.premises) s.conclusion) d) in
    let all : Derives ax g (erase (conjunction s.premises)) =
    subst (Derives ax g) (sym (erasure_of_conjunction s.premises))
    (joined_in ax g (map erase s.premises) (along_each ax g (map erase s.premises) (λ k is. hypothesis ax g k (later_erased (letter_types s.letters) s.premises k is)))) in
    implies_out ax g (erase (conjunction s.premises)) (erase s.conclusion) implied all

-- the scheme of an item
abbrev scheme_or : Scheme → Option Scheme → Scheme
scheme_or t None = t
scheme_or t (Some s) = s

same_scheme : (ax : List Formula) (t s : Scheme) → Some t ≡ Some s → SchemeDerives ax t → SchemeDerives ax s
same_scheme ax t s e d = subst (SchemeDerives ax) (ap (scheme_or t) e) d

no_scheme : (s : Scheme) → None ≡ Some s → ⊥
no_scheme s e = cc

scheme_derives : (ax : List Formula) (x : Item) → AllFollow ax [] (item_statements x) → ((q : Sequent) → Contains (owes x) q → Derives ax q.premises q.conclusion) → (s : Scheme) → scheme_of x ≡ Some s → SchemeDerives ax s
unfolding owes grants
scheme_derives ax (Axiom t) a owed s e = absurd (no_scheme s e)
scheme_derives ax (AxiomScheme t) a owed s e = same_scheme ax t s e (granted_scheme ax t a.0)
scheme_derives ax (Primitive t) a owed s e = absurd (no_scheme s e)
scheme_derives ax (Theorem t) a owed s e = absurd (no_scheme s e)
scheme_derives ax (SchemeItem t) a owed s e = same_scheme ax t s e (owed (erased_sequent (scheme_sequent t)) (the_first (erased_sequent (scheme_sequent t)) []))
scheme_derives ax (FunctorMeans t) a owed s e = absurd (no_scheme s e)
scheme_derives ax (FunctorEquals t) a owed s e = absurd (no_scheme s e)
scheme_derives ax (Predicate t) a owed s e = absurd (no_scheme s e)
scheme_derives ax (Attribute t) a owed s e = absurd (no_scheme s e)
scheme_derives ax (ModeMeans t) a owed s e = absurd (no_scheme s e)
scheme_derives ax (Abbreviation t) a owed s e = absurd (no_scheme s e)
scheme_derives ax (Notation t) a owed s e = absurd (no_scheme s e)
scheme_derives ax (RedefinedFunctor t) a owed s e = absurd (no_scheme s e)
scheme_derives ax (RedefinedMode t) a owed s e = absurd (no_scheme s e)
scheme_derives ax (RedefinedPredicate t) a owed s e = absurd (no_scheme s e)
scheme_derives ax (RedefinedAttribute t) a owed s e = absurd (no_scheme s e)
scheme_derives ax (Property t) a owed s e = absurd (no_scheme s e)
scheme_derives ax (Existential t) a owed s e = absurd (no_scheme s e)
scheme_derives ax (Conditional t) a owed s e = absurd (no_scheme s e)
scheme_derives ax (Functorial t) a owed s e = absurd (no_scheme s e)
scheme_derives ax (Reduction t) a owed s e = absurd (no_scheme s e)
scheme_derives ax (Identification t) a owed s e = absurd (no_scheme s e)
scheme_derives ax (Structure t) a owed s e = absurd (no_scheme s e)
scheme_derives ax (SetTerm t) a owed s e = absurd (no_scheme s e)
scheme_derives ax (Choice t) a owed s e = absurd (no_scheme s e)

cited_derives : (ax : List Formula) (article above : ℕ) (o : Option Scheme) (c : CitedScheme) → ((s : Scheme) → o ≡ Some s → SchemeDerives ax s) → Contains (scheme_cited article above o) c → SchemeDerives ax c.scheme
cited_derives ax article above None c each is = absurd (in_none c is)
cited_derives ax article above (Some s) c each is =
    subst (λ (k : CitedScheme). SchemeDerives ax k.scheme) (in_one (record { article = article; number = above + 1; scheme = s }) c is) (each s refl)

pub schemes_law : SchemesLaw
schemes_law exports e p axioms said owed c is =
    let g : SomeItem (IsOfExports exports) (λ at x. Contains (scheme_cited at.article at.schemes (scheme_of x)) c) = p.schemes c is in
    let member : Contains g.2.0.items g.1 = stands_member g.2.2 in
    cited_derives axioms g.0.article g.0.schemes (scheme_of g.1) c (scheme_derives axioms g.1 (said g.2.0 g.2.1 g.1 member) (owed g.2.0 g.2.1 g.1 member)) g.3
