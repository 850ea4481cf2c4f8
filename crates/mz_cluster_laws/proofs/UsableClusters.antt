-- What a heading of a registration is read to is usable.
use Rattle.std.proofs.Common.{◌≡◌, ◌≤◌, ℕ, true, List, [], ◌∷◌, ◌++◌, refl, subst, arith, Option, Some, None}
use Rattle.std.specs.Prelude.{Bool, Result, Ok, Err}
use Rattle.std.specs.List.{list_all, list_any}
use Rattle.std.proofs.lemmas.Bool.{and_parts, and_from}
use Rattle.mz_base.specs.declared.place.Place.{Place}
use Rattle.mz_logic.specs.Constants.{occurs}
use Rattle.mz_logic.specs.Term.{Term, Const}
use Rattle.mz_core.specs.declared.adjective.Adjective.{Adjective}
use Rattle.mz_core.specs.declared.outcome.Left.{Left}
use Rattle.mz_core.specs.declared.soft_type.SoftType.{SoftType}
use Rattle.mz_core.proofs.AllLemmas.{all-append}
use Rattle.mz_context.specs.Context.{next}
use Rattle.mz_context.specs.declared.context.Context.{Context}
use Rattle.mz_environment.specs.declared.environment.Environment.{Environment}
use Rattle.mz_fits.proofs.OneMatch.{none_some}
use Rattle.mz_names.specs.declared.refusal.Refusal.{Refusal}
use Rattle.mz_choice.specs.Fresh.{fresh, with_fresh}
use Rattle.mz_choice.specs.declared.choice.Wanted.{Wanted}
use Rattle.mz_choice.specs.declared.choice.Wanted.TheVariants.{AdjectiveOf, AdjectiveOfFresh}
use Rattle.mz_sizes.specs.Sizes.{adjective_nodes, type_nodes}
use Rattle.mz_tree.specs.Trees.{TypeData, AdjectiveData, AdjectivesData}
use Rattle.mz_tree.specs.Places.{first_place}
use Rattle.mz_tree.specs.Spell.{spell_type, spell_adjective}
use Rattle.mz_tree_part.specs.declared.cluster.ForTypeTree.{ForTypeTree}
use Rattle.mz_tree_part.specs.declared.cluster.ExistentialTree.{ExistentialTree}
use Rattle.mz_tree_part.specs.declared.cluster.ConditionalTree.{ConditionalTree}
use Rattle.mz_tree_part.specs.declared.cluster.FunctorialTree.{FunctorialTree}
use Rattle.mz_tree_part.specs.declared.cluster.ClusterTree.{ClusterTree}
use Rattle.mz_applied.specs.Application.{attribute_of}
use Rattle.mz_terms.specs.Adjectives as ad
use Rattle.mz_terms.specs.Adjectives.{is_denied, attribute_in, ReadsAdjective}
use Rattle.mz_terms.specs.Types.{ReadsRegistered}
use Rattle.mz_resolve.specs.Calls as ca
use Rattle.mz_resolve.specs.Calls.{Counted}
use Rattle.mz_closed_laws.specs.ClosedEnvironment.{IsClosedEnvironment}
use Rattle.mz_choice_laws.proofs.KnownTerms.{all_known-apart}
use Rattle.mz_term_laws.specs.Usable.{is_usable, term_usable, adjective_usable, type_usable}
use Rattle.mz_term_laws.specs.Whole.{IsWhole}
use Rattle.mz_term_laws.proofs.AppliedProofs.{lacks, lacking_back, reads_lacking}
use Rattle.mz_term_laws.proofs.ChangeProofs.{constant_law}
use Rattle.mz_term_laws.proofs.Outcomes.{on_ok}
use Rattle.mz_term_laws.proofs.TypeProofs.{adjectives_law, registered_law}
use Rattle.mz_term_laws.proofs.UsableProofs.{usable_from, usable_apart, next_further}
use Rattle.mz_reading_laws.proofs.CallProofs.{term_call_law, type_call_law}
use Rattle.mz_clusters.specs.Clusters as cl
use Rattle.mz_clusters.specs.Clusters.{RegisteredRead, AdjectiveRead, AdjectivesReadBehind, listed, AdjectivesOfTermRead, AdjectivesOfTypeRead}
use Rattle.mz_clusters.specs.Headings as he
use Rattle.mz_clusters.specs.Headings.{ExistentialRead, PremisesRead, ImplicationRead, ConditionalRead, ForTypeRead, OfTermRead, FunctorialRead, ClusterRead}
use Rattle.mz_clusters.specs.declared.headings.ExistentialCluster.{ExistentialCluster}
use Rattle.mz_clusters.specs.declared.headings.ConditionalCluster.{ConditionalCluster}
use Rattle.mz_clusters.specs.declared.headings.FunctorialCluster.{FunctorialCluster}
use Rattle.mz_clusters.specs.declared.headings.ReadCluster.{ReadCluster}
use Rattle.mz_cluster_laws.specs.Laws.{AreUsable, IsUsableCluster, ClusterLaw}

-- where headings are read: in a whole context of a closed environment
record Read (e : Environment) (c : Context) (from least : ℕ) : Type 0 where
  environment : IsClosedEnvironment e
  context : IsWhole from c
  below : from ≤ least
  ahead : from ≤ next c

-- what was counted was read
abbrev ReadSo : {X : Type 0} → (Result X Refusal → Type 0) → Result X Refusal → Type 0
ReadSo reads (Err r) = Unit {0}
ReadSo reads (Ok x) = reads (Ok x)

counted_read : {X : Type 0} (reads : Result X Refusal → Type 0) (nodes : X → ℕ) (place : Option Place) (left : Left) (o : Result X Refusal) (after : Left) → Counted reads nodes place left o after → ReadSo reads o
counted_read reads nodes place left o after (ca.not_read r a h) = tt
counted_read reads nodes place left o after (ca.beyond x first a h i lt) = tt
counted_read reads nodes place left o after (ca.counted x h le) = h

adjective_read : (e : Environment) (c : Context) (least : ℕ) (w : Wanted) (t : Term) (left : Left) (a : AdjectiveData) (b : Adjective) (after : Left) → AdjectiveRead e c least w t left a (Ok b) after → ReadsAdjective e c least w t a (Ok b)
adjective_read e c least w t left a b after h = counted_read (ReadsAdjective e c least w t a) adjective_nodes (first_place (spell_adjective a)) left (Ok b) after h

-- an adjective of a usable subject
usable_adjective : (e : Environment) (c : Context) (from least : ℕ) → Read e c from least → (w : Wanted) (t : Term) → term_usable from c t ≡ true → (a : AdjectiveData) (b : Adjective) → ReadsAdjective e c least w t a (Ok b) → adjective_usable from c b ≡ true
usable_adjective e c from least r w t ut a b h =
    let all : list_all (adjective_usable from c) (b ∷ []) ≡ true =
    adjectives_law e c from least r.environment r.context r.below w t ut (a ∷ []) (b ∷ []) (ad.one_read a [] [] b (Ok (b ∷ [])) h (ad.no_more (b ∷ []))) in
    (and_parts (adjective_usable from c b) true all).0

-- what a test says of each adjective that is read, it says of all
abbrev OnAll : (Adjective → Bool) → Result (List Adjective) Refusal → Type 0
OnAll p (Err r) = Unit {0}
OnAll p (Ok xs) = list_all p xs ≡ true

each_read : (e : Environment) (c : Context) (least : ℕ) (w : Wanted) (t : Term) (p : Adjective → Bool) → ((a : AdjectiveData) (b : Adjective) → ReadsAdjective e c least w t a (Ok b) → p b ≡ true) →
    (left : Left) (xs : List AdjectiveData) (before : List Adjective) (o : Result (List Adjective) Refusal) (after : Left) → AdjectivesReadBehind e c least w t left xs before o after → list_all p before ≡ true → OnAll p o
each_read e c least w t p f left xs before o after (cl.no_more _ _) kb = kb
each_read e c least w t p f left xs before o after (cl.one_refused _ _ a ys _ r h) kb = tt
each_read e c least w t p f left xs before o after (cl.one_read _ between _ a ys _ b _ h k) kb =
    each_read e c least w t p f between ys (before ++ b ∷ []) o after k
    (all-append p before (b ∷ []) kb (and_from (p b) true (f a b (adjective_read e c least w t left a b between h)) refl))

-- adjectives of a fresh constant lack it
lacks_fresh : (e : Environment) (c : Context) (least n : ℕ) (t : Term) (a : AdjectiveData) (o : Result Adjective Refusal) → ReadsAdjective e c least (AdjectiveOfFresh n) t a o → on_ok (lacks n) o ≡ true
lacks_fresh e c least n t a o (ad.own_refused b x h) = refl
lacks_fresh e c least n t a o (ad.own_read b ts first x h i k) =
    reads_lacking e c n (is_denied b) (attribute_in b).place (attribute_in b).place first (attribute_of (attribute_in b).spelling ts t) x k

-- so they are usable without it
usable_without : (from : ℕ) (c : Context) (ty : SoftType) (b : Adjective) → adjective_usable from (with_fresh c ty) b ≡ true → lacks (next c) b ≡ true → adjective_usable from c b ≡ true
usable_without from c ty b h k =
    all_known-apart (is_usable from (with_fresh c ty)) (is_usable from c) (next c) (λ m u ne. usable_apart from c (fresh ty) m u ne) 0 b.args h (lacking_back (list_any (occurs (next c)) b.args) k)

behind_fresh : (e : Environment) (c : Context) (from least : ℕ) → Read e c from least → (ty : SoftType) → type_usable from c ty ≡ true → Read e (with_fresh c ty) from least
behind_fresh e c from least r ty ut =
    record {
      environment = r.environment;
      context = constant_law from c (fresh ty) r.context (ut, λ u i. absurd (none_some u i));
      below = r.below;
      ahead = omega (arith, r.ahead, next_further c (fresh ty));
    }

fresh_usable : (from : ℕ) (c : Context) (ty : SoftType) → from ≤ next c → term_usable from (with_fresh c ty) (Const (next c)) ≡ true
fresh_usable from c ty le = usable_from from (with_fresh c ty) (next c) le (omega (arith, next_further c (fresh ty)))

of_fresh : (e : Environment) (c : Context) (from least : ℕ) → Read e c from least → (ty : SoftType) → type_usable from c ty ≡ true → (a : AdjectiveData) (b : Adjective) →
    ReadsAdjective e (with_fresh c ty) least (AdjectiveOfFresh (next c)) (Const (next c)) a (Ok b) → adjective_usable from c b ≡ true
of_fresh e c from least r ty ut a b h =
    usable_without from c ty b
    (usable_adjective e (with_fresh c ty) from least (behind_fresh e c from least r ty ut) (AdjectiveOfFresh (next c)) (Const (next c)) (fresh_usable from c ty r.ahead) a b h)
    (lacks_fresh e (with_fresh c ty) least (next c) (Const (next c)) a (Ok b) h)

of_type : (e : Environment) (c : Context) (from least : ℕ) → Read e c from least → (ty : SoftType) → type_usable from c ty ≡ true → (left after : Left) (xs : AdjectivesData) (ys : List Adjective) → AdjectivesOfTypeRead e c least ty left xs (Ok ys) after → AreUsable from c ys
of_type e c from least r ty ut left after xs ys h =
    each_read e (with_fresh c ty) least (AdjectiveOfFresh (next c)) (Const (next c)) (adjective_usable from c) (of_fresh e c from least r ty ut) left (listed xs) [] (Ok ys) after h refl

of_term : (e : Environment) (c : Context) (from least : ℕ) → Read e c from least → (t : Term) → term_usable from c t ≡ true → (left after : Left) (xs : AdjectivesData) (ys : List Adjective) → AdjectivesOfTermRead e c least t left xs (Ok ys) after → AreUsable from c ys
of_term e c from least r t ut left after xs ys h =
    each_read e c least (AdjectiveOf t) t (adjective_usable from c) (usable_adjective e c from least r (AdjectiveOf t) t ut) left (listed xs) [] (Ok ys) after h refl

registered_type_usable : (e : Environment) (c : Context) (from least : ℕ) → Read e c from least → (left after : Left) (t : TypeData) (ty : SoftType) → RegisteredRead e c least left t (Ok ty) after → type_usable from c ty ≡ true
registered_type_usable e c from least r left after t ty h =
    registered_law e c from least r.environment r.context r.below t ty (counted_read (ReadsRegistered e c least t) type_nodes (first_place (spell_type t)) left (Ok ty) after h)

-- the parts of the three clusters
abbrev OnExistential : ℕ → Context → Result ExistentialCluster Refusal → Type 0
OnExistential from c (Err r) = Unit {0}
OnExistential from c (Ok x) = (type_usable from c x.ty ≡ true) × AreUsable from c x.adjectives

existential_usable : (e : Environment) (c : Context) (from least : ℕ) → Read e c from least → (left after : Left) (t : ExistentialTree) (o : Result ExistentialCluster Refusal) → ExistentialRead e c least left t o after → OnExistential from c o
existential_usable e c from least r left after t o (he.type_refused x _ h) = tt
existential_usable e c from least r left after t o (he.adjectives_refused ty x between _ h k) = tt
existential_usable e c from least r left after t o (he.both_read ty xs between _ h k) =
    let ut : type_usable from c ty ≡ true = registered_type_usable e c from least r left between t.ty ty h in
    (ut, of_type e c from least r ty ut between after t.adjectives xs k)

abbrev OnList : ℕ → Context → Result (List Adjective) Refusal → Type 0
OnList from c (Err r) = Unit {0}
OnList from c (Ok xs) = AreUsable from c xs

-- what was read is so where it was read
premises_usable : (e : Environment) (c : Context) (from least : ℕ) → Read e c from least → (ty : SoftType) → type_usable from c ty ≡ true → (left after : Left) (t : Option AdjectivesData) (o : Result (List Adjective) Refusal) → PremisesRead e c least ty left t o after → OnList from c o
premises_usable e c from least r ty ut left after t o he.no_premises = refl
premises_usable e c from least r ty ut left after t o (he.premises xs (Err x) _ h) = tt
premises_usable e c from least r ty ut left after t o (he.premises xs (Ok ys) _ h) = of_type e c from least r ty ut left after xs ys h

abbrev OnConditional : ℕ → Context → Result ConditionalCluster Refusal → Type 0
OnConditional from c (Err r) = Unit {0}
OnConditional from c (Ok x) = (type_usable from c x.ty ≡ true) × AreUsable from c x.from × AreUsable from c x.to

implication_usable : (e : Environment) (c : Context) (from least : ℕ) → Read e c from least → (ty : SoftType) → type_usable from c ty ≡ true → (left after : Left) (t : ConditionalTree) (o : Result ConditionalCluster Refusal) → ImplicationRead e c least ty left t o after → OnConditional from c o
implication_usable e c from least r ty ut left after t o (he.premises_refused x _ h) = tt
implication_usable e c from least r ty ut left after t o (he.conclusions_refused xs x between _ h k) = tt
implication_usable e c from least r ty ut left after t o (he.both_read xs ys between _ h k) =
    (ut, premises_usable e c from least r ty ut left between t.premises (Ok xs) h, of_type e c from least r ty ut between after t.adjectives ys k)

conditional_usable : (e : Environment) (c : Context) (from least : ℕ) → Read e c from least → (left after : Left) (t : ConditionalTree) (o : Result ConditionalCluster Refusal) → ConditionalRead e c least left t o after → OnConditional from c o
conditional_usable e c from least r left after t o (he.type_refused x _ h) = tt
conditional_usable e c from least r left after t o (he.type_read ty _ between _ h k) =
    implication_usable e c from least r ty (type_call_law e c from least r.environment r.context r.below left between t.for_type.ty ty h) between after t o k

abbrev OnAnyType : ℕ → Context → Option SoftType → Type 0
OnAnyType from c o = (ty : SoftType) → o ≡ Some ty → type_usable from c ty ≡ true

abbrev OnForType : ℕ → Context → Result (Option SoftType) Refusal → Type 0
OnForType from c (Err r) = Unit {0}
OnForType from c (Ok o) = OnAnyType from c o

same_type : (ty s : SoftType) → Some ty ≡ Some s → ty ≡ s
same_type ty s h = cc

for_type_usable : (e : Environment) (c : Context) (from least : ℕ) → Read e c from least → (left after : Left) (t : Option ForTypeTree) (o : Result (Option SoftType) Refusal) → ForTypeRead e c least left t o after → OnForType from c o
for_type_usable e c from least r left after t o he.no_type = λ ty i. absurd (none_some ty i)
for_type_usable e c from least r left after t o (he.type_refused x y _ h) = tt
for_type_usable e c from least r left after t o (he.type_read x ty _ h) =
    λ s i. subst (λ (z : SoftType). type_usable from c z ≡ true) (same_type ty s i) (type_call_law e c from least r.environment r.context r.below left after x.ty ty h)

abbrev OnFunctorial : ℕ → Context → Result FunctorialCluster Refusal → Type 0
OnFunctorial from c (Err r) = Unit {0}
OnFunctorial from c (Ok x) = (term_usable from c x.term ≡ true) × OnAnyType from c x.ty × AreUsable from c x.adjectives

of_term_usable : (e : Environment) (c : Context) (from least : ℕ) → Read e c from least → (u : Term) → term_usable from c u ≡ true → (left after : Left) (t : FunctorialTree) (o : Result FunctorialCluster Refusal) → OfTermRead e c least u left t o after → OnFunctorial from c o
of_term_usable e c from least r u uu left after t o (he.type_refused x _ h) = tt
of_term_usable e c from least r u uu left after t o (he.adjectives_refused ty x between _ h k) = tt
of_term_usable e c from least r u uu left after t o (he.both_read ty xs between _ h k) =
    (uu, for_type_usable e c from least r left between t.for_type (Ok ty) h, of_term e c from least r u uu between after t.adjectives xs k)

functorial_usable : (e : Environment) (c : Context) (from least : ℕ) → Read e c from least → (left after : Left) (t : FunctorialTree) (o : Result FunctorialCluster Refusal) → FunctorialRead e c least left t o after → OnFunctorial from c o
functorial_usable e c from least r left after t o (he.term_refused x _ h) = tt
functorial_usable e c from least r left after t o (he.term_read u _ between _ h k) =
    of_term_usable e c from least r u (term_call_law e c from least r.environment r.context r.below left between t.term u h) between after t o k

-- a cluster of any form
abbrev OnCluster : ℕ → Context → Result (Option ReadCluster) Refusal → Type 0
OnCluster from c (Err r) = Unit {0}
OnCluster from c (Ok None) = Unit {0}
OnCluster from c (Ok (Some x)) = IsUsableCluster from c x

cluster_usable : (e : Environment) (c : Context) (from least : ℕ) → Read e c from least → (left after : Left) (t : ClusterTree) (o : Result (Option ReadCluster) Refusal) → ClusterRead e c least left t o after → OnCluster from c o
cluster_usable e c from least r left after t o (he.existential x (Err y) _ h) = tt
cluster_usable e c from least r left after t o (he.existential x (Ok y) _ h) = existential_usable e c from least r left after x (Ok y) h
cluster_usable e c from least r left after t o (he.conditional x (Err y) _ h) = tt
cluster_usable e c from least r left after t o (he.conditional x (Ok y) _ h) = conditional_usable e c from least r left after x (Ok y) h
cluster_usable e c from least r left after t o (he.functorial x (Err y) _ h) = tt
cluster_usable e c from least r left after t o (he.functorial x (Ok y) _ h) = functorial_usable e c from least r left after x (Ok y) h
cluster_usable e c from least r left after t o (he.reduction x) = tt
cluster_usable e c from least r left after t o (he.identification x) = tt

pub cluster_law : ClusterLaw
cluster_law e c from least ce w le ahead left after t x h =
    cluster_usable e c from least (record { environment = ce; context = w; below = le; ahead = ahead }) left after t (Ok (Some x)) h
