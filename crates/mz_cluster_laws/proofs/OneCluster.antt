-- What a heading of a registration is read to, and what the article has left behind it, is determined.
use Rattle.std.proofs.Common.{◌≡◌, ◌<◌, ◌≤◌, ◌⊎◌, inl, inr, ℕ, List, [], ◌∷◌, ◌++◌, refl, sym, ap, ◌∙◌, subst, arith, Option, Some, None}
use Rattle.std.specs.Prelude.{Result, Ok, Err}
use Rattle.mz_base.specs.declared.place.Place.{Place}
use Rattle.mz_logic.specs.Term.{Term, Const}
use Rattle.mz_core.specs.declared.adjective.Adjective.{Adjective}
use Rattle.mz_core.specs.declared.outcome.Left.{Left}
use Rattle.mz_core.specs.declared.soft_type.SoftType.{SoftType}
use Rattle.mz_context.specs.Context.{next}
use Rattle.mz_context.specs.declared.context.Context.{Context}
use Rattle.mz_environment.specs.declared.environment.Environment.{Environment}
use Rattle.mz_names.specs.declared.refusal.Refusal.{Refusal}
use Rattle.mz_names.specs.declared.refusal.Refusal.TheVariants.{TooLarge}
use Rattle.mz_choice.specs.Fresh.{with_fresh}
use Rattle.mz_choice.specs.declared.choice.Wanted.{Wanted}
use Rattle.mz_choice.specs.declared.choice.Wanted.TheVariants.{AdjectiveOf, AdjectiveOfFresh}
use Rattle.mz_sizes.specs.Sizes.{adjective_nodes, type_nodes}
use Rattle.mz_tree.specs.Trees.{TypeData, AdjectiveData, AdjectivesData}
use Rattle.mz_tree.specs.Places.{first_place}
use Rattle.mz_tree.specs.Spell.{spell_type, spell_adjective}
use Rattle.mz_tree_part.specs.declared.cluster.ForTypeTree.{ForTypeTree}
use Rattle.mz_tree_part.specs.declared.cluster.ExistentialTree.{ExistentialTree}
use Rattle.mz_tree_part.specs.declared.cluster.ConditionalTree.{ConditionalTree}
use Rattle.mz_tree_part.specs.declared.cluster.FunctorialTree.{FunctorialTree}
use Rattle.mz_tree_part.specs.declared.cluster.ClusterTree.{ClusterTree}
use Rattle.mz_tree_part.specs.declared.cluster.ClusterTree.TheVariants as tree
use Rattle.mz_terms.specs.Adjectives as ad
use Rattle.mz_terms.specs.Adjectives.{ReadsAdjective, ReadsAdjectives}
use Rattle.mz_terms.specs.Types.{ReadsRegistered}
use Rattle.mz_terms.proofs.OneType.{one_adjectives, one_registered}
use Rattle.mz_resolve.specs.Calls as ca
use Rattle.mz_resolve.specs.Calls.{Counted, TermRead, TypeRead}
use Rattle.mz_resolve.specs.Spending.{spent}
use Rattle.mz_justified_laws.specs.Determined.{AtMostOne, SameLeft, IsDetermined}
use Rattle.mz_justified_laws.proofs.Sequence.{determined_by, IsValue, determined_value, ThenRead, determined_then, as_it_is}
use Rattle.mz_parts_laws.proofs.OneExpression.{one_term_read, one_type_read}
use Rattle.mz_clusters.specs.Clusters as cl
use Rattle.mz_clusters.specs.Clusters.{RegisteredRead, AdjectiveRead, AdjectivesReadBehind, listed, AdjectivesOfTermRead, AdjectivesOfTypeRead}
use Rattle.mz_clusters.specs.Headings as he
use Rattle.mz_clusters.specs.Headings.{ExistentialRead, PremisesRead, ImplicationRead, ConditionalRead, ForTypeRead, OfTermRead, FunctorialRead, as_existential, as_conditional, as_functorial, ClusterRead}
use Rattle.mz_clusters.specs.declared.headings.ExistentialCluster.{ExistentialCluster}
use Rattle.mz_clusters.specs.declared.headings.ConditionalCluster.{ConditionalCluster}
use Rattle.mz_clusters.specs.declared.headings.FunctorialCluster.{FunctorialCluster}
use Rattle.mz_clusters.specs.declared.headings.ReadCluster.{ReadCluster}
use Rattle.mz_cluster_laws.specs.Laws.{OneClusterLaw}

-- what is read has more nodes than are left, or they are spent
abbrev IsBeyond : {X : Type 0} → (X → ℕ) → Option Place → Left → X → Result X Refusal → Type 0
IsBeyond nodes place left x o = (first : Place) × (place ≡ Some first) × (left.nodes < nodes x) × (o ≡ Err (TooLarge first))

abbrev IsCounted : {X : Type 0} → (X → ℕ) → Left → X → Result X Refusal → Left → Type 0
IsCounted nodes left x o a = (nodes x ≤ left.nodes) × (o ≡ Ok x) × (a ≡ spent left (nodes x))

abbrev CountedNext : {X : Type 0} → (X → ℕ) → Option Place → Left → Result X Refusal → Result X Refusal → Left → Type 0
CountedNext nodes place left (Err r) o a = o ≡ Err r
CountedNext nodes place left (Ok x) o a = IsBeyond nodes place left x o ⊎ IsCounted nodes left x o a

abbrev CountedAs : {X : Type 0} → (Result X Refusal → Type 0) → (X → ℕ) → Option Place → Left → Result X Refusal → Left → Type 0
CountedAs {X} reads nodes place left o a = (q : Result X Refusal) × reads q × CountedNext nodes place left q o a

counted_as : {X : Type 0} (reads : Result X Refusal → Type 0) (nodes : X → ℕ) (place : Option Place) (left : Left) (o : Result X Refusal) (a : Left) → Counted reads nodes place left o a → CountedAs reads nodes place left o a
counted_as reads nodes place left o a (ca.not_read r _ h) = (Err r, h, refl)
counted_as reads nodes place left o a (ca.beyond x f _ h i j) = (Ok x, h, inl (f, i, j, refl))
counted_as reads nodes place left o a (ca.counted x h j) = (Ok x, h, inr (j, refl, refl))

some-inj : (o : Option Place) (p q : Place) → o ≡ Some p → o ≡ Some q → p ≡ q
some-inj o p q h k = cc

counts_apart : (n m : ℕ) → n < m → m ≤ n → ⊥
counts_apart n m h k = omega (arith, h, k)

same_left : {X : Type 0} (o : Result X Refusal) (a b : Left) → a ≡ b → SameLeft o a b
same_left (Ok x) a b e = e
same_left (Err r) a b e = tt

any_left : {X : Type 0} (o : Result X Refusal) (r : Refusal) (a b : Left) → o ≡ Err r → SameLeft o a b
any_left {X} o r a b e = subst (λ (z : Result X Refusal). SameLeft z a b) (sym e) tt

both_beyond : {X : Type 0} (nodes : X → ℕ) (place : Option Place) (left : Left) (x : X) (o p : Result X Refusal) (a b : Left) → IsBeyond nodes place left x o → IsBeyond nodes place left x p → (o ≡ p) × SameLeft o a b
both_beyond {X} nodes place left x o p a b h k =
    (subst (λ (z : Place). o ≡ Err (TooLarge z)) (some-inj place h.0 k.0 h.1 k.1) h.3 ∙ sym k.3, any_left o (TooLarge h.0) a b h.3)

counted_once : {X : Type 0} (nodes : X → ℕ) (place : Option Place) (left : Left) (q : Result X Refusal) (o p : Result X Refusal) (a b : Left) → CountedNext nodes place left q o a → CountedNext nodes place left q p b → (o ≡ p) × SameLeft o a b
counted_once nodes place left (Err r) o p a b h k = (h ∙ sym k, any_left o r a b h)
counted_once nodes place left (Ok x) o p a b (inl h) (inl k) = both_beyond nodes place left x o p a b h k
counted_once nodes place left (Ok x) o p a b (inl h) (inr k) = absurd (counts_apart left.nodes (nodes x) h.2 k.0)
counted_once nodes place left (Ok x) o p a b (inr h) (inl k) = absurd (counts_apart left.nodes (nodes x) k.2 h.0)
counted_once nodes place left (Ok x) o p a b (inr h) (inr k) = (h.1 ∙ sym k.1, same_left o a b (h.2 ∙ sym k.2))

one_counted : {X : Type 0} (reads : Result X Refusal → Type 0) (nodes : X → ℕ) (place : Option Place) (left : Left) → AtMostOne reads → IsDetermined (Counted reads nodes place left)
one_counted {X} reads nodes place left one o p a b h k =
    let x : CountedAs reads nodes place left o a = counted_as reads nodes place left o a h in
    let y : CountedAs reads nodes place left p b = counted_as reads nodes place left p b k in
    counted_once nodes place left x.0 o p a b x.2 (subst (λ (z : Result X Refusal). CountedNext nodes place left z p b) (sym (one x.0 y.0 x.1 y.1)) y.2)

-- a type
one_registered_read : (e : Environment) (c : Context) (least : ℕ) (left : Left) (t : TypeData) → IsDetermined (RegisteredRead e c least left t)
one_registered_read e c least left t = one_counted (ReadsRegistered e c least t) type_nodes (first_place (spell_type t)) left (one_registered e c least t)

-- an adjective, by lists of one
abbrev alone : Result Adjective Refusal → Result (List Adjective) Refusal
alone (Err r) = Err r
alone (Ok b) = Ok (b ∷ [])

alone-inj : (o p : Result Adjective Refusal) → alone o ≡ alone p → o ≡ p
alone-inj (Err r) (Err s) h = cc
alone-inj (Err r) (Ok b) h = let no : ⊥ = cc in absurd no
alone-inj (Ok a) (Err s) h = let no : ⊥ = cc in absurd no
alone-inj (Ok a) (Ok b) h = cc

listed_alone : (e : Environment) (c : Context) (least : ℕ) (w : Wanted) (t : Term) (a : AdjectiveData) (o : Result Adjective Refusal) → ReadsAdjective e c least w t a o → ReadsAdjectives e c least w t (a ∷ []) [] (alone o)
listed_alone e c least w t a (Err r) h = ad.one_refused a [] [] r h
listed_alone e c least w t a (Ok b) h = ad.one_read a [] [] b (Ok (b ∷ [])) h (ad.no_more (b ∷ []))

one_adjective : (e : Environment) (c : Context) (least : ℕ) (w : Wanted) (t : Term) (a : AdjectiveData) → AtMostOne (ReadsAdjective e c least w t a)
one_adjective e c least w t a o p h k =
    alone-inj o p (one_adjectives e c least w t (a ∷ []) [] (alone o) (listed_alone e c least w t a o h) (alone p) (listed_alone e c least w t a p k))

one_adjective_read : (e : Environment) (c : Context) (least : ℕ) (w : Wanted) (t : Term) (left : Left) (a : AdjectiveData) → IsDetermined (AdjectiveRead e c least w t left a)
one_adjective_read e c least w t left a = one_counted (ReadsAdjective e c least w t a) adjective_nodes (first_place (spell_adjective a)) left (one_adjective e c least w t a)

-- adjectives
abbrev EachNext : Environment → Context → ℕ → Wanted → Term → List AdjectiveData → List Adjective → Adjective → Left → Result (List Adjective) Refusal → Left → Type 0
EachNext e c least w t xs before b l o a = AdjectivesReadBehind e c least w t l xs (before ++ b ∷ []) o a

abbrev EachAs : Environment → Context → ℕ → Wanted → Term → Left → List AdjectiveData → List Adjective → Result (List Adjective) Refusal → Left → Type 0
EachAs e c least w t left [] before o a = IsValue (Ok before) left o a
EachAs e c least w t left (x ∷ xs) before o a = ThenRead (AdjectiveRead e c least w t left x) as_it_is (EachNext e c least w t xs before) o a

each_as : (e : Environment) (c : Context) (least : ℕ) (w : Wanted) (t : Term) (left : Left) (xs : List AdjectiveData) (before : List Adjective) (o : Result (List Adjective) Refusal) (a : Left) → AdjectivesReadBehind e c least w t left xs before o a → EachAs e c least w t left xs before o a
each_as e c least w t left xs before o a (cl.no_more _ _) = (refl, refl)
each_as e c least w t left xs before o a (cl.one_refused _ after x ys _ r h) = (Err r, after, h, refl)
each_as e c least w t left xs before o a (cl.one_read _ between after x ys _ b p h k) = (Ok b, between, h, k)

one_each : (e : Environment) (c : Context) (least : ℕ) (w : Wanted) (t : Term) (xs : List AdjectiveData) (left : Left) (before : List Adjective) → IsDetermined (AdjectivesReadBehind e c least w t left xs before)
one_each e c least w t [] left before = determined_by (AdjectivesReadBehind e c least w t left [] before) (EachAs e c least w t left [] before) (each_as e c least w t left [] before) (determined_value (Ok before) left)
one_each e c least w t (x ∷ xs) left before =
    determined_by (AdjectivesReadBehind e c least w t left (x ∷ xs) before) (EachAs e c least w t left (x ∷ xs) before) (each_as e c least w t left (x ∷ xs) before)
    (determined_then (AdjectiveRead e c least w t left x) as_it_is (EachNext e c least w t xs before) (one_adjective_read e c least w t left x) (λ (b : Adjective) (l : Left). one_each e c least w t xs l (before ++ b ∷ [])))

one_of_term : (e : Environment) (c : Context) (least : ℕ) (t : Term) (left : Left) (xs : AdjectivesData) → IsDetermined (AdjectivesOfTermRead e c least t left xs)
one_of_term e c least t left xs = one_each e c least (AdjectiveOf t) t (listed xs) left []

one_of_type : (e : Environment) (c : Context) (least : ℕ) (ty : SoftType) (left : Left) (xs : AdjectivesData) → IsDetermined (AdjectivesOfTypeRead e c least ty left xs)
one_of_type e c least ty left xs = one_each e (with_fresh c ty) least (AdjectiveOfFresh (next c)) (Const (next c)) (listed xs) left []

-- existential clusters
abbrev WithAdjectives : SoftType → List Adjective → Left → Result ExistentialCluster Refusal → Left → Type 0
WithAdjectives ty xs l o a = IsValue (Ok (record { adjectives = xs; ty = ty })) l o a

abbrev OfType : Environment → Context → ℕ → AdjectivesData → SoftType → Left → Result ExistentialCluster Refusal → Left → Type 0
OfType e c least xs ty l o a = ThenRead (AdjectivesOfTypeRead e c least ty l xs) as_it_is (WithAdjectives ty) o a

abbrev ExistentialAs : Environment → Context → ℕ → Left → ExistentialTree → Result ExistentialCluster Refusal → Left → Type 0
ExistentialAs e c least left t o a = ThenRead (RegisteredRead e c least left t.ty) as_it_is (OfType e c least t.adjectives) o a

existential_as : (e : Environment) (c : Context) (least : ℕ) (left : Left) (t : ExistentialTree) (o : Result ExistentialCluster Refusal) (a : Left) → ExistentialRead e c least left t o a → ExistentialAs e c least left t o a
existential_as e c least left t o a (he.type_refused r after h) = (Err r, after, h, refl)
existential_as e c least left t o a (he.adjectives_refused ty r between after h k) = (Ok ty, between, h, (Err r, after, k, refl))
existential_as e c least left t o a (he.both_read ty xs between after h k) = (Ok ty, between, h, (Ok xs, after, k, (refl, refl)))

one_existential : (e : Environment) (c : Context) (least : ℕ) (left : Left) (t : ExistentialTree) → IsDetermined (ExistentialRead e c least left t)
one_existential e c least left t =
    determined_by (ExistentialRead e c least left t) (ExistentialAs e c least left t) (existential_as e c least left t)
    (determined_then (RegisteredRead e c least left t.ty) as_it_is (OfType e c least t.adjectives) (one_registered_read e c least left t.ty)
    (λ (ty : SoftType) (l : Left). determined_then (AdjectivesOfTypeRead e c least ty l t.adjectives) as_it_is (WithAdjectives ty) (one_of_type e c least ty l t.adjectives)
    (λ (xs : List Adjective) (m : Left). determined_value (Ok (record { adjectives = xs; ty = ty })) m)))

-- conditional clusters
abbrev PremisesAs : Environment → Context → ℕ → SoftType → Left → Option AdjectivesData → Result (List Adjective) Refusal → Left → Type 0
PremisesAs e c least ty left None o a = IsValue (Ok []) left o a
PremisesAs e c least ty left (Some xs) o a = AdjectivesOfTypeRead e c least ty left xs o a

premises_as : (e : Environment) (c : Context) (least : ℕ) (ty : SoftType) (left : Left) (t : Option AdjectivesData) (o : Result (List Adjective) Refusal) (a : Left) → PremisesRead e c least ty left t o a → PremisesAs e c least ty left t o a
premises_as e c least ty left t o a he.no_premises = (refl, refl)
premises_as e c least ty left t o a (he.premises xs p after h) = h

one_premises : (e : Environment) (c : Context) (least : ℕ) (ty : SoftType) (left : Left) (t : Option AdjectivesData) → IsDetermined (PremisesRead e c least ty left t)
one_premises e c least ty left None = determined_by (PremisesRead e c least ty left None) (PremisesAs e c least ty left None) (premises_as e c least ty left None) (determined_value (Ok []) left)
one_premises e c least ty left (Some xs) = determined_by (PremisesRead e c least ty left (Some xs)) (PremisesAs e c least ty left (Some xs)) (premises_as e c least ty left (Some xs)) (one_of_type e c least ty left xs)

abbrev WithConclusions : SoftType → List Adjective → List Adjective → Left → Result ConditionalCluster Refusal → Left → Type 0
WithConclusions ty xs ys l o a = IsValue (Ok (record { from = xs; to = ys; ty = ty })) l o a

abbrev WithPremises : Environment → Context → ℕ → SoftType → AdjectivesData → List Adjective → Left → Result ConditionalCluster Refusal → Left → Type 0
WithPremises e c least ty ys xs l o a = ThenRead (AdjectivesOfTypeRead e c least ty l ys) as_it_is (WithConclusions ty xs) o a

abbrev ImplicationAs : Environment → Context → ℕ → SoftType → Left → ConditionalTree → Result ConditionalCluster Refusal → Left → Type 0
ImplicationAs e c least ty left t o a = ThenRead (PremisesRead e c least ty left t.premises) as_it_is (WithPremises e c least ty t.adjectives) o a

implication_as : (e : Environment) (c : Context) (least : ℕ) (ty : SoftType) (left : Left) (t : ConditionalTree) (o : Result ConditionalCluster Refusal) (a : Left) → ImplicationRead e c least ty left t o a → ImplicationAs e c least ty left t o a
implication_as e c least ty left t o a (he.premises_refused r after h) = (Err r, after, h, refl)
implication_as e c least ty left t o a (he.conclusions_refused xs r between after h k) = (Ok xs, between, h, (Err r, after, k, refl))
implication_as e c least ty left t o a (he.both_read xs ys between after h k) = (Ok xs, between, h, (Ok ys, after, k, (refl, refl)))

one_implication : (e : Environment) (c : Context) (least : ℕ) (t : ConditionalTree) (ty : SoftType) (left : Left) → IsDetermined (ImplicationRead e c least ty left t)
one_implication e c least t ty left =
    determined_by (ImplicationRead e c least ty left t) (ImplicationAs e c least ty left t) (implication_as e c least ty left t)
    (determined_then (PremisesRead e c least ty left t.premises) as_it_is (WithPremises e c least ty t.adjectives) (one_premises e c least ty left t.premises)
    (λ (xs : List Adjective) (l : Left). determined_then (AdjectivesOfTypeRead e c least ty l t.adjectives) as_it_is (WithConclusions ty xs) (one_of_type e c least ty l t.adjectives)
    (λ (ys : List Adjective) (m : Left). determined_value (Ok (record { from = xs; to = ys; ty = ty })) m)))

abbrev ImplicationNext : Environment → Context → ℕ → ConditionalTree → SoftType → Left → Result ConditionalCluster Refusal → Left → Type 0
ImplicationNext e c least t ty l o a = ImplicationRead e c least ty l t o a

abbrev ConditionalAs : Environment → Context → ℕ → Left → ConditionalTree → Result ConditionalCluster Refusal → Left → Type 0
ConditionalAs e c least left t o a = ThenRead (TypeRead e c least left t.for_type.ty) as_it_is (ImplicationNext e c least t) o a

conditional_as : (e : Environment) (c : Context) (least : ℕ) (left : Left) (t : ConditionalTree) (o : Result ConditionalCluster Refusal) (a : Left) → ConditionalRead e c least left t o a → ConditionalAs e c least left t o a
conditional_as e c least left t o a (he.type_refused r after h) = (Err r, after, h, refl)
conditional_as e c least left t o a (he.type_read ty p between after h k) = (Ok ty, between, h, k)

one_conditional : (e : Environment) (c : Context) (least : ℕ) (left : Left) (t : ConditionalTree) → IsDetermined (ConditionalRead e c least left t)
one_conditional e c least left t =
    determined_by (ConditionalRead e c least left t) (ConditionalAs e c least left t) (conditional_as e c least left t)
    (determined_then (TypeRead e c least left t.for_type.ty) as_it_is (ImplicationNext e c least t) (one_type_read e c least left t.for_type.ty) (one_implication e c least t))

-- functorial clusters
abbrev WithType : SoftType → Left → Result (Option SoftType) Refusal → Left → Type 0
WithType ty l o a = IsValue (Ok (Some ty)) l o a

abbrev ForTypeAs : Environment → Context → ℕ → Left → Option ForTypeTree → Result (Option SoftType) Refusal → Left → Type 0
ForTypeAs e c least left None o a = IsValue (Ok None) left o a
ForTypeAs e c least left (Some t) o a = ThenRead (TypeRead e c least left t.ty) as_it_is WithType o a

for_type_as : (e : Environment) (c : Context) (least : ℕ) (left : Left) (t : Option ForTypeTree) (o : Result (Option SoftType) Refusal) (a : Left) → ForTypeRead e c least left t o a → ForTypeAs e c least left t o a
for_type_as e c least left t o a he.no_type = (refl, refl)
for_type_as e c least left t o a (he.type_refused x r after h) = (Err r, after, h, refl)
for_type_as e c least left t o a (he.type_read x ty after h) = (Ok ty, after, h, (refl, refl))

one_for_type : (e : Environment) (c : Context) (least : ℕ) (left : Left) (t : Option ForTypeTree) → IsDetermined (ForTypeRead e c least left t)
one_for_type e c least left None = determined_by (ForTypeRead e c least left None) (ForTypeAs e c least left None) (for_type_as e c least left None) (determined_value (Ok None) left)
one_for_type e c least left (Some t) =
    determined_by (ForTypeRead e c least left (Some t)) (ForTypeAs e c least left (Some t)) (for_type_as e c least left (Some t))
    (determined_then (TypeRead e c least left t.ty) as_it_is WithType (one_type_read e c least left t.ty) (λ (ty : SoftType) (l : Left). determined_value (Ok (Some ty)) l))

abbrev WithTerm : Term → Option SoftType → List Adjective → Left → Result FunctorialCluster Refusal → Left → Type 0
WithTerm u ty xs l o a = IsValue (Ok (record { term = u; adjectives = xs; ty = ty })) l o a

abbrev OfTermNext : Environment → Context → ℕ → Term → AdjectivesData → Option SoftType → Left → Result FunctorialCluster Refusal → Left → Type 0
OfTermNext e c least u xs ty l o a = ThenRead (AdjectivesOfTermRead e c least u l xs) as_it_is (WithTerm u ty) o a

abbrev OfTermAs : Environment → Context → ℕ → Term → Left → FunctorialTree → Result FunctorialCluster Refusal → Left → Type 0
OfTermAs e c least u left t o a = ThenRead (ForTypeRead e c least left t.for_type) as_it_is (OfTermNext e c least u t.adjectives) o a

of_term_as : (e : Environment) (c : Context) (least : ℕ) (u : Term) (left : Left) (t : FunctorialTree) (o : Result FunctorialCluster Refusal) (a : Left) → OfTermRead e c least u left t o a → OfTermAs e c least u left t o a
of_term_as e c least u left t o a (he.type_refused r after h) = (Err r, after, h, refl)
of_term_as e c least u left t o a (he.adjectives_refused ty r between after h k) = (Ok ty, between, h, (Err r, after, k, refl))
of_term_as e c least u left t o a (he.both_read ty xs between after h k) = (Ok ty, between, h, (Ok xs, after, k, (refl, refl)))

one_with_term : (e : Environment) (c : Context) (least : ℕ) (t : FunctorialTree) (u : Term) (left : Left) → IsDetermined (OfTermRead e c least u left t)
one_with_term e c least t u left =
    determined_by (OfTermRead e c least u left t) (OfTermAs e c least u left t) (of_term_as e c least u left t)
    (determined_then (ForTypeRead e c least left t.for_type) as_it_is (OfTermNext e c least u t.adjectives) (one_for_type e c least left t.for_type)
    (λ (ty : Option SoftType) (l : Left). determined_then (AdjectivesOfTermRead e c least u l t.adjectives) as_it_is (WithTerm u ty) (one_of_term e c least u l t.adjectives)
    (λ (xs : List Adjective) (m : Left). determined_value (Ok (record { term = u; adjectives = xs; ty = ty })) m)))

abbrev FunctorialNext : Environment → Context → ℕ → FunctorialTree → Term → Left → Result FunctorialCluster Refusal → Left → Type 0
FunctorialNext e c least t u l o a = OfTermRead e c least u l t o a

abbrev FunctorialAs : Environment → Context → ℕ → Left → FunctorialTree → Result FunctorialCluster Refusal → Left → Type 0
FunctorialAs e c least left t o a = ThenRead (TermRead e c least left t.term) as_it_is (FunctorialNext e c least t) o a

functorial_as : (e : Environment) (c : Context) (least : ℕ) (left : Left) (t : FunctorialTree) (o : Result FunctorialCluster Refusal) (a : Left) → FunctorialRead e c least left t o a → FunctorialAs e c least left t o a
functorial_as e c least left t o a (he.term_refused r after h) = (Err r, after, h, refl)
functorial_as e c least left t o a (he.term_read u p between after h k) = (Ok u, between, h, k)

one_functorial : (e : Environment) (c : Context) (least : ℕ) (left : Left) (t : FunctorialTree) → IsDetermined (FunctorialRead e c least left t)
one_functorial e c least left t =
    determined_by (FunctorialRead e c least left t) (FunctorialAs e c least left t) (functorial_as e c least left t)
    (determined_then (TermRead e c least left t.term) as_it_is (FunctorialNext e c least t) (one_term_read e c least left t.term) (one_with_term e c least t))

-- clusters of any form: as that of the form
abbrev IsOf : {X : Type 0} → (Result X Refusal → Result (Option ReadCluster) Refusal) → (Result X Refusal → Left → Type 0) → Result (Option ReadCluster) Refusal → Left → Type 0
IsOf {X} form part o a = (q : Result X Refusal) × part q a × (o ≡ form q)

-- a form that refuses what is refused, and nothing else
record Keeps {X : Type 0} (form : Result X Refusal → Result (Option ReadCluster) Refusal) : Type 0 where
  refused : (r : Refusal) → form (Err r) ≡ Err r

kept_left : {X : Type 0} (form : Result X Refusal → Result (Option ReadCluster) Refusal) → Keeps form → (q : Result X Refusal) (a b : Left) → SameLeft q a b → SameLeft (form q) a b
kept_left form k (Err r) a b s = subst (λ (z : Result (Option ReadCluster) Refusal). SameLeft z a b) (sym (k.refused r)) tt
kept_left {X} form k (Ok x) a b s = same_any (form (Ok x)) a b s
  where
    same_any : (o : Result (Option ReadCluster) Refusal) (a b : Left) → a ≡ b → SameLeft o a b
    same_any (Ok y) a b e = e
    same_any (Err r) a b e = tt

one_of_form : {X : Type 0} (form : Result X Refusal → Result (Option ReadCluster) Refusal) (part : Result X Refusal → Left → Type 0) → Keeps form → IsDetermined part → IsDetermined (IsOf form part)
one_of_form {X} form part k one o p a b h j =
    let same : (h.0 ≡ j.0) × SameLeft h.0 a b = one h.0 j.0 a b h.1 j.1 in
    (h.2 ∙ (ap form same.0 ∙ sym j.2), subst (λ (z : Result (Option ReadCluster) Refusal). SameLeft z a b) (sym h.2) (kept_left form k h.0 a b same.1))

abbrev ClusterAs : Environment → Context → ℕ → Left → ClusterTree → Result (Option ReadCluster) Refusal → Left → Type 0
ClusterAs e c least left (tree.Existential t) o a = IsOf as_existential (ExistentialRead e c least left t) o a
ClusterAs e c least left (tree.Conditional t) o a = IsOf as_conditional (ConditionalRead e c least left t) o a
ClusterAs e c least left (tree.Functorial t) o a = IsOf as_functorial (FunctorialRead e c least left t) o a
ClusterAs e c least left (tree.Reduce t) o a = IsValue (Ok None) left o a
ClusterAs e c least left (tree.Identify t) o a = IsValue (Ok None) left o a

cluster_as : (e : Environment) (c : Context) (least : ℕ) (left : Left) (t : ClusterTree) (o : Result (Option ReadCluster) Refusal) (a : Left) → ClusterRead e c least left t o a → ClusterAs e c least left t o a
cluster_as e c least left t o a (he.existential x p after h) = (p, h, refl)
cluster_as e c least left t o a (he.conditional x p after h) = (p, h, refl)
cluster_as e c least left t o a (he.functorial x p after h) = (p, h, refl)
cluster_as e c least left t o a (he.reduction x) = (refl, refl)
cluster_as e c least left t o a (he.identification x) = (refl, refl)

one_as : (e : Environment) (c : Context) (least : ℕ) (left : Left) (t : ClusterTree) → IsDetermined (ClusterAs e c least left t)
one_as e c least left (tree.Existential t) = one_of_form as_existential (ExistentialRead e c least left t) (record { refused = λ r. refl }) (one_existential e c least left t)
one_as e c least left (tree.Conditional t) = one_of_form as_conditional (ConditionalRead e c least left t) (record { refused = λ r. refl }) (one_conditional e c least left t)
one_as e c least left (tree.Functorial t) = one_of_form as_functorial (FunctorialRead e c least left t) (record { refused = λ r. refl }) (one_functorial e c least left t)
one_as e c least left (tree.Reduce t) = determined_value (Ok None) left
one_as e c least left (tree.Identify t) = determined_value (Ok None) left

pub one_cluster : OneClusterLaw
one_cluster e c least left t = determined_by (ClusterRead e c least left t) (ClusterAs e c least left t) (cluster_as e c least left t) (one_as e c least left t)
