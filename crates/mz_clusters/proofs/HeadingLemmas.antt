-- What the code of headings tells.
use Rattle.std.proofs.Common.{◌≡◌, ℕ, List, [], sym, subst, Option, Some, None}
use Rattle.std.specs.Prelude.{Result, Ok, Err}
use Rattle.mz_logic.specs.Term.{Term}
use Rattle.mz_core.specs.declared.adjective.Adjective.{Adjective}
use Rattle.mz_core.specs.declared.outcome.Left.{Left}
use Rattle.mz_core.specs.declared.soft_type.SoftType.{SoftType}
use Rattle.mz_context.specs.declared.context.Context.{Context}
use Rattle.mz_environment.specs.declared.environment.Environment.{Environment}
use Rattle.mz_names.specs.declared.refusal.Refusal.{Refusal}
use Rattle.mz_tree.specs.Trees.{AdjectivesData}
use Rattle.mz_tree_part.specs.declared.cluster.ForTypeTree.{ForTypeTree}
use Rattle.mz_tree_part.specs.declared.cluster.ExistentialTree.{ExistentialTree}
use Rattle.mz_tree_part.specs.declared.cluster.ConditionalTree.{ConditionalTree}
use Rattle.mz_tree_part.specs.declared.cluster.FunctorialTree.{FunctorialTree}
use Rattle.mz_tree_part.specs.declared.cluster.ReduceTree.{ReduceTree}
use Rattle.mz_tree_part.specs.declared.cluster.IdentifyTree.{IdentifyTree}
use Rattle.mz_tree_part.specs.declared.cluster.ClusterTree.{ClusterTree}
use Rattle.mz_tree_part.specs.declared.cluster.ClusterTree.TheVariants as tree
use Rattle.mz_resolve.specs.Answers.{OnRead}
use Rattle.mz_resolve.specs.Calls.{TermRead, TypeRead}
use Rattle.mz_resolve.specs.declared.resolve_fault.ResolveFault.{ResolveFault}
use Rattle.mz_parts.proofs.ReadLemmas.{read_by, refused_by, read_more}
use Rattle.mz_clusters.specs.Clusters.{RegisteredRead, AdjectivesOfTermRead, AdjectivesOfTypeRead}
use Rattle.mz_clusters.specs.Headings as he
use Rattle.mz_clusters.specs.Headings.{ExistentialRead, PremisesRead, ImplicationRead, ConditionalRead, ForTypeRead, OfTermRead, FunctorialRead, ClusterRead}
use Rattle.mz_clusters.specs.declared.headings.ExistentialCluster.{ExistentialCluster}
use Rattle.mz_clusters.specs.declared.headings.ConditionalCluster.{ConditionalCluster}
use Rattle.mz_clusters.specs.declared.headings.FunctorialCluster.{FunctorialCluster}
use Rattle.mz_clusters.specs.declared.headings.ReadCluster.{ReadCluster}
use Rattle.mz_clusters.specs.declared.headings.ReadCluster.TheVariants as cluster

-- existential clusters
pub told_no_type : (e : Environment) (c : Context) (least : ℕ) (left after : Left) (t : ExistentialTree) (p : Result SoftType ResolveFault) (f : ResolveFault) →
    OnRead p (λ o. RegisteredRead e c least left t.ty o after) → p ≡ Err f → OnRead {X = ExistentialCluster} (Err f) (λ o. ExistentialRead e c least left t o after)
told_no_type e c least left after t p f h ep =
    let P : Result SoftType Refusal → Type 0 = λ o. RegisteredRead e c least left t.ty o after in
    let Q : Result ExistentialCluster Refusal → Type 0 = λ o. ExistentialRead e c least left t o after in
    refused_by P Q p f h ep (λ r k. he.type_refused r after k)

pub told_no_adjectives : (e : Environment) (c d : Context) (least : ℕ) (left between after : Left) (t : ExistentialTree) (p : Result SoftType ResolveFault) (ty : SoftType) (q : Result (List Adjective) ResolveFault) (f : ResolveFault) →
    OnRead p (λ o. RegisteredRead e c least left t.ty o between) → p ≡ Ok ty → d ≡ c → OnRead q (λ o. AdjectivesOfTypeRead e d least ty between t.adjectives o after) → q ≡ Err f →
    OnRead {X = ExistentialCluster} (Err f) (λ o. ExistentialRead e c least left t o after)
told_no_adjectives e c d least left between after t p ty q f h ep ed k eq =
    let P : Result SoftType Refusal → Type 0 = λ o. RegisteredRead e c least left t.ty o between in
    let R : Result (List Adjective) Refusal → Type 0 = λ o. AdjectivesOfTypeRead e d least ty between t.adjectives o after in
    let Q : Result ExistentialCluster Refusal → Type 0 = λ o. ExistentialRead e c least left t o after in
    refused_by R Q q f k eq (λ r j. he.adjectives_refused ty r between after (read_by P p ty h ep) (subst (λ (x : Context). AdjectivesOfTypeRead e x least ty between t.adjectives (Err r) after) ed j))

pub told_existential : (e : Environment) (c d : Context) (least : ℕ) (left between after : Left) (t : ExistentialTree) (p : Result SoftType ResolveFault) (ty : SoftType) (q : Result (List Adjective) ResolveFault) (xs : List Adjective) →
    OnRead p (λ o. RegisteredRead e c least left t.ty o between) → p ≡ Ok ty → d ≡ c → OnRead q (λ o. AdjectivesOfTypeRead e d least ty between t.adjectives o after) → q ≡ Ok xs →
    ExistentialRead e c least left t (Ok (record { adjectives = xs; ty = ty })) after
told_existential e c d least left between after t p ty q xs h ep ed k eq =
    let P : Result SoftType Refusal → Type 0 = λ o. RegisteredRead e c least left t.ty o between in
    let R : Result (List Adjective) Refusal → Type 0 = λ o. AdjectivesOfTypeRead e d least ty between t.adjectives o after in
    he.both_read ty xs between after (read_by P p ty h ep) (subst (λ (x : Context). AdjectivesOfTypeRead e x least ty between t.adjectives (Ok xs) after) ed (read_by R q xs k eq))

pub ruleset existential_rules = (told_no_type, told_no_adjectives, told_existential)

-- what stands in front of `->`
pub told_no_premises : (e : Environment) (c : Context) (least : ℕ) (ty : SoftType) (left : Left) (t : Option AdjectivesData) (xs : List Adjective) → t ≡ None → xs ≡ [] → PremisesRead e c least ty left t (Ok xs) left
told_no_premises e c least ty left t xs et ex =
    subst (λ x. PremisesRead e c least ty left x (Ok xs) left) (sym et) (subst (λ ys. PremisesRead e c least ty left None (Ok ys) left) (sym ex) he.no_premises)

pub told_premises : (e : Environment) (c : Context) (least : ℕ) (ty : SoftType) (left after : Left) (t : Option AdjectivesData) (xs : AdjectivesData) (p : Result (List Adjective) ResolveFault) → t ≡ Some xs →
    OnRead p (λ o. AdjectivesOfTypeRead e c least ty left xs o after) → OnRead p (λ o. PremisesRead e c least ty left t o after)
told_premises e c least ty left after t xs p et h =
    let P : Result (List Adjective) Refusal → Type 0 = λ o. AdjectivesOfTypeRead e c least ty left xs o after in
    let Q : Result (List Adjective) Refusal → Type 0 = λ o. PremisesRead e c least ty left t o after in
    read_more P Q p h (λ o k. subst (λ x. PremisesRead e c least ty left x o after) (sym et) (he.premises xs o after k))

pub ruleset premise_rules = (told_no_premises, told_premises)

-- conditional clusters
pub told_premises_refused : (e : Environment) (c : Context) (least : ℕ) (ty : SoftType) (left after : Left) (t : ConditionalTree) (p : Result (List Adjective) ResolveFault) (f : ResolveFault) →
    OnRead p (λ o. PremisesRead e c least ty left t.premises o after) → p ≡ Err f → OnRead {X = ConditionalCluster} (Err f) (λ o. ImplicationRead e c least ty left t o after)
told_premises_refused e c least ty left after t p f h ep =
    let P : Result (List Adjective) Refusal → Type 0 = λ o. PremisesRead e c least ty left t.premises o after in
    let Q : Result ConditionalCluster Refusal → Type 0 = λ o. ImplicationRead e c least ty left t o after in
    refused_by P Q p f h ep (λ r k. he.premises_refused r after k)

pub told_conclusions_refused : (e : Environment) (c d : Context) (least : ℕ) (ty : SoftType) (left between after : Left) (t : ConditionalTree) (p : Result (List Adjective) ResolveFault) (xs : List Adjective) (q : Result (List Adjective) ResolveFault) (f : ResolveFault) →
    OnRead p (λ o. PremisesRead e c least ty left t.premises o between) → p ≡ Ok xs → d ≡ c → OnRead q (λ o. AdjectivesOfTypeRead e d least ty between t.adjectives o after) → q ≡ Err f →
    OnRead {X = ConditionalCluster} (Err f) (λ o. ImplicationRead e c least ty left t o after)
told_conclusions_refused e c d least ty left between after t p xs q f h ep ed k eq =
    let P : Result (List Adjective) Refusal → Type 0 = λ o. PremisesRead e c least ty left t.premises o between in
    let R : Result (List Adjective) Refusal → Type 0 = λ o. AdjectivesOfTypeRead e d least ty between t.adjectives o after in
    let Q : Result ConditionalCluster Refusal → Type 0 = λ o. ImplicationRead e c least ty left t o after in
    refused_by R Q q f k eq (λ r j. he.conclusions_refused xs r between after (read_by P p xs h ep) (subst (λ (x : Context). AdjectivesOfTypeRead e x least ty between t.adjectives (Err r) after) ed j))

pub told_implication : (e : Environment) (c d : Context) (least : ℕ) (ty : SoftType) (left between after : Left) (t : ConditionalTree) (p : Result (List Adjective) ResolveFault) (xs : List Adjective) (q : Result (List Adjective) ResolveFault) (ys : List Adjective) →
    OnRead p (λ o. PremisesRead e c least ty left t.premises o between) → p ≡ Ok xs → d ≡ c → OnRead q (λ o. AdjectivesOfTypeRead e d least ty between t.adjectives o after) → q ≡ Ok ys →
    ImplicationRead e c least ty left t (Ok (record { from = xs; to = ys; ty = ty })) after
told_implication e c d least ty left between after t p xs q ys h ep ed k eq =
    let P : Result (List Adjective) Refusal → Type 0 = λ o. PremisesRead e c least ty left t.premises o between in
    let R : Result (List Adjective) Refusal → Type 0 = λ o. AdjectivesOfTypeRead e d least ty between t.adjectives o after in
    he.both_read xs ys between after (read_by P p xs h ep) (subst (λ (x : Context). AdjectivesOfTypeRead e x least ty between t.adjectives (Ok ys) after) ed (read_by R q ys k eq))

pub ruleset implication_rules = (told_premises_refused, told_conclusions_refused, told_implication)

pub told_type_refused : (e : Environment) (c : Context) (least : ℕ) (left after : Left) (t : ConditionalTree) (p : Result SoftType ResolveFault) (f : ResolveFault) →
    OnRead p (λ o. TypeRead e c least left t.for_type.ty o after) → p ≡ Err f → OnRead {X = ConditionalCluster} (Err f) (λ o. ConditionalRead e c least left t o after)
told_type_refused e c least left after t p f h ep =
    let P : Result SoftType Refusal → Type 0 = λ o. TypeRead e c least left t.for_type.ty o after in
    let Q : Result ConditionalCluster Refusal → Type 0 = λ o. ConditionalRead e c least left t o after in
    refused_by P Q p f h ep (λ r k. he.type_refused r after k)

pub told_conditional : (e : Environment) (c d : Context) (least : ℕ) (left between after : Left) (t : ConditionalTree) (p : Result SoftType ResolveFault) (ty : SoftType) (a : Result ConditionalCluster ResolveFault) →
    OnRead p (λ o. TypeRead e c least left t.for_type.ty o between) → p ≡ Ok ty → d ≡ c → OnRead a (λ o. ImplicationRead e d least ty between t o after) → OnRead a (λ o. ConditionalRead e c least left t o after)
told_conditional e c d least left between after t p ty a h ep ed k =
    let P : Result SoftType Refusal → Type 0 = λ o. TypeRead e c least left t.for_type.ty o between in
    let R : Result ConditionalCluster Refusal → Type 0 = λ o. ImplicationRead e d least ty between t o after in
    let Q : Result ConditionalCluster Refusal → Type 0 = λ o. ConditionalRead e c least left t o after in
    read_more R Q a k (λ o j. he.type_read ty o between after (read_by P p ty h ep) (subst (λ (x : Context). ImplicationRead e x least ty between t o after) ed j))

pub ruleset conditional_rules = (told_type_refused, told_conditional)

-- functorial clusters
pub told_for_none : (e : Environment) (c : Context) (least : ℕ) (left : Left) (t : Option ForTypeTree) → t ≡ None → ForTypeRead e c least left t (Ok None) left
told_for_none e c least left t et = subst (λ x. ForTypeRead e c least left x (Ok None) left) (sym et) he.no_type

pub told_for_refused : (e : Environment) (c : Context) (least : ℕ) (left after : Left) (t : Option ForTypeTree) (x : ForTypeTree) (p : Result SoftType ResolveFault) (f : ResolveFault) → t ≡ Some x →
    OnRead p (λ o. TypeRead e c least left x.ty o after) → p ≡ Err f → OnRead {X = Option SoftType} (Err f) (λ o. ForTypeRead e c least left t o after)
told_for_refused e c least left after t x p f et h ep =
    let P : Result SoftType Refusal → Type 0 = λ o. TypeRead e c least left x.ty o after in
    let Q : Result (Option SoftType) Refusal → Type 0 = λ o. ForTypeRead e c least left t o after in
    refused_by P Q p f h ep (λ r k. subst (λ y. ForTypeRead e c least left y (Err r) after) (sym et) (he.type_refused x r after k))

pub told_for : (e : Environment) (c : Context) (least : ℕ) (left after : Left) (t : Option ForTypeTree) (x : ForTypeTree) (p : Result SoftType ResolveFault) (ty : SoftType) → t ≡ Some x →
    OnRead p (λ o. TypeRead e c least left x.ty o after) → p ≡ Ok ty → ForTypeRead e c least left t (Ok (Some ty)) after
told_for e c least left after t x p ty et h ep =
    let P : Result SoftType Refusal → Type 0 = λ o. TypeRead e c least left x.ty o after in
    subst (λ y. ForTypeRead e c least left y (Ok (Some ty)) after) (sym et) (he.type_read x ty after (read_by P p ty h ep))

pub ruleset for_rules = (told_for_none, told_for_refused, told_for)

pub told_of_term_no_type : (e : Environment) (c : Context) (least : ℕ) (u : Term) (left after : Left) (t : FunctorialTree) (p : Result (Option SoftType) ResolveFault) (f : ResolveFault) →
    OnRead p (λ o. ForTypeRead e c least left t.for_type o after) → p ≡ Err f → OnRead {X = FunctorialCluster} (Err f) (λ o. OfTermRead e c least u left t o after)
told_of_term_no_type e c least u left after t p f h ep =
    let P : Result (Option SoftType) Refusal → Type 0 = λ o. ForTypeRead e c least left t.for_type o after in
    let Q : Result FunctorialCluster Refusal → Type 0 = λ o. OfTermRead e c least u left t o after in
    refused_by P Q p f h ep (λ r k. he.type_refused r after k)

pub told_of_term_refused : (e : Environment) (c d : Context) (least : ℕ) (u : Term) (left between after : Left) (t : FunctorialTree) (p : Result (Option SoftType) ResolveFault) (ty : Option SoftType) (q : Result (List Adjective) ResolveFault) (f : ResolveFault) →
    OnRead p (λ o. ForTypeRead e c least left t.for_type o between) → p ≡ Ok ty → d ≡ c → OnRead q (λ o. AdjectivesOfTermRead e d least u between t.adjectives o after) → q ≡ Err f →
    OnRead {X = FunctorialCluster} (Err f) (λ o. OfTermRead e c least u left t o after)
told_of_term_refused e c d least u left between after t p ty q f h ep ed k eq =
    let P : Result (Option SoftType) Refusal → Type 0 = λ o. ForTypeRead e c least left t.for_type o between in
    let R : Result (List Adjective) Refusal → Type 0 = λ o. AdjectivesOfTermRead e d least u between t.adjectives o after in
    let Q : Result FunctorialCluster Refusal → Type 0 = λ o. OfTermRead e c least u left t o after in
    refused_by R Q q f k eq (λ r j. he.adjectives_refused ty r between after (read_by P p ty h ep) (subst (λ (x : Context). AdjectivesOfTermRead e x least u between t.adjectives (Err r) after) ed j))

pub told_of_term_read : (e : Environment) (c d : Context) (least : ℕ) (u : Term) (left between after : Left) (t : FunctorialTree) (p : Result (Option SoftType) ResolveFault) (ty : Option SoftType) (q : Result (List Adjective) ResolveFault) (xs : List Adjective) →
    OnRead p (λ o. ForTypeRead e c least left t.for_type o between) → p ≡ Ok ty → d ≡ c → OnRead q (λ o. AdjectivesOfTermRead e d least u between t.adjectives o after) → q ≡ Ok xs →
    OfTermRead e c least u left t (Ok (record { term = u; adjectives = xs; ty = ty })) after
told_of_term_read e c d least u left between after t p ty q xs h ep ed k eq =
    let P : Result (Option SoftType) Refusal → Type 0 = λ o. ForTypeRead e c least left t.for_type o between in
    let R : Result (List Adjective) Refusal → Type 0 = λ o. AdjectivesOfTermRead e d least u between t.adjectives o after in
    he.both_read ty xs between after (read_by P p ty h ep) (subst (λ (x : Context). AdjectivesOfTermRead e x least u between t.adjectives (Ok xs) after) ed (read_by R q xs k eq))

pub ruleset of_term_rules = (told_of_term_no_type, told_of_term_refused, told_of_term_read)

pub told_term_refused : (e : Environment) (c : Context) (least : ℕ) (left after : Left) (t : FunctorialTree) (p : Result Term ResolveFault) (f : ResolveFault) →
    OnRead p (λ o. TermRead e c least left t.term o after) → p ≡ Err f → OnRead {X = FunctorialCluster} (Err f) (λ o. FunctorialRead e c least left t o after)
told_term_refused e c least left after t p f h ep =
    let P : Result Term Refusal → Type 0 = λ o. TermRead e c least left t.term o after in
    let Q : Result FunctorialCluster Refusal → Type 0 = λ o. FunctorialRead e c least left t o after in
    refused_by P Q p f h ep (λ r k. he.term_refused r after k)

pub told_functorial : (e : Environment) (c : Context) (least : ℕ) (left between after : Left) (t : FunctorialTree) (p : Result Term ResolveFault) (u : Term) (a : Result FunctorialCluster ResolveFault) →
    OnRead p (λ o. TermRead e c least left t.term o between) → p ≡ Ok u → OnRead a (λ o. OfTermRead e c least u between t o after) → OnRead a (λ o. FunctorialRead e c least left t o after)
told_functorial e c least left between after t p u a h ep k =
    let P : Result Term Refusal → Type 0 = λ o. TermRead e c least left t.term o between in
    let R : Result FunctorialCluster Refusal → Type 0 = λ o. OfTermRead e c least u between t o after in
    let Q : Result FunctorialCluster Refusal → Type 0 = λ o. FunctorialRead e c least left t o after in
    read_more R Q a k (λ o j. he.term_read u o between after (read_by P p u h ep) j)

pub ruleset functorial_rules = (told_term_refused, told_functorial)

-- clusters of any form
pub told_existential_refused : (e : Environment) (c : Context) (least : ℕ) (left after : Left) (a : ClusterTree) (t : ExistentialTree) (p : Result ExistentialCluster ResolveFault) (f : ResolveFault) → a ≡ tree.Existential t →
    OnRead p (λ o. ExistentialRead e c least left t o after) → p ≡ Err f → OnRead {X = Option ReadCluster} (Err f) (λ o. ClusterRead e c least left a o after)
told_existential_refused e c least left after a t p f ea h ep =
    let P : Result ExistentialCluster Refusal → Type 0 = λ o. ExistentialRead e c least left t o after in
    let Q : Result (Option ReadCluster) Refusal → Type 0 = λ o. ClusterRead e c least left a o after in
    refused_by P Q p f h ep (λ r k. subst (λ x. ClusterRead e c least left x (Err r) after) (sym ea) (he.existential t (Err r) after k))

pub told_existential_read : (e : Environment) (c : Context) (least : ℕ) (left after : Left) (a : ClusterTree) (t : ExistentialTree) (p : Result ExistentialCluster ResolveFault) (x : ExistentialCluster) → a ≡ tree.Existential t →
    OnRead p (λ o. ExistentialRead e c least left t o after) → p ≡ Ok x → ClusterRead e c least left a (Ok (Some (cluster.Existential x))) after
told_existential_read e c least left after a t p x ea h ep =
    let P : Result ExistentialCluster Refusal → Type 0 = λ o. ExistentialRead e c least left t o after in
    subst (λ y. ClusterRead e c least left y (Ok (Some (cluster.Existential x))) after) (sym ea) (he.existential t (Ok x) after (read_by P p x h ep))

pub told_conditional_refused : (e : Environment) (c : Context) (least : ℕ) (left after : Left) (a : ClusterTree) (t : ConditionalTree) (p : Result ConditionalCluster ResolveFault) (f : ResolveFault) → a ≡ tree.Conditional t →
    OnRead p (λ o. ConditionalRead e c least left t o after) → p ≡ Err f → OnRead {X = Option ReadCluster} (Err f) (λ o. ClusterRead e c least left a o after)
told_conditional_refused e c least left after a t p f ea h ep =
    let P : Result ConditionalCluster Refusal → Type 0 = λ o. ConditionalRead e c least left t o after in
    let Q : Result (Option ReadCluster) Refusal → Type 0 = λ o. ClusterRead e c least left a o after in
    refused_by P Q p f h ep (λ r k. subst (λ x. ClusterRead e c least left x (Err r) after) (sym ea) (he.conditional t (Err r) after k))

pub told_conditional_read : (e : Environment) (c : Context) (least : ℕ) (left after : Left) (a : ClusterTree) (t : ConditionalTree) (p : Result ConditionalCluster ResolveFault) (x : ConditionalCluster) → a ≡ tree.Conditional t →
    OnRead p (λ o. ConditionalRead e c least left t o after) → p ≡ Ok x → ClusterRead e c least left a (Ok (Some (cluster.Conditional x))) after
told_conditional_read e c least left after a t p x ea h ep =
    let P : Result ConditionalCluster Refusal → Type 0 = λ o. ConditionalRead e c least left t o after in
    subst (λ y. ClusterRead e c least left y (Ok (Some (cluster.Conditional x))) after) (sym ea) (he.conditional t (Ok x) after (read_by P p x h ep))

pub told_functorial_refused : (e : Environment) (c : Context) (least : ℕ) (left after : Left) (a : ClusterTree) (t : FunctorialTree) (p : Result FunctorialCluster ResolveFault) (f : ResolveFault) → a ≡ tree.Functorial t →
    OnRead p (λ o. FunctorialRead e c least left t o after) → p ≡ Err f → OnRead {X = Option ReadCluster} (Err f) (λ o. ClusterRead e c least left a o after)
told_functorial_refused e c least left after a t p f ea h ep =
    let P : Result FunctorialCluster Refusal → Type 0 = λ o. FunctorialRead e c least left t o after in
    let Q : Result (Option ReadCluster) Refusal → Type 0 = λ o. ClusterRead e c least left a o after in
    refused_by P Q p f h ep (λ r k. subst (λ x. ClusterRead e c least left x (Err r) after) (sym ea) (he.functorial t (Err r) after k))

pub told_functorial_read : (e : Environment) (c : Context) (least : ℕ) (left after : Left) (a : ClusterTree) (t : FunctorialTree) (p : Result FunctorialCluster ResolveFault) (x : FunctorialCluster) → a ≡ tree.Functorial t →
    OnRead p (λ o. FunctorialRead e c least left t o after) → p ≡ Ok x → ClusterRead e c least left a (Ok (Some (cluster.Functorial x))) after
told_functorial_read e c least left after a t p x ea h ep =
    let P : Result FunctorialCluster Refusal → Type 0 = λ o. FunctorialRead e c least left t o after in
    subst (λ y. ClusterRead e c least left y (Ok (Some (cluster.Functorial x))) after) (sym ea) (he.functorial t (Ok x) after (read_by P p x h ep))

pub told_reduction : (e : Environment) (c : Context) (least : ℕ) (left : Left) (a : ClusterTree) (t : ReduceTree) → a ≡ tree.Reduce t → ClusterRead e c least left a (Ok None) left
told_reduction e c least left a t ea = subst (λ x. ClusterRead e c least left x (Ok None) left) (sym ea) (he.reduction t)

pub told_identification : (e : Environment) (c : Context) (least : ℕ) (left : Left) (a : ClusterTree) (t : IdentifyTree) → a ≡ tree.Identify t → ClusterRead e c least left a (Ok None) left
told_identification e c least left a t ea = subst (λ x. ClusterRead e c least left x (Ok None) left) (sym ea) (he.identification t)

pub ruleset cluster_rules = (told_existential_refused, told_existential_read, told_conditional_refused, told_conditional_read, told_functorial_refused, told_functorial_read, told_reduction, told_identification)
