-- Headings of registrations: what they are read to, and what the article has left then. A cluster's term is read first, then its type,
-- and then its adjectives from left to right. After a refusal anything may be left.
use Rattle.std.specs.Prelude.{ℕ, List, [], Option, Some, None, Result, Ok, Err}
use Rattle.mz_logic.specs.Term.{Term}
use Rattle.mz_core.specs.declared.adjective.Adjective.{Adjective}
use Rattle.mz_core.specs.declared.outcome.Left.{Left}
use Rattle.mz_core.specs.declared.soft_type.SoftType.{SoftType}
use Rattle.mz_context.specs.declared.context.Context.{Context}
use Rattle.mz_environment.specs.declared.environment.Environment.{Environment}
use Rattle.mz_names.specs.declared.refusal.Refusal.{Refusal}
use Rattle.mz_tree.specs.Trees.{AdjectivesData}
use Rattle.mz_tree_part.specs.declared.cluster.ForTypeTree.{ForTypeTree}
use Rattle.mz_tree_part.specs.declared.cluster.ExistentialTree.{ExistentialTree}
use Rattle.mz_tree_part.specs.declared.cluster.ConditionalTree.{ConditionalTree}
use Rattle.mz_tree_part.specs.declared.cluster.FunctorialTree.{FunctorialTree}
use Rattle.mz_tree_part.specs.declared.cluster.ReduceTree.{ReduceTree}
use Rattle.mz_tree_part.specs.declared.cluster.IdentifyTree.{IdentifyTree}
use Rattle.mz_tree_part.specs.declared.cluster.ClusterTree.{ClusterTree}
use Rattle.mz_tree_part.specs.declared.cluster.ClusterTree.TheVariants as tree
use Rattle.mz_resolve.specs.Calls.{TermRead, TypeRead}
use Rattle.mz_clusters.specs.Clusters.{RegisteredRead, AdjectivesOfTermRead, AdjectivesOfTypeRead}
use Rattle.mz_clusters.specs.declared.headings.ExistentialCluster.{ExistentialCluster}
use Rattle.mz_clusters.specs.declared.headings.ConditionalCluster.{ConditionalCluster}
use Rattle.mz_clusters.specs.declared.headings.FunctorialCluster.{FunctorialCluster}
use Rattle.mz_clusters.specs.declared.headings.ReadCluster.{ReadCluster}
use Rattle.mz_clusters.specs.declared.headings.ReadCluster.TheVariants as cluster

-- `cluster A T` or `cluster A for T`: nothing has to cover the type
pub data ExistentialRead (e : Environment) (c : Context) (least : ℕ) (left : Left) (t : ExistentialTree) : Result ExistentialCluster Refusal → Left → Type 0 where
  type_refused : (r : Refusal) (after : Left) → RegisteredRead e c least left t.ty (Err r) after → ExistentialRead e c least left t (Err r) after
  adjectives_refused : (ty : SoftType) (r : Refusal) (between after : Left) → RegisteredRead e c least left t.ty (Ok ty) between →
      AdjectivesOfTypeRead e c least ty between t.adjectives (Err r) after → ExistentialRead e c least left t (Err r) after
  both_read : (ty : SoftType) (xs : List Adjective) (between after : Left) → RegisteredRead e c least left t.ty (Ok ty) between →
      AdjectivesOfTypeRead e c least ty between t.adjectives (Ok xs) after → ExistentialRead e c least left t (Ok (record { adjectives = xs; ty = ty })) after

-- the adjectives in front of `->`, if there are any
pub data PremisesRead (e : Environment) (c : Context) (least : ℕ) (ty : SoftType) (left : Left) : Option AdjectivesData → Result (List Adjective) Refusal → Left → Type 0 where
  no_premises : PremisesRead e c least ty left None (Ok []) left
  premises : (xs : AdjectivesData) (o : Result (List Adjective) Refusal) (after : Left) → AdjectivesOfTypeRead e c least ty left xs o after → PremisesRead e c least ty left (Some xs) o after

-- the adjectives on both sides of it
pub data ImplicationRead (e : Environment) (c : Context) (least : ℕ) (ty : SoftType) (left : Left) (t : ConditionalTree) : Result ConditionalCluster Refusal → Left → Type 0 where
  premises_refused : (r : Refusal) (after : Left) → PremisesRead e c least ty left t.premises (Err r) after → ImplicationRead e c least ty left t (Err r) after
  conclusions_refused : (xs : List Adjective) (r : Refusal) (between after : Left) → PremisesRead e c least ty left t.premises (Ok xs) between →
      AdjectivesOfTypeRead e c least ty between t.adjectives (Err r) after → ImplicationRead e c least ty left t (Err r) after
  both_read : (xs ys : List Adjective) (between after : Left) → PremisesRead e c least ty left t.premises (Ok xs) between →
      AdjectivesOfTypeRead e c least ty between t.adjectives (Ok ys) after → ImplicationRead e c least ty left t (Ok (record { from = xs; to = ys; ty = ty })) after

-- `cluster A -> B for T`
pub data ConditionalRead (e : Environment) (c : Context) (least : ℕ) (left : Left) (t : ConditionalTree) : Result ConditionalCluster Refusal → Left → Type 0 where
  type_refused : (r : Refusal) (after : Left) → TypeRead e c least left t.for_type.ty (Err r) after → ConditionalRead e c least left t (Err r) after
  type_read : (ty : SoftType) (o : Result ConditionalCluster Refusal) (between after : Left) → TypeRead e c least left t.for_type.ty (Ok ty) between →
      ImplicationRead e c least ty between t o after → ConditionalRead e c least left t o after

-- the type behind `for`, if there is one
pub data ForTypeRead (e : Environment) (c : Context) (least : ℕ) (left : Left) : Option ForTypeTree → Result (Option SoftType) Refusal → Left → Type 0 where
  no_type : ForTypeRead e c least left None (Ok None) left
  type_refused : (t : ForTypeTree) (r : Refusal) (after : Left) → TypeRead e c least left t.ty (Err r) after → ForTypeRead e c least left (Some t) (Err r) after
  type_read : (t : ForTypeTree) (ty : SoftType) (after : Left) → TypeRead e c least left t.ty (Ok ty) after → ForTypeRead e c least left (Some t) (Ok (Some ty)) after

-- the type and the adjectives of the term
pub data OfTermRead (e : Environment) (c : Context) (least : ℕ) (u : Term) (left : Left) (t : FunctorialTree) : Result FunctorialCluster Refusal → Left → Type 0 where
  type_refused : (r : Refusal) (after : Left) → ForTypeRead e c least left t.for_type (Err r) after → OfTermRead e c least u left t (Err r) after
  adjectives_refused : (ty : Option SoftType) (r : Refusal) (between after : Left) → ForTypeRead e c least left t.for_type (Ok ty) between →
      AdjectivesOfTermRead e c least u between t.adjectives (Err r) after → OfTermRead e c least u left t (Err r) after
  both_read : (ty : Option SoftType) (xs : List Adjective) (between after : Left) → ForTypeRead e c least left t.for_type (Ok ty) between →
      AdjectivesOfTermRead e c least u between t.adjectives (Ok xs) after → OfTermRead e c least u left t (Ok (record { term = u; adjectives = xs; ty = ty })) after

-- `cluster t -> A` or `cluster t -> A for T`
pub data FunctorialRead (e : Environment) (c : Context) (least : ℕ) (left : Left) (t : FunctorialTree) : Result FunctorialCluster Refusal → Left → Type 0 where
  term_refused : (r : Refusal) (after : Left) → TermRead e c least left t.term (Err r) after → FunctorialRead e c least left t (Err r) after
  term_read : (u : Term) (o : Result FunctorialCluster Refusal) (between after : Left) → TermRead e c least left t.term (Ok u) between →
      OfTermRead e c least u between t o after → FunctorialRead e c least left t o after

-- a cluster of any of these forms; none of those that aren't built
abbrev pub as_existential : Result ExistentialCluster Refusal → Result (Option ReadCluster) Refusal
as_existential (Err r) = Err r
as_existential (Ok x) = Ok (Some (cluster.Existential x))

abbrev pub as_conditional : Result ConditionalCluster Refusal → Result (Option ReadCluster) Refusal
as_conditional (Err r) = Err r
as_conditional (Ok x) = Ok (Some (cluster.Conditional x))

abbrev pub as_functorial : Result FunctorialCluster Refusal → Result (Option ReadCluster) Refusal
as_functorial (Err r) = Err r
as_functorial (Ok x) = Ok (Some (cluster.Functorial x))

pub data ClusterRead (e : Environment) (c : Context) (least : ℕ) (left : Left) : ClusterTree → Result (Option ReadCluster) Refusal → Left → Type 0 where
  existential : (t : ExistentialTree) (o : Result ExistentialCluster Refusal) (after : Left) → ExistentialRead e c least left t o after → ClusterRead e c least left (tree.Existential t) (as_existential o) after
  conditional : (t : ConditionalTree) (o : Result ConditionalCluster Refusal) (after : Left) → ConditionalRead e c least left t o after → ClusterRead e c least left (tree.Conditional t) (as_conditional o) after
  functorial : (t : FunctorialTree) (o : Result FunctorialCluster Refusal) (after : Left) → FunctorialRead e c least left t o after → ClusterRead e c least left (tree.Functorial t) (as_functorial o) after
  reduction : (t : ReduceTree) → ClusterRead e c least left (tree.Reduce t) (Ok None) left
  identification : (t : IdentifyTree) → ClusterRead e c least left (tree.Identify t) (Ok None) left
