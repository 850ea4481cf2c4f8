-- The parts of clusters, which are expressions of their own: what they are read to, and what the article has left then.
use Rattle.std.specs.Prelude.{ℕ, List, [], ◌∷◌, ◌++◌, Result, Ok, Err}
use Rattle.mz_logic.specs.Term.{Term, Const}
use Rattle.mz_core.specs.declared.adjective.Adjective.{Adjective}
use Rattle.mz_core.specs.declared.outcome.Left.{Left}
use Rattle.mz_core.specs.declared.soft_type.SoftType.{SoftType}
use Rattle.mz_context.specs.Context.{next}
use Rattle.mz_context.specs.declared.context.Context.{Context}
use Rattle.mz_environment.specs.declared.environment.Environment.{Environment}
use Rattle.mz_names.specs.declared.refusal.Refusal.{Refusal}
use Rattle.mz_choice.specs.Fresh.{with_fresh}
use Rattle.mz_choice.specs.declared.choice.Wanted.{Wanted}
use Rattle.mz_choice.specs.declared.choice.Wanted.TheVariants.{AdjectiveOf, AdjectiveOfFresh}
use Rattle.mz_sizes.specs.Sizes.{adjective_nodes, type_nodes}
use Rattle.mz_tree.specs.Trees.{TypeData, AdjectiveData, AdjectivesData}
use Rattle.mz_tree.specs.Places.{first_place}
use Rattle.mz_tree.specs.Spell.{spell_type, spell_adjective}
use Rattle.mz_terms.specs.Adjectives.{ReadsAdjective}
use Rattle.mz_terms.specs.Types.{ReadsRegistered}
use Rattle.mz_formulas.specs.Atoms.{listed_adjectives}
use Rattle.mz_resolve.specs.Calls.{Counted}

-- the type of an existential registration, whose adjectives nothing has to cover. It counts as other types do
abbrev pub RegisteredRead : Environment → Context → ℕ → Left → TypeData → Result SoftType Refusal → Left → Type 0
RegisteredRead e c least left ty = Counted (ReadsRegistered e c least ty) type_nodes (first_place (spell_type ty)) left

-- an adjective of a cluster that is wanted of the subject. It is part of no other expression: it counts one and its arguments' nodes
abbrev pub AdjectiveRead : Environment → Context → ℕ → Wanted → Term → Left → AdjectiveData → Result Adjective Refusal → Left → Type 0
AdjectiveRead e c least wanted subject left a = Counted (ReadsAdjective e c least wanted subject a) adjective_nodes (first_place (spell_adjective a)) left

-- adjectives from left to right, behind those that were read. After a refusal anything may be left
pub data AdjectivesReadBehind (e : Environment) (c : Context) (least : ℕ) (wanted : Wanted) (subject : Term) : Left → List AdjectiveData → List Adjective → Result (List Adjective) Refusal → Left → Type 0 where
  no_more : (left : Left) (before : List Adjective) → AdjectivesReadBehind e c least wanted subject left [] before (Ok before) left
  one_refused : (left after : Left) (a : AdjectiveData) (xs : List AdjectiveData) (before : List Adjective) (r : Refusal) →
      AdjectiveRead e c least wanted subject left a (Err r) after → AdjectivesReadBehind e c least wanted subject left (a ∷ xs) before (Err r) after
  one_read : (left between after : Left) (a : AdjectiveData) (xs : List AdjectiveData) (before : List Adjective) (b : Adjective) (o : Result (List Adjective) Refusal) →
      AdjectiveRead e c least wanted subject left a (Ok b) between → AdjectivesReadBehind e c least wanted subject between xs (before ++ b ∷ []) o after →
      AdjectivesReadBehind e c least wanted subject left (a ∷ xs) before o after

-- the adjectives of a tree
abbrev pub listed : AdjectivesData → List AdjectiveData
listed xs = xs.first ∷ listed_adjectives xs.more

abbrev pub AdjectivesRead : Environment → Context → ℕ → Wanted → Term → Left → AdjectivesData → Result (List Adjective) Refusal → Left → Type 0
AdjectivesRead e c least wanted subject left xs = AdjectivesReadBehind e c least wanted subject left (listed xs) []

-- a cluster's adjectives: those of its term
abbrev pub AdjectivesOfTermRead : Environment → Context → ℕ → Term → Left → AdjectivesData → Result (List Adjective) Refusal → Left → Type 0
AdjectivesOfTermRead e c least t = AdjectivesRead e c least (AdjectiveOf t) t

-- or those of a fresh constant of its type
abbrev pub AdjectivesOfTypeRead : Environment → Context → ℕ → SoftType → Left → AdjectivesData → Result (List Adjective) Refusal → Left → Type 0
AdjectivesOfTypeRead e c least ty = AdjectivesRead e (with_fresh c ty) least (AdjectiveOfFresh (next c)) (Const (next c))
