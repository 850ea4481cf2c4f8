-- Matching triggers, and the expressions of instances.
use Rattle.std.specs.Prelude.{◌≡◌, ◌<◌, ◌≤◌, ℕ, List, [], ◌∷◌, ◌++◌, length, map, take, Contains, Option, None, Some, slice_get}
use Rattle.mz_logic.specs.Term as term
use Rattle.mz_ground.specs.GroundExpression.{GroundExpression, TermExpression, AtomExpression, EquationExpression}
use Rattle.mz_ground.specs.Instance.{trigger_at, premises_at, conclusion_at, instance_nodes}
use Rattle.mz_ground.specs.Variables.{trigger_has}
use Rattle.mz_ground.specs.Layers.{most_nodes}
use Rattle.mz_ground.specs.Ground.{term_at, ground_terms, ground_atoms, ground_equations}
use Rattle.mz_ground.specs.Matches.{IsValue}
use Rattle.mz_ground.specs.Growth.{IsExpressionOfLiterals}
use Rattle.mz_ground.specs.declared.clause.Clause.{Clause}
use Rattle.mz_ground.specs.declared.trigger.Trigger.{Trigger}
use Rattle.mz_ground.specs.declared.trigger.Trigger.TheVariants as trigger
use Rattle.mz_ground.specs.declared.ground_part.Ground.{Ground}
use Rattle.mz_ground.specs.declared.layer_ends.LayerEnd.{LayerEnd}
use Rattle.mz_ground.specs.declared.expression_place.ExpressionPlace.{ExpressionPlace}
use Rattle.mz_ground.specs.declared.expression_place.ExpressionPlace.TheVariants.{Term, Atom}

abbrev pub expression_or_zero : Option GroundExpression → GroundExpression
expression_or_zero None = TermExpression (term.Const 0)
expression_or_zero (Some p) = p

-- the ground term or atom at a place
abbrev pub expression_at : Ground → ExpressionPlace → GroundExpression
expression_at g (Term k) = TermExpression (term_at (ground_terms g) k)
expression_at g (Atom k) = expression_or_zero (slice_get (ground_atoms g) k)

abbrev pub IsExpressionPlace : Ground → ExpressionPlace → Type 0
IsExpressionPlace g (Term k) = k < length g.terms
IsExpressionPlace g (Atom k) = k < length g.atoms

-- the places are those of the terms at which the trigger's instance is the expression, and of no others
pub record IsMatchAt (g : Ground) (c : Clause) (p : GroundExpression) (places : List ℕ) : Type 0 where
  pub arity : length places ≡ c.variables
  pub within : (k : ℕ) → Contains places k → k < length g.terms
  pub instance : trigger_at (map (term_at (ground_terms g)) places) c.trigger ≡ p
  pub only : (ts : List term.Term) → length ts ≡ c.variables → trigger_at ts c.trigger ≡ p → ts ≡ map (term_at (ground_terms g)) places

-- there are no such places exactly where no terms make the trigger's instance the expression
abbrev pub IsMatch : Ground → Clause → GroundExpression → Option (List ℕ) → Type 0
IsMatch g c p None = (ts : List term.Term) → length ts ≡ c.variables → trigger_at ts c.trigger ≡ p → ⊥
IsMatch g c p (Some places) = IsMatchAt g c p places

-- what stands for the index where the trigger's instance is the expression
pub record IsTriggerValue (g : Ground) (index : ℕ) (r : Trigger) (p : GroundExpression) (place : Option ℕ) : Type 0 where
  pub value : IsValue g.terms index (λ ts. trigger_at ts r ≡ p) (trigger_has index r) place

-- the places so far are those for the first indices
pub record MatchedBelow (g : Ground) (c : Clause) (p : GroundExpression) (index : ℕ) (places : List ℕ) : Type 0 where
  pub arity : length places ≡ index
  pub within : (k : ℕ) → Contains places k → k < length g.terms
  pub only : (ts : List term.Term) → length ts ≡ c.variables → trigger_at ts c.trigger ≡ p → take index ts ≡ map (term_at (ground_terms g)) places

-- the expression stands in an instance whose trigger is old and which isn't too large
pub record IsInstanceExpression (c : Clause) (old : GroundExpression → Type 0) (p : GroundExpression) : Type 0 where
  pub terms : List term.Term
  pub arity : length terms ≡ c.variables
  pub trigger : old (trigger_at terms c.trigger)
  pub nodes : instance_nodes c terms ≤ most_nodes
  pub expression : IsExpressionOfLiterals (premises_at c terms ++ conclusion_at c terms ∷ []) p

pub record IsAddedBy (cs : List Clause) (old : GroundExpression → Type 0) (p : GroundExpression) : Type 0 where
  pub clause : Clause
  pub among : Contains cs clause
  pub instance : IsInstanceExpression clause old p

-- the expression stands before the end of a layer
abbrev pub IsBefore : Ground → LayerEnd → GroundExpression → Type 0
IsBefore g e (TermExpression t) = Contains (take e.terms (ground_terms g)) t
IsBefore g e (AtomExpression s ts) = Contains (take e.atoms (ground_atoms g)) (AtomExpression s ts)
IsBefore g e (EquationExpression t u) = Contains (take e.equations (ground_equations g)) (EquationExpression t u)

pub record IsEndIn (g : Ground) (e : LayerEnd) : Type 0 where
  pub terms : e.terms ≤ length g.terms
  pub atoms : e.atoms ≤ length g.atoms
  pub equations : e.equations ≤ length g.equations

-- the one end stands in g, and not before the other
pub record IsSpan (g : Ground) (s e : LayerEnd) : Type 0 where
  pub end : IsEndIn g e
  pub terms : s.terms ≤ e.terms
  pub atoms : s.atoms ≤ e.atoms

-- the expression at a place
pub record IsExpressionAt (g : Ground) (at : ExpressionPlace) (p : GroundExpression) : Type 0 where
  pub is : p ≡ expression_at g at

-- the place of a term or of an atom, as the trigger is one
abbrev pub place_like : Trigger → ℕ → ExpressionPlace
place_like (trigger.Term t) k = Term k
place_like (trigger.Atom s us) k = Atom k

-- the expression stands at one of the places
pub record IsAmong (g : Ground) (r : Trigger) (places : List ℕ) (p : GroundExpression) : Type 0 where
  pub place : ℕ
  pub among : Contains places place
  pub is : p ≡ expression_at g (place_like r place)

-- the place stands behind an end of layers and before another
abbrev pub IsBetween : LayerEnd → LayerEnd → ExpressionPlace → Type 0
IsBetween s e (Term k) = (s.terms ≤ k) × (k < e.terms)
IsBetween s e (Atom k) = (s.atoms ≤ k) × (k < e.atoms)

-- the term or atom does
pub record IsNew (g : Ground) (s e : LayerEnd) (p : GroundExpression) : Type 0 where
  pub place : ExpressionPlace
  pub between : IsBetween s e place
  pub is : p ≡ expression_at g place
