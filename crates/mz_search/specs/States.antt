-- States of the search: goals, with the classes that their variables have so far.
use Rattle.std.specs.Prelude.{◌≡◌, ℕ, ◌+◌, ◌≤◌, ◌<◌, ◌⊎◌, Bool, true, List, [], ◌∷◌, ◌++◌, map, length, IsPermutation, if◌then◌else◌}
use Rattle.std.specs.List.{AllByRecursion}
use Rattle.mz_search.specs.declared.branch.Branch.{Branch}
use Rattle.mz_search.specs.declared.parted.Parts.{Parts}
use Rattle.mz_search.specs.declared.settle.Choice.{Choice}
use Rattle.mz_search.specs.Kept.{goal_kept}
use Rattle.mz_match.specs.Rows.{SomeOf}
use Rattle.mz_match.specs.Slots.{Assignment}
use Rattle.mz_match.specs.Fitting.{Fits, Covered}
use Rattle.mz_match.specs.Places.{Agrees, Extends}
use Rattle.mz_search.specs.Goals.{Known, Goal, goal_of, Meets, IsBelow, size_of, sizes}

-- goals, and classes at places
abbrev pub State : Type 0
State = List Goal × Assignment

abbrev pub state_of : Branch → State
state_of b = (map goal_of b.goals.items, b.assignment)

-- some classes that agree with those so far do what all goals ask for; the goals' order says nothing
unfoldable pub Solvable : Known → List Goal → Assignment → Type 0
Solvable k gs e = (a : ℕ → ℕ) × (Agrees e a × AllByRecursion (Meets k a) gs)

-- the goals' variables have their places among those of the state
abbrev pub IsWithin : State → Type 0
IsWithin s = AllByRecursion (IsBelow (length s.1)) s.0

-- a state within its places and smaller than n
pub record IsSmaller (e : Assignment) (n : ℕ) (s : State) : Type 0 where
  pub places : length e ≤ length s.1
  pub within : AllByRecursion (IsBelow (length s.1)) s.0
  pub smaller : sizes s.0 < n

-- what the goal asks for is asked by one of the states, whatever other goals there are
pub record AreBranches (k : Known) (g : Goal) (e : Assignment) (bs : List State) : Type 0 where
  pub there : (rest : List Goal) → AllByRecursion (IsBelow (length e)) rest → SomeOf (λ b. Solvable k (b.0 ++ rest) b.1) bs → Solvable k (g ∷ rest) e
  pub back : (rest : List Goal) → AllByRecursion (IsBelow (length e)) rest → Solvable k (g ∷ rest) e → SomeOf (λ b. Solvable k (b.0 ++ rest) b.1) bs
  pub each : AllByRecursion (IsSmaller e (size_of g)) bs

-- a goal alone, or nothing where no classes do what it asks for
abbrev pub IsPart : Known → Goal → Assignment → List State → Type 0
IsPart k g e bs = (bs ≡ (g ∷ [], e) ∷ []) ⊎ ((bs ≡ []) × ((a : ℕ → ℕ) → Agrees e a → Meets k a g → ⊥))

-- the classes of the assignment at the places of the variables are taken over where they agree with those so far
abbrev pub IsPushed : List ℕ → Assignment → Assignment → List State → List State → Type 0
IsPushed scope e l before after = (d : Assignment) × (b : Bool) × Extends (λ a. Fits l (map a scope)) e d b × (after ≡ (if b then before ++ ([], d) ∷ [] else before))

-- the states without goals that take over the classes of one of the assignments
pub record AreTaken (scope : List ℕ) (e : Assignment) (ls : List Assignment) (bs : List State) : Type 0 where
  pub there : (a : ℕ → ℕ) → SomeOf (λ b. Agrees b.1 a) bs → Agrees e a × Covered ls (map a scope)
  pub back : (a : ℕ → ℕ) → Agrees e a → Covered ls (map a scope) → SomeOf (λ b. Agrees b.1 a) bs
  pub each : AllByRecursion (λ b. (b.0 ≡ []) × (length b.1 ≡ length e)) bs

-- the goals in two parts, of which the far one may be met by itself
pub record AreParts (g : Goal) (e : Assignment) (rest : List Goal) (p : Parts) : Type 0 where
  pub order : IsPermutation rest (map goal_of p.near.items ++ map goal_of p.far.items)
  pub apart : (k : Known) → Solvable k (g ∷ map goal_of p.near.items) e → Solvable k (map goal_of p.far.items) e → Solvable k (g ∷ rest) e

-- a goal with its branches beside the other goals, which ask together for what the state asks for
pub record IsChoice (k : Known) (s : State) (c : Choice) : Type 0 where
  pub there : Solvable k (goal_of c.goal ∷ map goal_of c.rest.items) c.assignment → Solvable k s.0 s.1
  pub back : Solvable k s.0 s.1 → Solvable k (goal_of c.goal ∷ map goal_of c.rest.items) c.assignment
  pub within : AllByRecursion (IsBelow (length c.assignment)) (goal_of c.goal ∷ map goal_of c.rest.items)
  pub branches : AreBranches k (goal_of c.goal) c.assignment (map state_of c.branches.items)
  pub size : size_of (goal_of c.goal) + sizes (map goal_of c.rest.items) ≤ sizes s.0

-- the state t asks for what s asks for, and is smaller
pub record IsNext (k : Known) (s t : State) : Type 0 where
  pub there : Solvable k t.0 t.1 → Solvable k s.0 s.1
  pub back : Solvable k s.0 s.1 → Solvable k t.0 t.1
  pub within : IsWithin t
  pub smaller : sizes t.0 < sizes s.0

-- a list of goals in two parts, of which the near one has only variables with a mark or a class
pub record AreSplit (e : Assignment) (marks : List Bool) (gs near far : List Goal) : Type 0 where
  pub order : IsPermutation gs (near ++ far)
  pub inside : AllByRecursion (λ g. goal_kept e marks true g ≡ true) near
