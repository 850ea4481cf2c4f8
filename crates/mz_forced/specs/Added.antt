-- What the universals of a disjunct add to it.
use Rattle.std.specs.Prelude.{◌≡◌, ◌≤◌, ℕ, true, List, ◌++◌, Contains}
use Rattle.mz_logic.specs.Formula.{Formula}
use Rattle.mz_logic.specs.declared.literal.Literal.{Literal}
use Rattle.mz_logic.specs.declared.disjunct.Disjunct.{Disjunct}
use Rattle.mz_ground.specs.declared.clause.Clause.{Clause}
use Rattle.mz_ground.specs.Facts.{Fact}
use Rattle.mz_refute.specs.Work.{most_work}
use Rattle.mz_forced.specs.Forced.{IsForced}
use Rattle.mz_forced.specs.Force.{IsForce}
use Rattle.mz_forced.specs.Sorted.{AreFirstOf}

-- the force of the universal keeps the limit
pub record IsWithinForce (d : Disjunct) (cs : List Clause) (u : Formula) : Type 0 where
  pub force : ℕ
  pub is_force : IsForce d cs true u force
  pub within : force ≤ most_work

-- the literal isn't a fact, and a universal of the disjunct whose force is within the limit forces it
pub record IsAddable (d : Disjunct) (cs : List Clause) (l : Literal) : Type 0 where
  pub no_fact : Fact d cs l → ⊥
  pub universal : Formula
  pub listed : Contains d.universals universal
  pub within : IsWithinForce d cs universal
  pub forced : IsForced d cs true universal l

abbrev pub most_added : ℕ
most_added = 1024

-- the first 1,024 of these in the order of literals
abbrev pub AreAdded : Disjunct → List Clause → List Literal → Type 0
AreAdded d cs ls = AreFirstOf most_added (IsAddable d cs) ls

-- the disjunct with these after its literals
pub record IsNext (d : Disjunct) (cs : List Clause) (next : Disjunct) : Type 0 where
  pub added : List Literal
  pub are_added : AreAdded d cs added
  pub literals : next.literals ≡ d.literals ++ added
  pub universals : next.universals ≡ d.universals
