-- Numbers of universals that pass the limit, as their works and forces.
use Rattle.std.specs.Prelude.{◌≤◌, ◌<◌, ℕ, true, List, [], ◌∷◌, All}
use Rattle.mz_logic.specs.Formula.{Formula}
use Rattle.mz_logic.specs.declared.disjunct.Disjunct.{Disjunct}
use Rattle.mz_ground.specs.declared.clause.Clause.{Clause}
use Rattle.mz_refute.specs.Work.{IsWork, most_work}
use Rattle.mz_forced.specs.Force.{IsForce}

-- the formula has a number that keeps the limit
pub record IsWithin (Has : Formula → ℕ → Type 0) (u : Formula) : Type 0 where
  pub number : ℕ
  pub has : Has u number
  pub within : number ≤ most_work

-- the first of the formulas whose number passes the limit has the number n
pub data HasFirst (Has : Formula → ℕ → Type 0) : List Formula → ℕ → Type 0 where
  this : (u : Formula) (us : List Formula) (n : ℕ) → Has u n → most_work < n → HasFirst Has (u ∷ us) n
  later : (u : Formula) (us : List Formula) (n : ℕ) → IsWithin Has u → HasFirst Has us n → HasFirst Has (u ∷ us) n

-- the works of the universals on the disjunct, their forces on it, and their works on the next one keep the limit
pub record KeepNumbers (d next : Disjunct) (cs : List Clause) : Type 0 where
  pub works : All (IsWithin (IsWork d cs true)) d.universals
  pub forces : All (IsWithin (IsForce d cs true)) d.universals
  pub next_works : All (IsWithin (IsWork next cs true)) next.universals

-- the first number that passes the limit among these works, then these forces, then the works on the next disjunct
pub data HasFirstNumber (d next : Disjunct) (cs : List Clause) (n : ℕ) : Type 0 where
  of_works : HasFirst (IsWork d cs true) d.universals n → HasFirstNumber d next cs n
  of_forces : All (IsWithin (IsWork d cs true)) d.universals → HasFirst (IsForce d cs true) d.universals n → HasFirstNumber d next cs n
  of_next_works : All (IsWithin (IsWork d cs true)) d.universals → All (IsWithin (IsForce d cs true)) d.universals → HasFirst (IsWork next cs true) next.universals n → HasFirstNumber d next cs n
