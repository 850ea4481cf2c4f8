-- When a disjunct is closed.
use Rattle.std.specs.Prelude.{◌≤◌, ℕ, true, List, Contains}
use Rattle.mz_logic.specs.Formula.{Formula}
use Rattle.mz_logic.specs.declared.disjunct.Disjunct.{Disjunct}
use Rattle.mz_ground.specs.declared.clause.Clause.{Clause}
use Rattle.mz_ground.specs.Facts.{IsContradictory}
use Rattle.mz_refute.specs.Refuted.{IsRefuted}
use Rattle.mz_refute.specs.Work.{IsWork, most_work}

-- the universal is refuted, and its work is within the limit
pub record IsRefutedWithin (d : Disjunct) (cs : List Clause) (u : Formula) : Type 0 where
  pub work : ℕ
  pub is_work : IsWork d cs true u work
  pub within : work ≤ most_work
  pub refuted : IsRefuted d cs true u

-- the facts are contradictory, or a universal of the disjunct is refuted with work within the limit
pub data IsClosed (d : Disjunct) (cs : List Clause) : Type 0 where
  contradiction : IsContradictory d cs → IsClosed d cs
  refutation : (u : Formula) → Contains d.universals u → IsRefutedWithin d cs u → IsClosed d cs
