-- What is answered for a universal.
use Rattle.std.specs.Prelude.{◌<◌, ◌≤◌, ℕ, true, List}
use Rattle.mz_logic.specs.Formula.{Formula}
use Rattle.mz_logic.specs.declared.disjunct.Disjunct.{Disjunct}
use Rattle.mz_ground.specs.declared.clause.Clause.{Clause}
use Rattle.mz_refute.specs.declared.answer.Answer.{Answer}
use Rattle.mz_refute.specs.declared.answer.Answer.TheVariants.{Yes, No, Over}
use Rattle.mz_refute.specs.Refuted.{IsRefuted}
use Rattle.mz_refute.specs.Work.{IsWork, most_work}
use Rattle.mz_refute.specs.Closes.{IsRefutedWithin}

-- the work of the universal keeps the limit
pub record IsWithinWork (d : Disjunct) (cs : List Clause) (u : Formula) : Type 0 where
  pub work : ℕ
  pub is_work : IsWork d cs true u work
  pub within : work ≤ most_work

-- Over with a work that passes the limit; else Yes where the universal is refuted, and No where no choice of ground
-- terms refutes it
unfoldable pub IsAnswer : Disjunct → List Clause → Formula → Answer → Type 0
IsAnswer d cs u Yes = IsRefutedWithin d cs u
IsAnswer d cs u No = IsWithinWork d cs u × (IsRefuted d cs true u → ⊥)
IsAnswer d cs u (Over w) = IsWork d cs true u w × (most_work < w)
