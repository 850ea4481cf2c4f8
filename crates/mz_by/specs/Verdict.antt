-- The verdict on a problem.
use Rattle.std.specs.Prelude.{◌<◌, ◌≤◌, ℕ, suc, true, List, [], ◌∷◌, All}
use Rattle.mz_base.specs.declared.limit.Limit.TheVariants.{Disjuncts, Terms, Atoms, Work}
use Rattle.mz_logic.specs.Formula.{Formula}
use Rattle.mz_logic.specs.declared.disjunct.Disjunct.{Disjunct}
use Rattle.mz_nf.specs.declared.problem.Problem.{Problem}
use Rattle.mz_nf.specs.Count.{count_of}
use Rattle.mz_nf.specs.Splits.{AreDisjuncts}
use Rattle.mz_ground.specs.declared.clause.Clause.{Clause}
use Rattle.mz_ground.specs.Layers.{further_layers}
use Rattle.mz_ground.specs.Ground.{IsWithinTerms, IsWithinAtoms, HasTooManyTerms, HasTooManyAtoms}
use Rattle.mz_refute.specs.Work.{IsWork, most_work}
use Rattle.mz_refute.specs.Closes.{IsClosed}
use Rattle.mz_refute.specs.Answered.{IsWithinWork}
use Rattle.mz_by.specs.declared.by.ByVerdict.{ByVerdict}
use Rattle.mz_by.specs.declared.by.ByVerdict.TheVariants.{Closed, Open, Over}

-- each layer of the ground part keeps both limits
abbrev pub KeepsLimits : Disjunct → List Clause → Type 0
KeepsLimits d cs = (n : ℕ) → n ≤ further_layers → IsWithinTerms d cs n × IsWithinAtoms d cs n

-- the disjunct keeps the limits and is closed
pub record IsClosedWithin (d : Disjunct) (cs : List Clause) : Type 0 where
  pub keeps : KeepsLimits d cs
  pub closed : IsClosed d cs

-- the first of the universals whose work passes the limit has the work n
pub data HasFirstWork (d : Disjunct) (cs : List Clause) : List Formula → ℕ → Type 0 where
  this : (u : Formula) (us : List Formula) (n : ℕ) → IsWork d cs true u n → most_work < n → HasFirstWork d cs (u ∷ us) n
  later : (u : Formula) (us : List Formula) (m n : ℕ) → IsWork d cs true u m → m ≤ most_work → HasFirstWork d cs us n → HasFirstWork d cs (u ∷ us) n

-- the verdict that a disjunct which isn't closed within the limits, the one with this number, gives
pub data Decides (d : Disjunct) (cs : List Clause) (number : ℕ) : ByVerdict → Type 0 where
  -- its ground part passes a limit: that limit
  by_terms : (n : ℕ) → HasTooManyTerms d cs n → Decides d cs number (Over Terms 4097)
  by_atoms : (n : ℕ) → HasTooManyAtoms d cs n → Decides d cs number (Over Atoms 16385)
  -- it isn't closed, and the work of some universal passes the limit: the first such work
  by_work : (n : ℕ) → KeepsLimits d cs → ¬ IsClosed d cs → HasFirstWork d cs d.universals n → Decides d cs number (Over Work n)
  -- it isn't closed, and no work passes the limit: it is open
  is_open : KeepsLimits d cs → ¬ IsClosed d cs → All (IsWithinWork d cs) d.universals → Decides d cs number (Open number)

-- the verdict on a list of disjuncts, the first of which has this number: the first that isn't closed decides
pub data DecidesAll (cs : List Clause) : ℕ → List Disjunct → ByVerdict → Type 0 where
  all_closed : (number : ℕ) → DecidesAll cs number [] Closed
  decided : (number : ℕ) (d : Disjunct) (ds : List Disjunct) (v : ByVerdict) → Decides d cs number v → DecidesAll cs number (d ∷ ds) v
  passed : (number : ℕ) (d : Disjunct) (ds : List Disjunct) (v : ByVerdict) → IsClosedWithin d cs → DecidesAll cs (suc number) ds v → DecidesAll cs number (d ∷ ds) v

-- the verdict on a problem: too many disjuncts, or that on its disjuncts, numbered from 1
pub data IsVerdict (p : Problem) (cs : List Clause) : ByVerdict → Type 0 where
  too_many : 1024 < count_of p → IsVerdict p cs (Over Disjuncts (count_of p))
  on_disjuncts : (ds : List Disjunct) (v : ByVerdict) → count_of p ≤ 1024 → AreDisjuncts p ds → DecidesAll cs 1 ds v → IsVerdict p cs v
