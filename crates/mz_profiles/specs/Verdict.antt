-- The verdict on a problem under a profile.
use Rattle.std.specs.Prelude.{◌<◌, ◌≤◌, ℕ, suc, List, [], ◌∷◌}
use Rattle.mz_base.specs.declared.limit.Limit.TheVariants.{Disjuncts, Terms, Atoms, Work}
use Rattle.mz_base.specs.declared.profile.Profile.{Profile}
use Rattle.mz_base.specs.declared.profile.Profile.TheVariants.{One, Two}
use Rattle.mz_logic.specs.declared.disjunct.Disjunct.{Disjunct}
use Rattle.mz_nf.specs.declared.problem.Problem.{Problem}
use Rattle.mz_nf.specs.Count.{count_of}
use Rattle.mz_nf.specs.Splits.{AreDisjuncts}
use Rattle.mz_ground.specs.declared.clause.Clause.{Clause}
use Rattle.mz_ground.specs.Ground.{HasTooManyTerms, HasTooManyAtoms}
use Rattle.mz_refute.specs.Closes.{IsClosed}
use Rattle.mz_forced.specs.Added.{IsNext}
use Rattle.mz_by.specs.declared.by.ByVerdict.{ByVerdict}
use Rattle.mz_by.specs.declared.by.ByVerdict.TheVariants.{Closed, Open, Over}
use Rattle.mz_by.specs.Verdict.{KeepsLimits, IsClosedWithin, Decides}
use Rattle.mz_profiles.specs.Numbers.{KeepNumbers, HasFirstNumber}

-- the disjunct keeps the limits and is closed, or under the second profile the next one keeps them and is
pub data IsClosedUnder (d : Disjunct) (cs : List Clause) : Profile → Type 0 where
  at_once : (p : Profile) → IsClosedWithin d cs → IsClosedUnder d cs p
  by_added : (next : Disjunct) → KeepsLimits d cs → IsNext d cs next → IsClosedWithin next cs → IsClosedUnder d cs Two

-- the verdict of a disjunct that keeps the limits and isn't closed, the one with this number, with its next one
pub data DecidesNext (d next : Disjunct) (cs : List Clause) (number : ℕ) : ByVerdict → Type 0 where
  -- the ground part of the next one passes a limit: that limit
  next_terms : (n : ℕ) → HasTooManyTerms next cs n → DecidesNext d next cs number (Over Terms 4097)
  next_atoms : (n : ℕ) → HasTooManyAtoms next cs n → DecidesNext d next cs number (Over Atoms 16385)
  -- the next one isn't closed either, and a work or a force passes the limit: the first such number
  by_number : (n : ℕ) → KeepsLimits next cs → (IsClosed next cs → ⊥) → HasFirstNumber d next cs n → DecidesNext d next cs number (Over Work n)
  -- and none does: it is open
  is_open : KeepsLimits next cs → (IsClosed next cs → ⊥) → KeepNumbers d next cs → DecidesNext d next cs number (Open number)

-- the verdict that a disjunct which isn't closed under the profile, the one with this number, gives
pub data DecidesUnder (d : Disjunct) (cs : List Clause) (number : ℕ) : Profile → ByVerdict → Type 0 where
  -- under the first profile by its facts and universals alone
  by_one : (v : ByVerdict) → Decides d cs number v → DecidesUnder d cs number One v
  -- under the second its ground part passes a limit
  by_terms : (n : ℕ) → HasTooManyTerms d cs n → DecidesUnder d cs number Two (Over Terms 4097)
  by_atoms : (n : ℕ) → HasTooManyAtoms d cs n → DecidesUnder d cs number Two (Over Atoms 16385)
  -- or it isn't closed, and what is added decides
  by_next : (next : Disjunct) (v : ByVerdict) → KeepsLimits d cs → (IsClosed d cs → ⊥) → IsNext d cs next → DecidesNext d next cs number v → DecidesUnder d cs number Two v

-- the verdict on a list of disjuncts, the first of which has this number: the first that isn't closed decides
pub data DecideAll (profile : Profile) (cs : List Clause) : ℕ → List Disjunct → ByVerdict → Type 0 where
  all_closed : (number : ℕ) → DecideAll profile cs number [] Closed
  decided : (number : ℕ) (d : Disjunct) (ds : List Disjunct) (v : ByVerdict) → DecidesUnder d cs number profile v → DecideAll profile cs number (d ∷ ds) v
  passed : (number : ℕ) (d : Disjunct) (ds : List Disjunct) (v : ByVerdict) → IsClosedUnder d cs profile → DecideAll profile cs (suc number) ds v → DecideAll profile cs number (d ∷ ds) v

-- the verdict on a problem: too many disjuncts, or that on its disjuncts, numbered from 1
pub data IsVerdictUnder (profile : Profile) (p : Problem) (cs : List Clause) : ByVerdict → Type 0 where
  too_many : 1024 < count_of p → IsVerdictUnder profile p cs (Over Disjuncts (count_of p))
  on_disjuncts : (ds : List Disjunct) (v : ByVerdict) → count_of p ≤ 1024 → AreDisjuncts p ds → DecideAll profile cs 1 ds v → IsVerdictUnder profile p cs v
