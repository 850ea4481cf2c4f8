-- The thesis after a step, which may unfold the first part of the thesis before.
use Rattle.std.specs.Prelude.{ℕ, zero, suc, List, Option, Some, None}
use Rattle.mz_core.specs.Statement.{Statement, Truth, Eq, Atom, Not, And, For}
use Rattle.mz_context.specs.declared.constants.Constant.{Constant}
use Rattle.mz_ground.specs.declared.clause.Clause.{Clause}
use Rattle.mz_environment.specs.declared.unfoldings.Unfolding.{Unfolding}
use Rattle.mz_thesis.specs.Unfolding.{UnfoldsTo}
use Rattle.mz_thesis.specs.Rows.{Admits, thesis_after}
use Rattle.mz_thesis.specs.declared.step.Step.{Step}
use Rattle.mz_thesis.specs.declared.thesis_fault.ThesisFault.{ThesisFault}
use Rattle.mz_thesis.specs.declared.thesis_fault.ThesisFault.TheVariants.{NoFit, Memory}

-- the first conjunct
abbrev pub first_part : Statement → Statement
first_part Truth = Truth
first_part (Eq t u) = Eq t u
first_part (Atom s ts) = Atom s ts
first_part (Not s) = Not s
first_part (And s t) = first_part s
first_part (For ty s) = For ty s

-- the statement with d for its first conjunct
abbrev pub with_first_part : Statement → Statement → Statement
with_first_part d Truth = d
with_first_part d (Eq t u) = d
with_first_part d (Atom s ts) = d
with_first_part d (Not s) = d
with_first_part d (And s t) = And (with_first_part d s) t
with_first_part d (For ty s) = d

-- the thesis with its first part unfolded, or none where that unfolds to nothing
pub data Unfolded (cs : List Clause) (ks : List (Option Constant)) (us : List Unfolding) (thesis : Statement) : Option Statement → Type 0 where
  unfolded : (d : Statement) → UnfoldsTo cs ks us (first_part thesis) (Some d) → Unfolded cs ks us thesis (Some (with_first_part d thesis))
  as_it_is : UnfoldsTo cs ks us (first_part thesis) None → Unfolded cs ks us thesis None

-- the thesis after the step, with at most so many unfoldings, as few as will do; none where no number of them will
pub data Applied (cs : List Clause) (ks : List (Option Constant)) (us : List Unfolding) : ℕ → Statement → Step → Option Statement → Type 0 where
  fits : (most : ℕ) (thesis : Statement) (step : Step) → Admits cs ks thesis step → Applied cs ks us most thesis step (Some (thesis_after thesis step))
  unfolds : (most : ℕ) (thesis next : Statement) (step : Step) (o : Option Statement) → ¬ Admits cs ks thesis step → Unfolded cs ks us thesis (Some next) → Applied cs ks us most next step o → Applied cs ks us (suc most) thesis step o
  unfolds_to_nothing : (most : ℕ) (thesis : Statement) (step : Step) → ¬ Admits cs ks thesis step → Unfolded cs ks us thesis None → Applied cs ks us (suc most) thesis step None
  no_unfolding_left : (thesis : Statement) (step : Step) → ¬ Admits cs ks thesis step → Applied cs ks us zero thesis step None

-- how often a step may unfold
abbrev pub most_unfoldings : ℕ
most_unfoldings = 8

-- the step leads from one thesis to the other
abbrev pub Leads : List Clause → List (Option Constant) → List Unfolding → Statement → Step → Statement → Type 0
Leads cs ks us thesis step after = Applied cs ks us most_unfoldings thesis step (Some after)

-- why it doesn't
abbrev pub Refuses : List Clause → List (Option Constant) → List Unfolding → Statement → Step → ThesisFault → Type 0
Refuses cs ks us thesis step NoFit = Applied cs ks us most_unfoldings thesis step None
Refuses cs ks us thesis step Memory = Unit {0}
