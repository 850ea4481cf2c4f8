-- One value at most.
use Rattle.std.specs.Prelude.{◌≡◌, ℕ, List, Option}
use Rattle.mz_core.specs.Statement.{Statement}
use Rattle.mz_context.specs.declared.constants.Constant.{Constant}
use Rattle.mz_ground.specs.declared.clause.Clause.{Clause}
use Rattle.mz_environment.specs.declared.unfoldings.Unfolding.{Unfolding}
use Rattle.mz_thesis.specs.Unfolding.{UnfoldsTo}
use Rattle.mz_thesis.specs.Applied.{Applied}
use Rattle.mz_thesis.specs.declared.step.Step.{Step}

-- an atom or an equation unfolds to one statement at most
abbrev pub OneUnfoldingLaw : Type 0
OneUnfoldingLaw =
    (cs : List Clause) (ks : List (Option Constant)) (us : List Unfolding) (s : Statement) (o p : Option Statement) →
    UnfoldsTo cs ks us s o → UnfoldsTo cs ks us s p → o ≡ p

-- a step leads to one thesis at most
abbrev pub OneThesisLaw : Type 0
OneThesisLaw =
    (cs : List Clause) (ks : List (Option Constant)) (us : List Unfolding) (most : ℕ) (thesis : Statement) (step : Step) (o p : Option Statement) →
    Applied cs ks us most thesis step o → Applied cs ks us most thesis step p → o ≡ p
