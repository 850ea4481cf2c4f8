-- A statement and what is given have one problem at most.
use Rattle.std.specs.Prelude.{◌≡◌, List, Option}
use Rattle.mz_core.specs.Statement.{Statement}
use Rattle.mz_context.specs.declared.constants.Constant.{Constant}
use Rattle.mz_ground.specs.declared.clause.Clause.{Clause}
use Rattle.mz_environment.specs.declared.unfoldings.Unfolding.{Unfolding}
use Rattle.mz_nf.specs.declared.problem.Problem.{Problem}
use Rattle.mz_problem.specs.Asked.{Asks}

abbrev pub OneProblemLaw : Type 0
OneProblemLaw =
    (cs : List Clause) (ks : List (Option Constant)) (us : List Unfolding) (given : List Statement) (s : Statement) (p q : Problem) → Asks cs ks us given s p → Asks cs ks us given s q → p ≡ q
