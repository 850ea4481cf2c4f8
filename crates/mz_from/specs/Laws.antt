-- One verdict at most.
use Rattle.std.specs.Prelude.{◌≡◌, List, Option}
use Rattle.mz_core.specs.Statement.{Statement}
use Rattle.mz_core.specs.declared.scheme.Scheme.{Scheme}
use Rattle.mz_context.specs.declared.constants.Constant.{Constant}
use Rattle.mz_ground.specs.declared.clause.Clause.{Clause}
use Rattle.mz_obligations.specs.declared.obligation.SchemeVerdict.{SchemeVerdict}
use Rattle.mz_from.specs.Verdict.{IsVerdict}

abbrev pub OneVerdictLaw : Type 0
OneVerdictLaw =
    (cs : List Clause) (ks : List (Option Constant)) (scheme : Scheme) (cited : List Statement) (s : Statement) (v w : SchemeVerdict) →
    IsVerdict cs ks scheme cited s v → IsVerdict cs ks scheme cited s w → v ≡ w
