-- What was found of obligations, each by itself.
use Rattle.std.specs.Prelude.{Bool, true, false, List, [], ◌∷◌, Option, Some, None, Result, Ok, Err, IfOk}
use Rattle.std.specs.List.{AllZip}
use Rattle.std.specs.declared.alloc.AllocError.{AllocError}
use Rattle.mz_core.specs.declared.fault.Fault.{Fault}
use Rattle.mz_ground.specs.declared.clause.Clause.{Clause}
use Rattle.mz_obligations.specs.declared.obligation.Obligation.{Obligation}
use Rattle.mz_judged.specs.Judged.{IsJudged}

-- a fault, or that there is none; or there was no memory
abbrev pub Found : Type 0
Found = Result (Option Fault) AllocError

-- there was memory
abbrev pub is_found : Found → Bool
is_found (Ok f) = true
is_found (Err e) = false

-- the fault that was found
abbrev pub fault_in : Found → List Fault
fault_in (Ok None) = []
fault_in (Ok (Some f)) = f ∷ []
fault_in (Err e) = []

-- what is found of each is so, place by place
abbrev pub AreFound : List Clause → List Obligation → List Found → Type 0
AreFound cs os found = AllZip (λ o f. IfOk f (IsJudged cs o)) os found
