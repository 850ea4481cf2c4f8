-- Obligations, and how many an article has left.
use Rattle.std.specs.Prelude.{◌≡◌, ℕ, suc, zero, List, Option, Some, None}
use Rattle.mz_base.specs.declared.place.Place.{Place}
use Rattle.mz_core.specs.Statement.{Statement}
use Rattle.mz_core.specs.declared.outcome.Left.{Left}
use Rattle.mz_context.specs.declared.constants.Constant.{Constant}
use Rattle.mz_ground.specs.declared.clause.Clause.{Clause}
use Rattle.mz_environment.specs.declared.unfoldings.Unfolding.{Unfolding}
use Rattle.mz_problem.specs.Asked.{Asks}
use Rattle.mz_obligations.specs.declared.obligation.Duty.{Duty}
use Rattle.mz_obligations.specs.declared.obligation.Duty.TheVariants.{By, From}
use Rattle.mz_obligations.specs.declared.obligation.Obligation.{Obligation}
use Rattle.mz_obligations.specs.declared.obligation.Extent.{Extent}

-- the duty is the problem of the statement by what is given, and no `from`
abbrev pub IsDuty : List Clause → List Unfolding → List (Option Constant) → List Statement → Statement → Duty → Type 0
IsDuty cs us ks ss s (By p) = Asks cs ks us ss s p
IsDuty cs us ks ss s (From v) = ⊥

-- the obligation of a statement at the place, where so much can be used and these are the clauses of the letters in force
pub record IsObligation (cs : List Clause) (us : List Unfolding) (ks : List (Option Constant)) (ss : List Statement) (s : Statement) (place : Place) (extent : Extent) (letters : List Clause) (o : Obligation) : Type 0 where
  pub place_is : o.place ≡ place
  pub extent_is : o.extent ≡ extent
  pub letters_are : o.letters ≡ letters
  pub duty_is : IsDuty cs us ks ss s o.duty

-- what is left behind one more obligation; none where none was left
abbrev pub spent : Left → ℕ → Option Left
spent l zero = None
spent l (suc n) = Some (record l { obligations = n })

abbrev pub obligation_spent : Left → Option Left
obligation_spent l = spent l l.obligations
