-- How an article stands.
use Rattle.std.specs.Prelude.{ℕ, Bool, true, false, List, slice_index_or}
use Rattle.mz_base.specs.declared.name.Name.{Name}
use Rattle.mz_core.specs.declared.outcome.Export.{Export}
use Rattle.mz_core.specs.declared.fault.Fault.{Fault}
use Rattle.mz_core.specs.declared.outcome.Outcome.{Outcome}
use Rattle.mz_core.specs.declared.outcome.Outcome.TheVariants as outcome

-- the row of an article: waiting, claimed by a worker, or settled
pub data Row : Type 0 where
  Waiting : Row
  Claimed : ℕ → Row
  Accepted : Export → Row
  Rejected : List Fault → Row
  Blocked : Name → Row
  Cyclic : Row
  Missing : Row

-- all but the first two are settled
abbrev pub is_settled : Row → Bool
is_settled Waiting = false
is_settled (Claimed w) = false
is_settled (Accepted e) = true
is_settled (Rejected fs) = true
is_settled (Blocked n) = true
is_settled Cyclic = true
is_settled Missing = true

abbrev pub is_waiting : Row → Bool
is_waiting Waiting = true
is_waiting (Claimed w) = false
is_waiting (Accepted e) = false
is_waiting (Rejected fs) = false
is_waiting (Blocked n) = false
is_waiting Cyclic = false
is_waiting Missing = false

abbrev pub is_claimed : Row → Bool
is_claimed Waiting = false
is_claimed (Claimed w) = true
is_claimed (Accepted e) = false
is_claimed (Rejected fs) = false
is_claimed (Blocked n) = false
is_claimed Cyclic = false
is_claimed Missing = false

abbrev pub is_accepted : Row → Bool
is_accepted Waiting = false
is_accepted (Claimed w) = false
is_accepted (Accepted e) = true
is_accepted (Rejected fs) = false
is_accepted (Blocked n) = false
is_accepted Cyclic = false
is_accepted Missing = false

-- the row without a claim
abbrev pub freed : Row → Row
freed Waiting = Waiting
freed (Claimed w) = Waiting
freed (Accepted e) = Accepted e
freed (Rejected fs) = Rejected fs
freed (Blocked n) = Blocked n
freed Cyclic = Cyclic
freed Missing = Missing

-- the row of a checked article
abbrev pub row_of : Outcome → Row
row_of (outcome.Accepted e) = Accepted e
row_of (outcome.Rejected fs) = Rejected fs

-- the row with the number, waiting where there is none
abbrev pub row_at : List Row → ℕ → Row
row_at rows r = slice_index_or rows r Waiting

-- 1 for a claimed row
abbrev pub claim_weight : Row → ℕ
claim_weight Waiting = 0
claim_weight (Claimed w) = 1
claim_weight (Accepted e) = 0
claim_weight (Rejected fs) = 0
claim_weight (Blocked n) = 0
claim_weight Cyclic = 0
claim_weight Missing = 0

-- 1 for a waiting row
abbrev pub wait_weight : Row → ℕ
wait_weight Waiting = 1
wait_weight (Claimed w) = 0
wait_weight (Accepted e) = 0
wait_weight (Rejected fs) = 0
wait_weight (Blocked n) = 0
wait_weight Cyclic = 0
wait_weight Missing = 0
