-- How rows are stored: how each article stands, with the export of an accepted one; the faults of a rejected
-- one stand in its entry.
use Rattle.std.specs.Prelude.{◌≡◌, ℕ, zero, suc, Bool, true, false, List, [], ◌∷◌, slice_index_or}
use Rattle.std.specs.Arc.{arc_value}
use Rattle.mz_core.specs.declared.fault.Fault.{Fault}
use Rattle.mz_core.specs.declared.verdict.Entry.{Entry}
use Rattle.mz_turns.specs.Row as row
use Rattle.mz_turns.specs.Row.{Row}
use Rattle.mz_rows.specs.declared.standing.Standing.{Standing}
use Rattle.mz_rows.specs.declared.standing.Standing.TheVariants.{Waiting, Claimed, Accepted, Rejected, Blocked, Cyclic, Missing}
use Rattle.mz_rows.specs.declared.standing.RowState.{RowState}
use Rattle.mz_rows.specs.declared.standing.RowState.TheVariants as state

abbrev pub row_from : Standing → List Fault → Row
row_from Waiting fs = row.Waiting
row_from (Claimed w) fs = row.Claimed w
row_from (Accepted e) fs = row.Accepted (arc_value e)
row_from Rejected fs = row.Rejected fs
row_from (Blocked n) fs = row.Blocked n
row_from Cyclic fs = row.Cyclic
row_from Missing fs = row.Missing

abbrev pub rows_from : List Standing → List Entry → List Row
rows_from [] es = []
rows_from (s ∷ ss) [] = row_from s [] ∷ rows_from ss []
rows_from (s ∷ ss) (e ∷ es) = row_from s e.faults ∷ rows_from ss es

-- the state of a row, without its export and its faults
abbrev pub state_of : Row → RowState
state_of row.Waiting = state.Waiting
state_of (row.Claimed w) = state.Claimed w
state_of (row.Accepted e) = state.Accepted
state_of (row.Rejected fs) = state.Rejected
state_of (row.Blocked n) = state.Blocked n
state_of row.Cyclic = state.Cyclic
state_of row.Missing = state.Missing

-- whether a row of the state is settled
abbrev pub is_settled_state : RowState → Bool
is_settled_state state.Waiting = false
is_settled_state (state.Claimed w) = false
is_settled_state state.Accepted = true
is_settled_state state.Rejected = true
is_settled_state (state.Blocked n) = true
is_settled_state state.Cyclic = true
is_settled_state state.Missing = true

abbrev pub is_waiting_state : RowState → Bool
is_waiting_state state.Waiting = true
is_waiting_state (state.Claimed w) = false
is_waiting_state state.Accepted = false
is_waiting_state state.Rejected = false
is_waiting_state (state.Blocked n) = false
is_waiting_state state.Cyclic = false
is_waiting_state state.Missing = false

abbrev pub is_claimed_state : RowState → Bool
is_claimed_state state.Waiting = false
is_claimed_state (state.Claimed w) = true
is_claimed_state state.Accepted = false
is_claimed_state state.Rejected = false
is_claimed_state (state.Blocked n) = false
is_claimed_state state.Cyclic = false
is_claimed_state state.Missing = false

abbrev pub is_accepted_state : RowState → Bool
is_accepted_state state.Waiting = false
is_accepted_state (state.Claimed w) = false
is_accepted_state state.Accepted = true
is_accepted_state state.Rejected = false
is_accepted_state (state.Blocked n) = false
is_accepted_state state.Cyclic = false
is_accepted_state state.Missing = false

-- the standing without a claim
abbrev pub standing_freed : Standing → Standing
standing_freed Waiting = Waiting
standing_freed (Claimed w) = Waiting
standing_freed (Accepted e) = Accepted e
standing_freed Rejected = Rejected
standing_freed (Blocked n) = Blocked n
standing_freed Cyclic = Cyclic
standing_freed Missing = Missing

-- the standing at a place, and the faults of its entry
abbrev pub standing_at : List Standing → ℕ → Standing
standing_at ss r = slice_index_or ss r Waiting

abbrev pub faults_at : List Entry → ℕ → List Fault
faults_at [] r = []
faults_at (e ∷ es) zero = e.faults
faults_at (e ∷ es) (suc r) = faults_at es r

abbrev pub standing_state : Standing → RowState
standing_state Waiting = state.Waiting
standing_state (Claimed w) = state.Claimed w
standing_state (Accepted e) = state.Accepted
standing_state Rejected = state.Rejected
standing_state (Blocked n) = state.Blocked n
standing_state Cyclic = state.Cyclic
standing_state Missing = state.Missing

-- the row of a standing without faults
abbrev pub start_from : Standing → Row
start_from s = row_from s []

-- the row is that of the standing, with some faults
abbrev pub IsRowOf : Standing → Row → Type 0
IsRowOf s x = (fs : List Fault) × (x ≡ row_from s fs)
