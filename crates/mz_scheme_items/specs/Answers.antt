-- The answers of the calls that read parts of a scheme.
use Rattle.std.specs.Prelude.{[], Result, Ok, Err}
use Rattle.mz_taken.specs.Taken.{Taken, Made, Refused}
use Rattle.mz_taken.specs.declared.item_fault.ItemRefusal.{ItemRefusal}

-- what makes no obligation led to what is answered, as a state; or it was refused
abbrev pub LeadsBy : {X Y : Type 0} → (Taken Y → Type 0) → (X → Y) → Result X ItemRefusal → Type 0
LeadsBy takes as_state (Ok x) = takes (Made [] (as_state x))
LeadsBy takes as_state (Err r) = takes (Refused r)
