-- The variables that a trigger has.
use Rattle.std.specs.Prelude.{ℕ, zero, suc, Bool, true, false, ◌&&◌, ◌||◌, nat_eq}
use Rattle.std.specs.List.{list_any}
use Rattle.mz_logic.specs.Term as term
use Rattle.mz_logic.specs.Term.{Bound, Const, App, none, more}
use Rattle.mz_ground.specs.declared.trigger.Trigger.{Trigger}
use Rattle.mz_ground.specs.declared.trigger.Trigger.TheVariants.{Term, Atom}

-- the index occurs in the term
abbrev mutual
  pub has_index : ℕ → term.Term → Bool
  has_index i (Bound index) = nat_eq index i
  has_index i (Const number) = false
  has_index i (App s ts) = args_have_index i ts

  pub args_have_index : ℕ → term.Terms → Bool
  args_have_index i none = false
  args_have_index i (more t ts) = has_index i t || args_have_index i ts

abbrev pub trigger_has : ℕ → Trigger → Bool
trigger_has i (Term t) = has_index i t
trigger_has i (Atom s ts) = list_any (has_index i) ts

-- each index below n occurs in the trigger
abbrev pub has_all_below : ℕ → Trigger → Bool
has_all_below zero r = true
has_all_below (suc n) r = trigger_has n r && has_all_below n r
