-- Laws of items.
use Rattle.std.specs.Prelude.{◌≡◌, Bool, true, ◌&&◌}
use Rattle.std.specs.List.{list_all}
use Rattle.mz_logic.specs.declared.sequent.Sequent.{Sequent}
use Rattle.mz_core.specs.Closed.{formula_under}
use Rattle.mz_core.specs.declared.item.Item.{Item}
use Rattle.mz_items.specs.Items.{owes, grants}
use Rattle.mz_items.specs.Closed.{item_closed}

-- the formulas of a sequent have no constant and no free index
abbrev pub sequent_closed : Sequent → Bool
sequent_closed s = list_all (formula_under 0) s.premises && formula_under 0 s.conclusion

-- what an item without constants and loose indices owes and grants has no constant and no free index
abbrev pub ClosedOwed : Type 0
ClosedOwed = (item : Item) → item_closed item ≡ true → list_all sequent_closed (owes item) ≡ true

abbrev pub ClosedGranted : Type 0
ClosedGranted = (item : Item) → item_closed item ≡ true → list_all (formula_under 0) (grants item) ≡ true
