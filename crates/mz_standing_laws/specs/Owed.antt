-- Items whose owed sequents derive.
use Rattle.std.specs.Prelude.{◌≡◌, ℕ, true, false, List, ◌++◌, take, Some, slice_get, Contains}
use Rattle.mz_logic.specs.Formula.{Formula}
use Rattle.mz_logic.specs.Derives.{Derives}
use Rattle.mz_logic.specs.declared.sequent.Sequent.{Sequent}
use Rattle.mz_core.specs.declared.item.Item.{Item}
use Rattle.mz_items.specs.Closed.{item_closed}
use Rattle.mz_items.specs.Exports.{is_primitive}
use Rattle.mz_items.specs.Items.{owes}
use Rattle.mz_axioms.specs.Library.{granted}

-- the item has no constant and no loose index, is none of those that the built-in articles alone have, and each sequent that it
-- owes derives from the axioms: its conclusion from its premises
pub record IsOwed (axioms : List Formula) (x : Item) : Type 0 where
  pub closed : item_closed x ≡ true
  pub own : is_primitive x ≡ false
  pub owed : (q : Sequent) → Contains (owes x) q → Derives axioms q.premises q.conclusion

-- so it is with each item of an article, from the axioms and what the items before it grant
abbrev pub AreOwed : List Formula → List Item → Type 0
AreOwed axioms items = (k : ℕ) (x : Item) → slice_get items k ≡ Some x → IsOwed (axioms ++ granted (take k items)) x
