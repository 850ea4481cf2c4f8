-- What calls within a structure came to.
use Rattle.std.specs.Prelude.{◌≡◌, ℕ, true, false, List, [], ◌++◌, Result, Ok, Err}
use Rattle.mz_base.specs.declared.place.Place.{Place}
use Rattle.mz_core.specs.declared.soft_type.SoftType.{SoftType}
use Rattle.mz_structure.specs.Fields.{with_ancestor}
use Rattle.mz_structure.specs.declared.ancestry.Ancestry.{Ancestry}
use Rattle.mz_structure_items.specs.Selectors.{are_fields}
use Rattle.mz_structure_items.specs.declared.selectors.NamedSelector.{NamedSelector}
use Rattle.mz_standing.specs.declared.standing.Standing.{Standing}
use Rattle.mz_taken.specs.Taken.{Taken, Made, Refused}
use Rattle.mz_taken.specs.declared.item_fault.ItemRefusal.{ItemRefusal}
use Rattle.mz_taken.specs.declared.item_fault.ItemRefusal.TheVariants.{AncestorUnfit}

-- an ancestor with these selectors was put behind the others, or it is unfit
abbrev pub AncestorEnds : {X : Type 0} → List (List ℕ) → Ancestry → Ancestry → Place → SoftType → List NamedSelector → Result X ItemRefusal → Type 0
AncestorEnds names a b place ty xs (Ok x) = (are_fields names (a.inherited ++ xs) xs ≡ true) × (b ≡ with_ancestor a ty xs)
AncestorEnds names a b place ty xs (Err r) = (are_fields names (a.inherited ++ xs) xs ≡ false) × (r ≡ AncestorUnfit place)

-- the heading came to this
abbrev pub EndsWith : {X : Type 0} → Taken Standing → Standing → Result X ItemRefusal → Type 0
EndsWith w s (Ok x) = w ≡ Made [] s
EndsWith w s (Err r) = w ≡ Refused r
