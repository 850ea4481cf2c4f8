-- Entries by their keys.
use Rattle.std.specs.Prelude.{◌≡◌, Bool, List, [], map, Vec, Option, Some, None}
use Rattle.std.specs.List.{filter}
use Rattle.std.specs.Arc.{arc_value}
use Rattle.std.specs.declared.sync.Arc.{Arc}
use Rattle.std.specs.BTreeMap.{BTreeMap, get}
use Rattle.std.specs.declared.cmp.Ordering.{Ordering}
use Rattle.std.specs.declared.alloc.Global.{Global}

-- the entries of a group, if there is one
abbrev pub values_in : {T : Type 0} → Option (Vec (Arc T Global) Global) → List T
values_in None = []
values_in (Some g) = map arc_value g.items

-- what the map has for a key; nothing where it doesn't list it
abbrev pub group_at : {K T : Type 0} → (K → K → Ordering) → BTreeMap K (Vec (Arc T Global) Global) → K → List T
group_at cmp m k = values_in (get cmp m k)

-- each key has its entries, in the order of the list
abbrev pub AreGrouped : {K T : Type 0} → (K → K → Ordering) → (K → T → Bool) → List T → BTreeMap K (Vec (Arc T Global) Global) → Type 0
AreGrouped {K} cmp has xs m = (k : K) → group_at cmp m k ≡ filter (has k) xs
