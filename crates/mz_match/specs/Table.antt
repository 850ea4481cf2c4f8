-- The rows of a table by their heads.
use Rattle.std.specs.Prelude.{◌≡◌, ◌⊎◌, ℕ, zero, suc, ◌+◌, Bool, true, false, Option, None, Some, List, [], ◌∷◌, ◌++◌, if◌then◌else◌}
use Rattle.std.specs.Ordering.{nat_cmp}
use Rattle.std.specs.BTreeMap.{get, BTreeMap}
use Rattle.mz_match.specs.Heads.{same_head, number_of}
use Rattle.mz_match.specs.Rows.{SomeOf}
use Rattle.mz_match.specs.Values.{value_at}
use Rattle.mz_match.specs.declared.row.Head.{Head}
use Rattle.mz_match.specs.declared.row.Row.{Row}
use Rattle.mz_match.specs.declared.rows.Rows.{Rows}
use Rattle.mz_match.specs.declared.table.Group.{Group}
use Rattle.mz_match.specs.declared.table.Groups.{Groups}
use Rattle.mz_match.specs.declared.table.Table.{Table}
use Rattle.mz_match.specs.declared.value.Value.{Value}
use Rattle.mz_match.specs.declared.value.Value.TheVariants.{Nothing}

abbrev pub rows_in : Option Rows → List Row
rows_in None = []
rows_in (Some rows) = rows.items.items

-- how many rows were put in, repeated ones counted
abbrev pub count_in : Option Rows → ℕ
count_in None = 0
count_in (Some rows) = rows.count

abbrev pub value_in : Option Rows → List ℕ → Value
value_in None args = Nothing
value_in (Some rows) args = value_at rows.values args

-- the rows of the first group with the head
abbrev pub group_of : Head → List Group → Option Rows
group_of h [] = None
group_of h (g ∷ gs) = if same_head g.head h then Some g.rows else group_of h gs

abbrev pub groups_in : Option Groups → List Group
groups_in None = []
groups_in (Some groups) = groups.items.items

-- the groups at a number
abbrev pub groups_at : BTreeMap ℕ Groups → ℕ → List Group
groups_at m n = groups_in (get nat_cmp m n)

unfoldable pub rows_at : Table → Head → Option Rows
rows_at table h = group_of h (groups_at table.groups (number_of h))

-- the rows with a head, of which equal ones stand once
abbrev pub rows_of : Table → Head → List Row
rows_of table h = rows_in (rows_at table h)

-- how many rows with a head were put in
abbrev pub count_of : Table → Head → ℕ
count_of table h = count_in (rows_at table h)

-- what is known of the value of arguments
abbrev pub value_of : Table → Head → List ℕ → Value
value_of table h args = value_in (rows_at table h) args

-- no group has the head
abbrev pub HasNoGroup : Head → List Group → Type 0
HasNoGroup h [] = Unit {0}
HasNoGroup h (g ∷ gs) = (same_head g.head h ≡ false) × HasNoGroup h gs

-- no group before a place has the head
abbrev pub NoneBefore : Head → List Group → ℕ → Type 0
NoneBefore h gs zero = Unit {0}
NoneBefore h [] (suc i) = ⊥
NoneBefore h (g ∷ gs) (suc i) = (same_head g.head h ≡ false) × NoneBefore h gs i

-- the group at a place is the first with the head
abbrev pub IsGroupAt : Head → List Group → ℕ → Type 0
IsGroupAt h [] i = ⊥
IsGroupAt h (g ∷ gs) zero = same_head g.head h ≡ true
IsGroupAt h (g ∷ gs) (suc i) = (same_head g.head h ≡ false) × IsGroupAt h gs i

-- one row more is counted, and stands at the end, where no equal one stood
pub record IsAdded (r : Row) (old new : Option Rows) : Type 0 where
  pub count : count_in new ≡ count_in old + 1
  pub rows : (rows_in new ≡ rows_in old ++ r ∷ []) ⊎ ((rows_in new ≡ rows_in old) × SomeOf (λ x. (x.args.items ≡ r.args.items) × (x.value ≡ r.value)) (rows_in old))

abbrev pub IsAddedWhere : Bool → Row → Option Rows → Option Rows → Type 0
IsAddedWhere true r old new = IsAdded r old new
IsAddedWhere false r old new = new ≡ old

-- one row more with its head, and no other change
unfoldable pub GroupsGrow : Head → Row → List Group → List Group → Type 0
GroupsGrow h r gs ks = (q : Head) → IsAddedWhere (same_head h q) r (group_of q gs) (group_of q ks)

unfoldable pub Grows : Head → Row → Table → Table → Type 0
Grows h r table next = (q : Head) → IsAddedWhere (same_head h q) r (rows_at table q) (rows_at next q)
