-- The arguments of rows by their classes.
use Rattle.std.specs.Prelude.{◌≡◌, ℕ, List, [], ◌∷◌, unwrap_or, if◌then◌else◌}
use Rattle.std.specs.BTreeMap.{BTreeMap, get}
use Rattle.std.specs.Ordering.{nat_cmp}
use Rattle.mz_match.specs.Rows.{has_value}
use Rattle.mz_match.specs.declared.by_class.ByClass.{ByClass}
use Rattle.mz_match.specs.declared.row.Row.{Row}

-- what the map has for a class; nothing where it doesn't list it
abbrev pub lists_at : BTreeMap ℕ (List (List ℕ)) → ℕ → List (List ℕ)
lists_at m class = unwrap_or (get nat_cmp m class) []

-- the arguments of the rows with a class, in their order
abbrev pub args_with : ℕ → List Row → List (List ℕ)
args_with v [] = []
args_with v (r ∷ rs) = if has_value v r then r.args.items ∷ args_with v rs else args_with v rs

-- each class has the arguments of its rows
abbrev pub AreByClass : List Row → ByClass → Type 0
AreByClass rs m = (v : ℕ) → lists_at m.lists v ≡ args_with v rs
