-- Names in turn, each once.
use Rattle.std.specs.Prelude.{ℕ, Bool, ◌==◌, if◌then◌else◌, List, [], ◌∷◌, ◌++◌, Option, fold, position}
use Rattle.std.specs.List.{list_any}
use Rattle.mz_base.specs.declared.name.Name.{Name}
use Rattle.mz_base.specs.Name.{is_built_in}

-- whether the names are the same
abbrev pub is_name_of : Name → Name → Bool
is_name_of n m = n.number == m.number

-- the names with one more at the end, where it isn't there yet
abbrev pub with_name : List Name → Name → List Name
with_name ns n = if list_any (is_name_of n) ns then ns else ns ++ n ∷ []

-- the same, but for a built-in name, which is passed over
abbrev pub with_fetched_name : List Name → Name → List Name
with_fetched_name ns n = if is_built_in n.number then ns else with_name ns n

-- the place of the name
abbrev pub place_of : List Name → Name → Option ℕ
place_of ns n = position (is_name_of n) ns

-- whether the name is among the names
abbrev pub is_among : List Name → Name → Bool
is_among ns n = list_any (is_name_of n) ns
