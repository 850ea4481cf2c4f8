-- Names in their order.
use Rattle.std.specs.Prelude.{ℕ, ◌==◌, nat_lt, if◌then◌else◌, List, [], ◌∷◌, fold}
use Rattle.std.specs.BTreeSet.{insert_key}
use Rattle.std.specs.Ordering.{on, nat_cmp}
use Rattle.mz_base.specs.declared.name.Name.{Name}

-- the names with one more at its place in the order, where it isn't there yet
abbrev pub with_ascending : List Name → Name → List Name
with_ascending ns n = insert_key (λ a b. nat_cmp a.number b.number) ns n

-- the names in their order, each once
abbrev pub sorted_names : List Name → List Name
sorted_names ns = fold with_ascending [] ns
