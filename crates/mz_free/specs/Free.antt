-- The free reserved variables of a sentence.
use Rattle.std.specs.Prelude.{ℕ, if◌then◌else◌, List, [], ◌∷◌, ◌++◌, Option, Some, None}
use Rattle.std.specs.List.{filter}
use Rattle.mz_core.specs.declared.soft_type.SoftType.{SoftType}
use Rattle.mz_tree.specs.Trees.{FormulaData}
use Rattle.mz_context.specs.declared.context.Context.{Context}
use Rattle.mz_names.specs.Names.{reserved_type, is_only_reserved}
use Rattle.mz_names.specs.declared.variable.Variable.{Variable}
use Rattle.mz_free.specs.Occurring.{is_among, in_formula}

-- each name once, where it stands first, behind those that are there
abbrev pub once_behind : List (List ℕ) → List (List ℕ) → List (List ℕ)
once_behind there [] = there
once_behind there (n ∷ ns) = if is_among there n then once_behind there ns else once_behind (there ++ n ∷ []) ns

-- one name more at the end, unless it is there
abbrev pub once_more : List (List ℕ) → List ℕ → List (List ℕ)
once_more there n = if is_among there n then there else there ++ n ∷ []

-- the names that are read to reserved variables, in the order of their first occurrence
abbrev pub free_names : ℕ → Context → FormulaData → List (List ℕ)
free_names least c f = once_behind [] (filter (is_only_reserved least c) (in_formula f))

-- the same with the types with which they were reserved
abbrev pub if_typed : List ℕ → Option SoftType → List Variable
if_typed name None = []
if_typed name (Some ty) = record { name = name; ty = ty } ∷ []

abbrev pub as_reserved : ℕ → Context → List (List ℕ) → List Variable
as_reserved least c [] = []
as_reserved least c (n ∷ ns) = if_typed n (reserved_type least c n) ++ as_reserved least c ns

abbrev pub free_variables : ℕ → Context → FormulaData → List Variable
free_variables least c f = as_reserved least c (free_names least c f)
