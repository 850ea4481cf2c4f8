-- How large a term or formula is with terms for its places, by how large these are.
use Rattle.std.specs.Prelude.{ℕ, ◌+◌, ◌-◌, nat_lt, if◌then◌else◌, List, map, slice_index_or}
use Rattle.mz_logic.specs.Term.{Term, Terms, Bound, Const, App, none, more, terms_of}
use Rattle.mz_logic.specs.Formula.{Formula, Truth, Eq, Atom, Not, And, All}
use Rattle.mz_core.specs.Statement as statement
use Rattle.mz_core.specs.Statement.{Statement}
use Rattle.mz_core.specs.declared.adjective.Adjective.{Adjective}
use Rattle.mz_core.specs.declared.soft_type.SoftType.{SoftType}
use Rattle.mz_instance_sizes.specs.Sizes.{nothing, leaf, above, beside, all_beside}
use Rattle.mz_instance_sizes.specs.declared.size.Size.{Size}

-- that of the argument for a place; a missing one is a constant
abbrev pub size_or : List Size → ℕ → Size
size_or xs k = slice_index_or xs k leaf

-- a term below so many binders, whose further indices are the places
abbrev mutual
  pub size_at : List Size → ℕ → Term → Size
  size_at xs depth (Bound index) = if nat_lt index depth then leaf else size_or xs (index - depth)
  size_at xs depth (Const number) = leaf
  size_at xs depth (App s ts) = above (sizes_at xs depth ts)

  pub sizes_at : List Size → ℕ → Terms → Size
  sizes_at xs depth none = nothing
  sizes_at xs depth (more t ts) = beside (size_at xs depth t) (sizes_at xs depth ts)

-- a formula below so many binders
abbrev pub size_within : List Size → ℕ → Formula → Size
size_within xs depth Truth = leaf
size_within xs depth (Eq t u) = above (beside (size_at xs depth t) (size_at xs depth u))
size_within xs depth (Atom s ts) = above (sizes_at xs depth (terms_of ts))
size_within xs depth (Not f) = above (size_within xs depth f)
size_within xs depth (And f g) = above (beside (size_within xs depth f) (size_within xs depth g))
size_within xs depth (All f) = above (size_within xs (depth + 1) f)

-- an adjective and a type below so many binders
abbrev pub adjective_within : List Size → ℕ → Adjective → Size
adjective_within xs depth a = above (sizes_at xs depth (terms_of a.args))

abbrev pub type_within : List Size → ℕ → SoftType → Size
type_within xs depth ty = beside (above (sizes_at xs depth (terms_of ty.radix.args))) (all_beside (map (adjective_within xs depth) ty.adjectives))

-- a statement below so many binders; the type of a quantifier stands outside it
abbrev pub statement_within : List Size → ℕ → Statement → Size
statement_within xs depth statement.Truth = leaf
statement_within xs depth (statement.Eq t u) = above (beside (size_at xs depth t) (size_at xs depth u))
statement_within xs depth (statement.Atom s ts) = above (sizes_at xs depth (terms_of ts))
statement_within xs depth (statement.Not s) = above (statement_within xs depth s)
statement_within xs depth (statement.And s t) = above (beside (statement_within xs depth s) (statement_within xs depth t))
statement_within xs depth (statement.For ty s) = above (beside (type_within xs depth ty) (statement_within xs (depth + 1) s))
