-- Shifts, and the simultaneous substitution of terms for indices.
use Rattle.std.specs.Prelude.{ℕ, zero, suc, ◌+◌, ◌-◌, List, [], ◌∷◌, map, nat_lt, if◌then◌else◌, slice_index_or}
use Rattle.mz_logic.specs.Term.{Term, Terms, Bound, Const, App, none, more}
use Rattle.mz_logic.specs.Formula.{Formula, Truth, Eq, Atom, Not, And, All}
use Rattle.mz_logic.specs.declared.beyond.Beyond.{Beyond}
use Rattle.mz_logic.specs.declared.beyond.Beyond.TheVariants.{Lowered, Kept, Zero}

-- an index with `by` more binders outside the innermost `from`: those below `from` stay
abbrev pub index_shifted : ℕ → ℕ → ℕ → ℕ
index_shifted from by index = if nat_lt index from then index else index + by

-- a term with `by` more binders outside the innermost `from`
abbrev mutual
  pub shift : ℕ → ℕ → Term → Term
  shift from by (Bound index) = Bound (index_shifted from by index)
  shift from by (Const number) = Const number
  shift from by (App s ts) = App s (shift_args from by ts)

  pub shift_args : ℕ → ℕ → Terms → Terms
  shift_args from by none = none
  shift_args from by (more t ts) = more (shift from by t) (shift_args from by ts)

-- a formula with `by` more binders outside the innermost `from`
abbrev pub shift_formula : ℕ → ℕ → Formula → Formula
shift_formula from by Truth = Truth
shift_formula from by (Eq t u) = Eq (shift from by t) (shift from by u)
shift_formula from by (Atom s ts) = Atom s (map (shift from by) ts)
shift_formula from by (Not f) = Not (shift_formula from by f)
shift_formula from by (And f g) = And (shift_formula from by f) (shift_formula from by g)
shift_formula from by (All f) = All (shift_formula (from + 1) by f)

-- a term for an index below `depth` binders: an index that these bind stays; any other is counted from
-- outside them, and its value, a term from outside them, is shifted by them
abbrev pub index_substituted : ℕ → (ℕ → Term) → ℕ → Term
index_substituted depth values index =
    if nat_lt index depth then Bound index else shift 0 depth (values (index - depth))

-- a term below `depth` binders, with the values for all indices at once
abbrev mutual
  pub substitute : ℕ → (ℕ → Term) → Term → Term
  substitute depth values (Bound index) = index_substituted depth values index
  substitute depth values (Const number) = Const number
  substitute depth values (App s ts) = App s (substitute_args depth values ts)

  pub substitute_args : ℕ → (ℕ → Term) → Terms → Terms
  substitute_args depth values none = none
  substitute_args depth values (more t ts) = more (substitute depth values t) (substitute_args depth values ts)

-- a formula below `depth` binders, with the values for all indices at once
abbrev pub substitute_formula : ℕ → (ℕ → Term) → Formula → Formula
substitute_formula depth values Truth = Truth
substitute_formula depth values (Eq t u) = Eq (substitute depth values t) (substitute depth values u)
substitute_formula depth values (Atom s ts) = Atom s (map (substitute depth values) ts)
substitute_formula depth values (Not f) = Not (substitute_formula depth values f)
substitute_formula depth values (And f g) = And (substitute_formula depth values f) (substitute_formula depth values g)
substitute_formula depth values (All f) = All (substitute_formula (depth + 1) values f)

-- the terms of a list for the indices from 0 on, whose binders go away: a further index is lowered by
-- their number
abbrev pub value_at : List Term → ℕ → Term
value_at [] index = Bound index
value_at (t ∷ ts) zero = t
value_at (t ∷ ts) (suc index) = value_at ts index

-- the arguments for the places from 0 on; `Const(0)` stands for a missing one
abbrev pub argument_at : List Term → ℕ → Term
argument_at args index = slice_index_or args index (Const 0)

-- the terms of a list for the indices from 0 on; a further index stays
abbrev pub kept_at : List Term → ℕ → Term
kept_at ts index = slice_index_or ts index (Bound index)

-- the values that a list of terms gives, by what becomes of an index beyond it
abbrev pub values_of : Beyond → List Term → ℕ → Term
values_of Lowered ts = value_at ts
values_of Kept ts = kept_at ts
values_of Zero ts = argument_at ts

-- the body of a quantifier at a term
abbrev pub body_at : Formula → Term → Formula
body_at body t = substitute_formula 0 (value_at (t ∷ [])) body
