-- How a context changes.
use Rattle.std.specs.Prelude.{◌-◌, ℕ, zero, suc, List, [], ◌∷◌, ◌++◌, Option, Some, None, length, take, slice_set}
use Rattle.mz_core.specs.Statement.{Statement}
use Rattle.mz_context.specs.declared.constants.Constant.{Constant}
use Rattle.mz_context.specs.declared.labelled.LabelledStatement.{LabelledStatement}
use Rattle.mz_context.specs.declared.context.Mark.{Mark}
use Rattle.mz_context.specs.declared.context.Context.{Context}

-- how many places there are up to the last one that has a constant
abbrev pub places_with : ℕ → Option Constant → ℕ
places_with (suc n) o = suc (suc n)
places_with zero None = zero
places_with zero (Some k) = 1

abbrev pub places_in_use : List (Option Constant) → ℕ
places_in_use [] = zero
places_in_use (o ∷ os) = places_with (places_in_use os) o

-- these places
abbrev pub trimmed : List (Option Constant) → List (Option Constant)
trimmed os = take (places_in_use os) os

-- one more constant, with the next number
abbrev pub with_constant : Context → Constant → Context
with_constant c k = record c { constants = c.constants ++ Some k ∷ [] }

-- the constant with the number out of force
abbrev pub without_constant : Context → ℕ → Context
without_constant c n = record c { constants = trimmed (slice_set c.constants (n - 1) None) }

-- the statement under its label, if it has one
abbrev pub labelled : List ℕ → Statement → List LabelledStatement
labelled [] s = []
labelled (b ∷ bs) s = record { label = b ∷ bs; statement = s } ∷ []

-- the statement as the one just before, and under its label
abbrev pub with_statement : Context → List ℕ → Statement → Context
with_statement c label s = record c { labelled = c.labelled ++ labelled label s; previous = Some s }

-- how far the lists reach
abbrev pub mark_of : Context → Mark
mark_of c = record { constants = length c.constants; reserved = length c.reserved; labelled = length c.labelled; functors = length c.functors; predicates = length c.predicates; letters = length c.letters }

-- the lists cut back to the mark; what was there before it stays, unless it went out of force since
abbrev pub cut_back : Context → Mark → Context
cut_back c m = record c { constants = trimmed (take m.constants c.constants); reserved = take m.reserved c.reserved; labelled = take m.labelled c.labelled; functors = take m.functors c.functors; predicates = take m.predicates c.predicates; letters = take m.letters c.letters }
