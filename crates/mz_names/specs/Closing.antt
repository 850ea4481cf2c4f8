-- Variables put into force, and the way back from their constants to indices.
use Rattle.std.specs.Prelude.{ℕ, suc, List, [], ◌∷◌, None}
use Rattle.mz_core.specs.Abstraction.{statement_over}
use Rattle.mz_core.specs.Statement.{Statement, For}
use Rattle.mz_core.specs.StatementForms.{opposite}
use Rattle.mz_context.specs.Changes.{with_constant}
use Rattle.mz_context.specs.declared.constants.Constant.{Constant}
use Rattle.mz_context.specs.declared.context.Context.{Context}
use Rattle.mz_names.specs.declared.variable.Variable.{Variable}

-- a variable as a constant
abbrev pub constant_of : Variable → Constant
constant_of v = record { name = v.name; ty = v.ty; equal = None }

-- the context with the variables in force, one after another. The type of each may have the constants of those before it
abbrev pub with_variables : Context → List Variable → Context
with_variables c [] = c
with_variables c (v ∷ vs) = with_variables (with_constant c (constant_of v)) vs

-- for x1 being T1, .., xk being Tk holds s, where the variables are the constants from n on
abbrev pub for_all : ℕ → List Variable → Statement → Statement
for_all n [] s = s
for_all n (v ∷ vs) s = For v.ty (statement_over n 0 (for_all (suc n) vs s))

-- ex x1 being T1, .., xk being Tk st s: not for all of them holds not s
abbrev pub there_are : ℕ → List Variable → Statement → Statement
there_are n vs s = opposite (for_all n vs (opposite s))
