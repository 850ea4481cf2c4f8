-- The table of steps: for each form of a step what it makes of the thesis, which constants it puts into force, what
-- has to be justified, and what it states in a `now`.
use Rattle.std.specs.Prelude.{ℕ, suc, Bool, true, false, List, [], ◌∷◌, Option, Some, None}
use Rattle.mz_core.specs.Statement.{Statement}
use Rattle.mz_core.specs.TypeStatements.{is_of_type}
use Rattle.mz_context.specs.Context.{next}
use Rattle.mz_context.specs.Changes.{with_constant}
use Rattle.mz_context.specs.declared.constants.Constant.{Constant}
use Rattle.mz_context.specs.declared.context.Context.{Context}
use Rattle.mz_names.specs.Closing.{constant_of, with_variables, there_are}
use Rattle.mz_names.specs.declared.variable.Variable.{Variable}
use Rattle.mz_thesis.specs.declared.step.Step.{Step}
use Rattle.mz_thesis.specs.declared.step.Step.TheVariants as step
use Rattle.mz_now.specs.Stated.{defined}
use Rattle.mz_now.specs.declared.now_part.NowPart.{NowPart}
use Rattle.mz_now.specs.declared.now_part.NowPart.TheVariants.{Quantifier, Antecedent, Conjunct, Hidden}
use Rattle.mz_steps.specs.declared.read_step.Definition.{Definition}
use Rattle.mz_steps.specs.declared.read_step.ReadStep.{ReadStep}
use Rattle.mz_steps.specs.declared.read_step.ReadStep.TheVariants.{Let, Assume, Given, Thus, Take, Consider, Reconsider, Set, State}

-- the step that changes the thesis; none where it stays. `given` assumes its existential
abbrev pub thesis_step : Context → ReadStep → Option Step
thesis_step c (Let v) = Some (step.Let (next c) v.ty)
thesis_step c (Assume s) = Some (step.Assume s)
thesis_step c (Given vs s) = Some (step.Assume (there_are (next c) vs s))
thesis_step c (Thus s) = Some (step.Thus s)
thesis_step c (Take t) = Some (step.Take t)
thesis_step c (Consider vs s) = None
thesis_step c (Reconsider d) = None
thesis_step c (Set d) = None
thesis_step c (State s) = None

-- a definition as a constant, which is equal to its term
abbrev pub constant_for : Definition → Constant
constant_for d = record { name = d.name; ty = d.ty; equal = Some d.term }

-- the context with the constants that the step puts into force
abbrev pub with_constants : Context → ReadStep → Context
with_constants c (Let v) = with_constant c (constant_of v)
with_constants c (Assume s) = c
with_constants c (Given vs s) = with_variables c vs
with_constants c (Thus s) = c
with_constants c (Take t) = c
with_constants c (Consider vs s) = with_variables c vs
with_constants c (Reconsider d) = with_constant c (constant_for d)
with_constants c (Set d) = with_constant c (constant_for d)
with_constants c (State s) = c

-- what has to be justified, where anything has
abbrev pub owed : Context → ReadStep → Option Statement
owed c (Let v) = None
owed c (Assume s) = None
owed c (Given vs s) = None
owed c (Thus s) = Some s
owed c (Take t) = None
owed c (Consider vs s) = Some (there_are (next c) vs s)
owed c (Reconsider d) = Some (is_of_type d.ty d.term)
owed c (Set d) = None
owed c (State s) = Some s

-- the constants from the number n on, one for each variable, are hidden
abbrev pub hidden_from : ℕ → List Variable → List NowPart
hidden_from n [] = []
hidden_from n (v ∷ vs) = Hidden n ∷ hidden_from (suc n) vs

-- what the step adds to what a `now` states by the parts before
abbrev pub parts_said : List NowPart → Context → ReadStep → List NowPart
parts_said ps c (Let v) = Quantifier (next c) v.ty ∷ []
parts_said ps c (Assume s) = Antecedent s ∷ []
parts_said ps c (Given vs s) = Antecedent (there_are (next c) vs s) ∷ hidden_from (next c) vs
parts_said ps c (Thus s) = Conjunct s ∷ []
parts_said ps c (Take t) = []
parts_said ps c (Consider vs s) = hidden_from (next c) vs
parts_said ps c (Reconsider d) = defined ps (next c) d.term ∷ []
parts_said ps c (Set d) = defined ps (next c) d.term ∷ []
parts_said ps c (State s) = []

-- the step may stand directly within a `now`
abbrev pub stands_in_now : ReadStep → Bool
stands_in_now (Let v) = true
stands_in_now (Assume s) = true
stands_in_now (Given vs s) = true
stands_in_now (Thus s) = true
stands_in_now (Take t) = false
stands_in_now (Consider vs s) = true
stands_in_now (Reconsider d) = true
stands_in_now (Set d) = true
stands_in_now (State s) = true
