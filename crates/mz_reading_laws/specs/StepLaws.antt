-- Contexts of steps stay whole, and what they say is of constants in force.
use Rattle.std.specs.Prelude.{◌≡◌, ℕ, true, List, Contains}
use Rattle.std.specs.List.{list_all}
use Rattle.mz_core.specs.Statement.{Statement}
use Rattle.mz_core.specs.Below.{statement_below}
use Rattle.mz_context.specs.Context.{next}
use Rattle.mz_context.specs.declared.context.Context.{Context}
use Rattle.mz_context.specs.declared.labelled.LabelledStatement.{LabelledStatement}
use Rattle.mz_names.specs.Closing.{with_variables}
use Rattle.mz_names.specs.declared.variable.Variable.{Variable}
use Rattle.mz_steps.specs.Rows.{constant_for, with_constants}
use Rattle.mz_steps.specs.Changes.{context_after, at_start_of_proof, at_start_of_now}
use Rattle.mz_steps.specs.declared.block.Effect.{Effect}
use Rattle.mz_steps.specs.declared.block.Effect.TheVariants.{Unchanged, Leaves, Says}
use Rattle.mz_steps.specs.declared.read_step.ReadStep.{ReadStep}
use Rattle.mz_steps.specs.declared.read_step.ReadStep.TheVariants.{Let, Assume, Given, Thus, Take, Consider, Reconsider, Set, State}
use Rattle.mz_thesis_laws.specs.RowLaws.{AreInForce}
use Rattle.mz_steps_laws.specs.Facts.{statements_in, facts}
use Rattle.mz_steps_laws.specs.StepLaws.{AreDeclared}
use Rattle.mz_term_laws.specs.Usable.{term_usable, type_usable, statement_usable}
use Rattle.mz_term_laws.specs.Whole.{IsUsableConstant, IsWhole}
use Rattle.mz_term_laws.specs.ChangeLaws.{AreUsable}

-- what a step says was read there
abbrev pub IsUsableStep : ℕ → Context → ReadStep → Type 0
IsUsableStep least c (Let v) = type_usable least c v.ty ≡ true
IsUsableStep least c (Assume s) = statement_usable least c s ≡ true
IsUsableStep least c (Given vs s) = AreUsable least c vs × (statement_usable least (with_variables c vs) s ≡ true)
IsUsableStep least c (Thus s) = statement_usable least c s ≡ true
IsUsableStep least c (Take t) = term_usable least c t ≡ true
IsUsableStep least c (Consider vs s) = AreUsable least c vs × (statement_usable least (with_variables c vs) s ≡ true)
IsUsableStep least c (Reconsider d) = IsUsableConstant least c (constant_for d)
IsUsableStep least c (Set d) = IsUsableConstant least c (constant_for d)
IsUsableStep least c (State s) = statement_usable least c s ≡ true

-- so is the thesis that it leaves
abbrev pub LeavesUsable : ℕ → Context → Effect → Type 0
LeavesUsable least c Unchanged = Unit {0}
LeavesUsable least c (Leaves s) = statement_usable least c s ≡ true
LeavesUsable least c (Says ps) = Unit {0}

abbrev pub AreUsableStatements : ℕ → Context → List LabelledStatement → Type 0
AreUsableStatements least c ps = (p : LabelledStatement) → Contains ps p → statement_usable least c p.statement ≡ true

-- the context behind a step
abbrev pub ContextAfterLaw : Type 0
ContextAfterLaw =
    (least : ℕ) (c : Context) → IsWhole least c → (s : ReadStep) → IsUsableStep least c s → (e : Effect) → LeavesUsable least (with_constants c s) e →
    (ps : List LabelledStatement) → AreUsableStatements least (with_constants c s) ps → IsWhole least (context_after c s e ps)

-- the context at the start of a block
abbrev pub StartLaw : Type 0
StartLaw = (least : ℕ) (c : Context) → IsWhole least c → ((s : Statement) → statement_usable least c s ≡ true → IsWhole least (at_start_of_proof c s)) × IsWhole least (at_start_of_now c)

-- all that a context says is of constants in force
abbrev pub FactsInForceLaw : Type 0
FactsInForceLaw = (c : Context) → IsWhole 0 c → AreInForce (next c) (facts c)

-- and no statement of it has a loose index
abbrev pub FactsClosedLaw : Type 0
FactsClosedLaw = (c : Context) → IsWhole 0 c → list_all (statement_below 0) (statements_in c) ≡ true

-- so it is with declared variables and a statement in which they are in force
abbrev pub DeclaredInForceLaw : Type 0
DeclaredInForceLaw = (least : ℕ) (c : Context) (vs : List Variable) (s : Statement) → AreUsable least c vs → statement_usable least (with_variables c vs) s ≡ true → AreDeclared (next c) vs s
