-- What it takes for a context, a step and what it states to be in order: only constants in force, and no loose index.
use Rattle.std.specs.Prelude.{◌≡◌, ℕ, suc, Bool, true, ◌&&◌, List, [], ◌∷◌, ◌++◌, map, Option, Some, None, Contains}
use Rattle.std.specs.List.{list_all}
use Rattle.mz_logic.specs.Term.{Term}
use Rattle.mz_logic.specs.Formula.{Formula}
use Rattle.mz_logic.specs.Indices.{closed}
use Rattle.mz_logic.specs.Derives.{Derives}
use Rattle.mz_core.specs.Statement.{Statement}
use Rattle.mz_core.specs.TypeStatements.{literal_statement}
use Rattle.mz_core.specs.Guard.{guard}
use Rattle.mz_core.specs.InForce.{term_in_force, type_in_force, statement_in_force}
use Rattle.mz_core.specs.Below.{type_below, statement_below}
use Rattle.mz_core.specs.declared.soft_type.SoftType.{SoftType}
use Rattle.mz_context.specs.Context.{next}
use Rattle.mz_context.specs.declared.context.Context.{Context}
use Rattle.mz_ground.specs.ClauseFormula.{clause_formula}
use Rattle.mz_ground.specs.declared.clause.Clause.{Clause}
use Rattle.mz_environment.specs.declared.unfoldings.Unfolding.{Unfolding}
use Rattle.mz_names.specs.declared.variable.Variable.{Variable}
use Rattle.mz_thesis_laws.specs.RowLaws.{AreInForce}
use Rattle.mz_thesis_laws.specs.StepLaws.{AreUnfoldings}
use Rattle.mz_steps.specs.declared.read_step.Definition.{Definition}
use Rattle.mz_steps.specs.declared.read_step.ReadStep.{ReadStep}
use Rattle.mz_steps.specs.declared.read_step.ReadStep.TheVariants.{Let, Assume, Given, Thus, Take, Consider, Reconsider, Set, State}
use Rattle.mz_steps_laws.specs.Facts.{known_from, statements_in}

-- constants below the number alone, and no loose index
abbrev pub TermStands : ℕ → Term → Type 0
TermStands n t = (closed t ≡ true) × (term_in_force n t ≡ true)

abbrev pub TypeStands : ℕ → SoftType → Type 0
TypeStands n ty = (type_in_force n ty ≡ true) × (type_below 0 ty ≡ true)

abbrev pub Stands : ℕ → Statement → Type 0
Stands n s = (statement_in_force n s ≡ true) × (statement_below 0 s ≡ true)

-- the type of each variable stands behind the variables before it, and the statement behind all; the first one has the
-- number n
abbrev pub AllStand : ℕ → List Variable → Statement → Type 0
AllStand n [] s = Stands n s
AllStand n (v ∷ vs) s = TypeStands n v.ty × AllStand (suc n) vs s

-- the types alone
abbrev pub AreTyped : ℕ → List Variable → Type 0
AreTyped n [] = Unit {0}
AreTyped n (v ∷ vs) = TypeStands n v.ty × AreTyped (suc n) vs

-- the term that a constant is equal to, where there is one
abbrev pub EqualStands : ℕ → Option Term → Type 0
EqualStands n None = Unit {0}
EqualStands n (Some t) = TermStands n t

abbrev pub DefinitionStands : ℕ → Definition → Type 0
DefinitionStands n d = TypeStands n d.ty × TermStands n d.term

-- what the step says stands, where the next constant has the number n
abbrev pub StepStands : ℕ → ReadStep → Type 0
StepStands n (Let v) = TypeStands n v.ty
StepStands n (Assume s) = Stands n s
StepStands n (Given vs s) = AllStand n vs s
StepStands n (Thus s) = Stands n s
StepStands n (Take t) = TermStands n t
StepStands n (Consider vs s) = AllStand n vs s
StepStands n (Reconsider d) = DefinitionStands n d
StepStands n (Set d) = DefinitionStands n d
StepStands n (State s) = Stands n s

-- the type of `set` is one that its term has
abbrev pub HasItsType : List Formula → List Formula → ReadStep → Type 0
HasItsType axioms premises (Let v) = Unit {0}
HasItsType axioms premises (Assume s) = Unit {0}
HasItsType axioms premises (Given vs s) = Unit {0}
HasItsType axioms premises (Thus s) = Unit {0}
HasItsType axioms premises (Take t) = Unit {0}
HasItsType axioms premises (Consider vs s) = Unit {0}
HasItsType axioms premises (Reconsider d) = Unit {0}
HasItsType axioms premises (Set d) = (f : Formula) → Contains (guard d.ty d.term) f → Derives axioms premises f
HasItsType axioms premises (State s) = Unit {0}

-- the clauses derive from what is held, and what the unfoldings say from the axioms
pub record AreFounded (axioms held : List Formula) (cs : List Clause) (us : List Unfolding) : Type 0 where
  pub clauses : (k : Clause) → Contains cs k → Derives axioms held (clause_formula k)
  pub unfoldings : AreUnfoldings axioms us

-- all that a context says: what is known of its constants, and its statements
abbrev pub said_in : Context → List Statement
said_in c = map literal_statement (known_from 1 c.constants) ++ statements_in c

abbrev pub is_standing : ℕ → Statement → Bool
is_standing n s = statement_in_force n s && statement_below 0 s

-- what the context says stands, and what is held besides has constants in force alone
pub record IsInOrder (held : List Formula) (c : Context) : Type 0 where
  pub said : list_all (is_standing (next c)) (said_in c) ≡ true
  pub held_in_force : AreInForce (next c) held
