-- What declared variables are read to.
use Rattle.std.specs.Prelude.{ℕ, List, [], ◌∷◌, ◌++◌, map, Option, Some, None, Result, Ok, Err}
use Rattle.mz_core.specs.declared.soft_type.SoftType.{SoftType}
use Rattle.mz_context.specs.declared.context.Context.{Context}
use Rattle.mz_environment.specs.declared.environment.Environment.{Environment}
use Rattle.mz_names.specs.Closing.{with_variables}
use Rattle.mz_names.specs.Names.{reserved_type, known_or}
use Rattle.mz_names.specs.declared.refusal.Refusal.{Refusal}
use Rattle.mz_names.specs.declared.variable.Variable.{Variable}
use Rattle.mz_tree.specs.Trees.{TypeData, DeclaredData, NextDeclaredList, PlainDeclared, TypedDeclared, NextNextDeclared, no_next_declareds, more_next_declareds}
use Rattle.mz_tree.specs.Views.{declared_of}
use Rattle.mz_tree.specs.declared.chain.Next.{Next}
use Rattle.mz_tree.specs.declared.nodes.DeclaredNode.{DeclaredNode}
use Rattle.mz_tree.specs.declared.word.Being.{Being}
use Rattle.mz_tree.specs.declared.word.Comma.{Comma}
use Rattle.mz_tree.specs.declared.word.Word.{Word}
use Rattle.mz_terms.specs.Types.{ReadsType}

-- where the reading of declarations has come: the context with the variables read so far in force, these variables, and the
-- identifiers that wait for their type
pub record Declaring : Type 0 where
  pub context : Context
  pub variables : List Variable
  pub waiting : List Word

-- the variable of an identifier that has the type
abbrev pub variable_of : SoftType → Word → Variable
variable_of ty w = record { name = w.spelling; ty = ty }

-- variables put into force behind those that are
abbrev pub with_more : Declaring → List Variable → Declaring
with_more s vs = record { context = with_variables s.context vs; variables = s.variables ++ vs; waiting = [] }

-- an identifier more that waits
abbrev pub with_waiting : Declaring → Word → Declaring
with_waiting s w = record { context = s.context; variables = s.variables; waiting = s.waiting ++ w ∷ [] }

-- the type of an identifier, and of all that wait for one
abbrev pub with_typed : Declaring → Word → SoftType → Declaring
with_typed s w ty = with_more s (map (variable_of ty) (s.waiting ++ w ∷ []))

-- the parts of it
abbrev pub declaring_at : Context → List Variable → List Word → Declaring
declaring_at c vs ws = record { context = c; variables = vs; waiting = ws }

-- it, unless there is a refusal
abbrev pub outcome : Option Refusal → Declaring → Result Declaring Refusal
outcome None s = Ok s
outcome (Some r) s = Err r

-- one declared identifier: without a type it waits; a type is read once, before any of the variables that have it is known
pub data Declares (e : Environment) (least : ℕ) : Declaring → DeclaredData → Result Declaring Refusal → Type 0 where
  waits : (s : Declaring) (w : Word) → Declares e least s (PlainDeclared w) (Ok (with_waiting s w))
  type_refused : (s : Declaring) (w : Word) (b : Being) (ty : TypeData) (r : Refusal) → ReadsType e s.context least ty (Err r) → Declares e least s (TypedDeclared w b ty) (Err r)
  type_read : (s : Declaring) (w : Word) (b : Being) (ty : TypeData) (t : SoftType) → ReadsType e s.context least ty (Ok t) → Declares e least s (TypedDeclared w b ty) (Ok (with_typed s w t))

-- one after another
pub data DeclaresAll (e : Environment) (least : ℕ) : Declaring → List DeclaredData → Result Declaring Refusal → Type 0 where
  no_more : (s : Declaring) → DeclaresAll e least s [] (Ok s)
  one_refused : (s : Declaring) (d : DeclaredData) (ds : List DeclaredData) (r : Refusal) → Declares e least s d (Err r) → DeclaresAll e least s (d ∷ ds) (Err r)
  one_read : (s t : Declaring) (d : DeclaredData) (ds : List DeclaredData) (o : Result Declaring Refusal) → Declares e least s d (Ok t) → DeclaresAll e least t ds o → DeclaresAll e least s (d ∷ ds) o

-- identifiers that no type follows have those with which they were reserved
abbrev pub as_variable : Word → Result SoftType Refusal → Result Variable Refusal
as_variable w (Err r) = Err r
as_variable w (Ok ty) = Ok (variable_of ty w)

abbrev pub first_then : Result Variable Refusal → Result (List Variable) Refusal → Result (List Variable) Refusal
first_then (Err r) o = Err r
first_then (Ok v) (Err r) = Err r
first_then (Ok v) (Ok vs) = Ok (v ∷ vs)

abbrev pub reserved_variable : ℕ → Context → Word → Result Variable Refusal
reserved_variable least c w = as_variable w (known_or w.place (reserved_type least c w.spelling))

abbrev pub reserved_each : ℕ → Context → List Word → Result (List Variable) Refusal
reserved_each least c [] = Ok []
reserved_each least c (w ∷ ws) = first_then (reserved_variable least c w) (reserved_each least c ws)

-- the variables behind those that are there, or the refusal
abbrev pub behind : List Variable → Result (List Variable) Refusal → Result (List Variable) Refusal
behind vs (Err r) = Err r
behind vs (Ok us) = Ok (vs ++ us)

-- declarations with commas between them
abbrev pub declared_tree : Next Comma DeclaredNode → DeclaredData
declared_tree n = declared_of n.tree

abbrev pub listed_declared : NextDeclaredList → List DeclaredData
listed_declared no_next_declareds = []
listed_declared (more_next_declareds (NextNextDeclared sign d) ds) = d ∷ listed_declared ds

-- nothing is declared yet
abbrev pub undeclared : Context → Declaring
undeclared c = record { context = c; variables = []; waiting = [] }

-- the variables that they declare
pub data ReadsDeclared (e : Environment) (least : ℕ) (c : Context) (ds : List DeclaredData) : Result (List Variable) Refusal → Type 0 where
  declared_refused : (r : Refusal) → DeclaresAll e least (undeclared c) ds (Err r) → ReadsDeclared e least c ds (Err r)
  declared_read : (s : Declaring) → DeclaresAll e least (undeclared c) ds (Ok s) → ReadsDeclared e least c ds (behind s.variables (reserved_each least s.context s.waiting))
