-- Declared variables, where each written type is an expression of its own, whose nodes the article must have left. A type counts
-- once for all identifiers that have it. The type of an identifier that no type follows isn't written, and counts nothing.
use Rattle.std.specs.Prelude.{ℕ, List, [], ◌∷◌, ◌++◌, map, Result, Ok, Err}
use Rattle.mz_core.specs.declared.outcome.Left.{Left}
use Rattle.mz_core.specs.declared.soft_type.SoftType.{SoftType}
use Rattle.mz_context.specs.declared.context.Context.{Context}
use Rattle.mz_environment.specs.declared.environment.Environment.{Environment}
use Rattle.mz_names.specs.Closing.{with_variables}
use Rattle.mz_names.specs.declared.refusal.Refusal.{Refusal}
use Rattle.mz_names.specs.declared.variable.Variable.{Variable}
use Rattle.mz_tree.specs.Trees.{TypeData, DeclaredData, DeclarationsData, PlainDeclared, TypedDeclared}
use Rattle.mz_tree.specs.declared.word.Being.{Being}
use Rattle.mz_tree.specs.declared.word.Word.{Word}
use Rattle.mz_formulas.specs.Declarations.{Declaring, variable_of, undeclared, reserved_each, behind, listed_declared}
use Rattle.mz_resolve.specs.Calls.{TypeRead}

-- a declared identifier behind others that wait for a type: the variables that have their type now, the identifiers that wait
-- then, and what is left. Without a type it waits, too; a type is read once, before any of the variables that have it is known.
-- After a refusal any identifiers may wait and anything may be left.
pub data Declares (e : Environment) (c : Context) (least : ℕ) (waiting : List Word) (left : Left) : DeclaredData → Result (List Variable) Refusal → List Word → Left → Type 0 where
  waits : (w : Word) → Declares e c least waiting left (PlainDeclared w) (Ok []) (waiting ++ w ∷ []) left
  type_refused : (w : Word) (b : Being) (ty : TypeData) (r : Refusal) (others : List Word) (after : Left) →
      TypeRead e c least left ty (Err r) after → Declares e c least waiting left (TypedDeclared w b ty) (Err r) others after
  type_read : (w : Word) (b : Being) (ty : TypeData) (t : SoftType) (after : Left) →
      TypeRead e c least left ty (Ok t) after → Declares e c least waiting left (TypedDeclared w b ty) (Ok (map (variable_of t) (waiting ++ w ∷ []))) [] after

-- the state behind one, with the variables that have their type now in force
abbrev pub declaring_more : Declaring → List Variable → List Word → Declaring
declaring_more s vs waiting = record { context = with_variables s.context vs; variables = s.variables ++ vs; waiting = waiting }

-- one after another
pub data DeclaresAll (e : Environment) (least : ℕ) : Declaring → Left → List DeclaredData → Result Declaring Refusal → Left → Type 0 where
  no_more : (s : Declaring) (left : Left) → DeclaresAll e least s left [] (Ok s) left
  one_refused : (s : Declaring) (left after : Left) (d : DeclaredData) (ds : List DeclaredData) (others : List Word) (r : Refusal) →
      Declares e s.context least s.waiting left d (Err r) others after → DeclaresAll e least s left (d ∷ ds) (Err r) after
  one_read : (s : Declaring) (left between after : Left) (d : DeclaredData) (ds : List DeclaredData) (vs : List Variable) (others : List Word) (o : Result Declaring Refusal) →
      Declares e s.context least s.waiting left d (Ok vs) others between → DeclaresAll e least (declaring_more s vs others) between ds o after →
      DeclaresAll e least s left (d ∷ ds) o after

-- the declared identifiers of declarations
abbrev pub declared_in : DeclarationsData → List DeclaredData
declared_in ds = ds.first ∷ listed_declared ds.more

-- the variables that declarations declare: those with types, and at last the identifiers that no type follows, with the types
-- with which they were reserved
pub data DeclarationsRead (e : Environment) (c : Context) (least : ℕ) (left : Left) (ds : DeclarationsData) : Result (List Variable) Refusal → Left → Type 0 where
  declared_refused : (r : Refusal) (after : Left) → DeclaresAll e least (undeclared c) left (declared_in ds) (Err r) after → DeclarationsRead e c least left ds (Err r) after
  declared_read : (s : Declaring) (after : Left) → DeclaresAll e least (undeclared c) left (declared_in ds) (Ok s) after →
      DeclarationsRead e c least left ds (behind s.variables (reserved_each least s.context s.waiting)) after

-- the state that was come to, or the refusal
abbrev pub reached : {X : Type 0} → Result X Refusal → Declaring → Result Declaring Refusal
reached (Ok x) s = Ok s
reached (Err r) s = Err r
