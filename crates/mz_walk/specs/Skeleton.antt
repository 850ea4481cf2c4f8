-- The steps of the skeleton: `let`, `assume`, `given` and `take`. Lists are taken one by one: each member is read, fits and is in
-- force before the next is read. `first` is the place of the step's first token. The proofs of an article may use all its
-- constants, so nothing is read with a least one above 0.
use Rattle.std.specs.Prelude.{◌≡◌, true, false, List, [], ◌∷◌, ◌++◌, map, Option, Some, None, Result, Ok, Err}
use Rattle.mz_base.specs.declared.place.Place.{Place}
use Rattle.mz_logic.specs.Term.{Term}
use Rattle.mz_core.specs.declared.outcome.Left.{Left}
use Rattle.mz_context.specs.declared.labelled.LabelledStatement.{LabelledStatement}
use Rattle.mz_environment.specs.declared.environment.Environment.{Environment}
use Rattle.mz_names.specs.declared.refusal.Refusal.{Refusal}
use Rattle.mz_names.specs.declared.variable.Variable.{Variable}
use Rattle.mz_tree.specs.Trees.{DeclaredData, TermData}
use Rattle.mz_tree.specs.declared.word.Word.{Word}
use Rattle.mz_formulas.specs.Declarations.{reserved_variable}
use Rattle.mz_formulas.specs.declared.sentence.Sentence.{Sentence}
use Rattle.mz_resolve.specs.Calls.{TermRead, SentenceRead}
use Rattle.mz_cited.specs.Cited.{members}
use Rattle.mz_tree_proof.specs.declared.introduction.NamedTermTree.{NamedTermTree}
use Rattle.mz_tree_proof.specs.declared.propositions.PropositionTree.{PropositionTree}
use Rattle.mz_tree_proof.specs.declared.propositions.SuchTree.{SuchTree}
use Rattle.mz_tree_proof.specs.declared.skeleton.AssumeTree.{AssumeTree}
use Rattle.mz_tree_proof.specs.declared.skeleton.GivenTree.{GivenTree}
use Rattle.mz_tree_proof.specs.declared.skeleton.LetTree.{LetTree}
use Rattle.mz_tree_proof.specs.declared.skeleton.SkeletonTree.{SkeletonTree}
use Rattle.mz_tree_proof.specs.declared.skeleton.SkeletonTree.TheVariants.{Let, Assume, Given, Take}
use Rattle.mz_tree_proof.specs.declared.skeleton.TakeTree.{TakeTree}
use Rattle.mz_tree_proof.specs.declared.skeleton.TakenTree.{TakenTree}
use Rattle.mz_tree_proof.specs.declared.skeleton.TakenTree.TheVariants.{Plain, Named}
use Rattle.mz_steps.specs.declared.read_step.Definition.{Definition}
use Rattle.mz_steps.specs.declared.read_step.ReadStep.{ReadStep}
use Rattle.mz_steps.specs.declared.read_step.ReadStep.TheVariants as read
use Rattle.mz_parts.specs.Declarations.{Declares, declared_in}
use Rattle.mz_parts.specs.Described.{DescriptionRead}
use Rattle.mz_parts.specs.Named.{NamedRead}
use Rattle.mz_parts.specs.Propositions.{stated_by, propositions_in, hypotheses_in}
use Rattle.mz_parts.specs.declared.described.Description.{Description}
use Rattle.mz_justified.specs.declared.proof_fault.ProofRefusal.{ProofRefusal}
use Rattle.mz_justified.specs.declared.proof_fault.ProofRefusal.TheVariants.{StepNoFit, Resolve}
use Rattle.mz_walk.specs.Walked.{State, with_left, OneByOne}
use Rattle.mz_walk.specs.Performing.{Performs, PerformsAlone, stating_within, is_now}

-- each variable by a `let` of its own
abbrev pub lets : List Variable → List ReadStep
lets vs = map read.Let vs

-- where a `let` has come: the state with the variables so far in force, and the identifiers that wait for a type
pub record Letting : Type 0 where
  pub state : State
  pub waiting : List Word

abbrev pub letting : State → List Word → Letting
letting s ws = record { state = s; waiting = ws }

-- the same state with other identifiers that wait, or the refusal
abbrev pub letting_then : List Word → Result State ProofRefusal → Result Letting ProofRefusal
letting_then ws (Ok s) = Ok (letting s ws)
letting_then ws (Err r) = Err r

-- a declared identifier: the variables that have their type now are put into force
pub data LetsDeclared (e : Environment) (first : Place) (s : Letting) (d : DeclaredData) : Result Letting ProofRefusal → Type 0 where
  not_read : (others : List Word) (r : Refusal) (l : Left) → Declares e s.state.context 0 s.waiting s.state.left d (Err r) others l → LetsDeclared e first s d (Err (Resolve r))
  declared : (others : List Word) (vs : List Variable) (l : Left) (o : Result State ProofRefusal) → Declares e s.state.context 0 s.waiting s.state.left d (Ok vs) others l →
      OneByOne (PerformsAlone e first) (with_left s.state l) (lets vs) o → LetsDeclared e first s d (letting_then others o)

-- an identifier that no type follows: it has the type with which it was reserved
pub data LetsReserved (e : Environment) (first : Place) (s : State) (w : Word) : Result State ProofRefusal → Type 0 where
  not_reserved : (r : Refusal) → reserved_variable 0 s.context w ≡ Err r → LetsReserved e first s w (Err (Resolve r))
  reserved : (v : Variable) (o : Result State ProofRefusal) → reserved_variable 0 s.context w ≡ Ok v → PerformsAlone e first s (read.Let v) o → LetsReserved e first s w o

-- all declared identifiers, and then those that still wait
pub data Lets (e : Environment) (first : Place) (s : State) (ds : List DeclaredData) : Result State ProofRefusal → Type 0 where
  not_declared : (r : ProofRefusal) → OneByOne (LetsDeclared e first) (letting s []) ds (Err r) → Lets e first s ds (Err r)
  all_declared : (t : Letting) (o : Result State ProofRefusal) → OneByOne (LetsDeclared e first) (letting s []) ds (Ok t) → OneByOne (LetsReserved e first) t.state t.waiting o → Lets e first s ds o

-- where an assumption has come: the state behind the hypotheses so far, and what these state
pub record Assuming : Type 0 where
  pub state : State
  pub stated : List LabelledStatement

abbrev pub assuming : State → List LabelledStatement → Assuming
assuming s ps = record { state = s; stated = ps }

abbrev pub assuming_then : List LabelledStatement → Result State ProofRefusal → Result Assuming ProofRefusal
assuming_then ps (Ok s) = Ok (assuming s ps)
assuming_then ps (Err r) = Err r

-- a hypothesis
pub data AssumesOne (e : Environment) (first : Place) (s : Assuming) (t : PropositionTree) : Result Assuming ProofRefusal → Type 0 where
  not_read : (r : Refusal) (l : Left) → SentenceRead e s.state.context 0 s.state.left t.formula (Err r) l → AssumesOne e first s t (Err (Resolve r))
  assumed : (p : Sentence) (l : Left) (o : Result State ProofRefusal) → SentenceRead e s.state.context 0 s.state.left t.formula (Ok p) l →
      PerformsAlone e first (with_left s.state l) (read.Assume p.closed) o → AssumesOne e first s t (assuming_then (s.stated ++ stated_by t p ∷ []) o)

-- hypotheses; all are stated together behind the last one
pub data Assumes (e : Environment) (first : Place) (s : State) (ts : List PropositionTree) : Result State ProofRefusal → Type 0 where
  not_assumed : (r : ProofRefusal) → OneByOne (AssumesOne e first) (assuming s []) ts (Err r) → Assumes e first s ts (Err r)
  all_assumed : (t : Assuming) → OneByOne (AssumesOne e first) (assuming s []) ts (Ok t) → Assumes e first s ts (stating_within first t.state t.stated)

-- what is assumed behind `let`
abbrev pub conditions_in : Option SuchTree → List PropositionTree
conditions_in None = []
conditions_in (Some t) = propositions_in t.propositions

-- `let x be T such that A` is `let x be T`, and then `assume A`
pub data LetsSuch (e : Environment) (first : Place) (s : State) (t : LetTree) : Result State ProofRefusal → Type 0 where
  not_let : (r : ProofRefusal) → Lets e first s (declared_in t.declarations) (Err r) → LetsSuch e first s t (Err r)
  let_such : (u : State) (o : Result State ProofRefusal) → Lets e first s (declared_in t.declarations) (Ok u) → Assumes e first u (conditions_in t.such) o → LetsSuch e first s t o

-- `given x being T such that A`
pub data Gives (e : Environment) (first : Place) (s : State) (t : GivenTree) : Result State ProofRefusal → Type 0 where
  not_read : (r : Refusal) (l : Left) → DescriptionRead e s.context 0 s.left first t.declarations t.such.propositions (Err r) l → Gives e first s t (Err (Resolve r))
  given : (d : Description) (l : Left) (o : Result State ProofRefusal) → DescriptionRead e s.context 0 s.left first t.declarations t.such.propositions (Ok d) l →
      Performs e first (with_left s l) (read.Given d.variables d.statement) d.propositions o → Gives e first s t o

-- an example: `take x = t` is `take t` and then `set x = t`
pub data TakesOne (e : Environment) (first : Place) (s : State) : TakenTree → Result State ProofRefusal → Type 0 where
  not_read : (t : TermData) (r : Refusal) (l : Left) → TermRead e s.context 0 s.left t (Err r) l → TakesOne e first s (Plain t) (Err (Resolve r))
  taken : (t : TermData) (a : Term) (l : Left) (o : Result State ProofRefusal) → TermRead e s.context 0 s.left t (Ok a) l → PerformsAlone e first (with_left s l) (read.Take a) o → TakesOne e first s (Plain t) o
  not_named : (n : NamedTermTree) (r : Refusal) (l : Left) → NamedRead e s.context 0 s.left n (Err r) l → TakesOne e first s (Named n) (Err (Resolve r))
  named : (n : NamedTermTree) (d : Definition) (l : Left) (o : Result State ProofRefusal) → NamedRead e s.context 0 s.left n (Ok d) l →
      OneByOne (PerformsAlone e first) (with_left s l) (read.Take d.term ∷ read.Set d ∷ []) o → TakesOne e first s (Named n) o

-- a step of the skeleton. Directly within a `now` a `take` doesn't fit, whatever it takes
pub data StepsOn (e : Environment) (first : Place) (s : State) : SkeletonTree → Result State ProofRefusal → Type 0 where
  lets_such : (t : LetTree) (o : Result State ProofRefusal) → LetsSuch e first s t o → StepsOn e first s (Let t) o
  assumes : (t : AssumeTree) (o : Result State ProofRefusal) → Assumes e first s (hypotheses_in t.hypotheses) o → StepsOn e first s (Assume t) o
  gives : (t : GivenTree) (o : Result State ProofRefusal) → Gives e first s t o → StepsOn e first s (Given t) o
  take_in_now : (t : TakeTree) → is_now s.block ≡ true → StepsOn e first s (Take t) (Err (StepNoFit first))
  takes : (t : TakeTree) (o : Result State ProofRefusal) → is_now s.block ≡ false → OneByOne (TakesOne e first) s (members t.taken) o → StepsOn e first s (Take t) o
