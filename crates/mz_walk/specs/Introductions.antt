-- Statements that introduce names: `consider`, `reconsider`, `set`, `deffunc` and `defpred`. `first` is the place of the step's first token. Behind
-- `then` a statement just before is wanted, which is looked for before anything is read. Each is read, then it is justified where
-- it stands, and then its constants are in force.
use Rattle.std.specs.Prelude.{◌≡◌, Bool, true, false, is_some, List, [], ◌∷◌, map, Option, Some, None, Result, Ok, Err}
use Rattle.mz_base.specs.declared.place.Place.{Place}
use Rattle.mz_core.specs.Statement.{Statement}
use Rattle.mz_core.specs.TypeStatements.{is_of_type}
use Rattle.mz_core.specs.declared.outcome.Left.{Left}
use Rattle.mz_context.specs.Context.{next}
use Rattle.mz_context.specs.declared.context.Context.{Context}
use Rattle.mz_context.specs.declared.private.PrivateFunctor.{PrivateFunctor}
use Rattle.mz_context.specs.declared.private.PrivatePredicate.{PrivatePredicate}
use Rattle.mz_environment.specs.declared.environment.Environment.{Environment}
use Rattle.mz_names.specs.Closing.{there_are}
use Rattle.mz_names.specs.declared.refusal.Refusal.{Refusal}
use Rattle.mz_names.specs.declared.refusal.Refusal.TheVariants.{TooLarge}
use Rattle.mz_cited.specs.Cited.{members}
use Rattle.mz_tree_proof.specs.declared.introduction.ConsiderTree.{ConsiderTree}
use Rattle.mz_tree_proof.specs.declared.introduction.DefpredTree.{DefpredTree}
use Rattle.mz_tree_proof.specs.declared.introduction.DeffuncTree.{DeffuncTree}
use Rattle.mz_tree_proof.specs.declared.introduction.IntroductionTree.{IntroductionTree}
use Rattle.mz_tree_proof.specs.declared.introduction.IntroductionTree.TheVariants.{Consider, Reconsider, Set, Deffunc, Defpred}
use Rattle.mz_tree_proof.specs.declared.introduction.NamedTermTree.{NamedTermTree}
use Rattle.mz_tree_proof.specs.declared.introduction.ReconsiderTree.{ReconsiderTree}
use Rattle.mz_tree_proof.specs.declared.introduction.SetTree.{SetTree}
use Rattle.mz_tree_proof.specs.declared.references.SimpleTree.{SimpleTree}
use Rattle.mz_steps.specs.declared.read_step.Definition.{Definition}
use Rattle.mz_steps.specs.declared.read_step.ReadStep.{ReadStep}
use Rattle.mz_steps.specs.declared.read_step.ReadStep.TheVariants as read
use Rattle.mz_obligations.specs.Obligations.{obligation_spent}
use Rattle.mz_obligations.specs.declared.obligation.Extent.{Extent}
use Rattle.mz_obligations.specs.declared.obligation.Obligation.{Obligation}
use Rattle.mz_parts.specs.Described.{DescriptionRead}
use Rattle.mz_parts.specs.Named.{NamedRead, RetypedRead}
use Rattle.mz_parts.specs.declared.described.Description.{Description}
use Rattle.mz_private.specs.Private.{FunctorRead, PredicateRead, with_functor, with_predicate}
use Rattle.mz_given.specs.declared.given.Given.{Given}
use Rattle.mz_justified.specs.Kept.{justifications_keep}
use Rattle.mz_justified.specs.Justified.{Grounds, Owes, Justified, place_of}
use Rattle.mz_justified.specs.declared.proof_fault.ProofRefusal.{ProofRefusal}
use Rattle.mz_justified.specs.declared.proof_fault.ProofRefusal.TheVariants.{StepNoFit, Resolve, TooManyObligations}
use Rattle.mz_walk.specs.Walked.{State, state, with_left, OneByOne, Walked, Made, Refused, without_obligations, behind}
use Rattle.mz_walk.specs.Within.{all_kept}
use Rattle.mz_walk.specs.Performing.{Performs, PerformsAlone, is_linked}

-- an obligation spent for each; none where there are fewer left
abbrev pub spent_then : (Left → Option Left) → Option Left → Option Left
spent_then more None = None
spent_then more (Some l) = more l

abbrev pub spent_for : List Statement → Left → Option Left
spent_for [] l = Some l
spent_for (s ∷ ss) l = spent_then (spent_for ss) (obligation_spent l)

-- the obligations of statements by what is given, in their order, all at one place
pub data OwesEach (e : Environment) (at : Extent) (c : Context) (given : Given) (place : Place) : List Statement → List Obligation → Type 0 where
  owes_none : OwesEach e at c given place [] []
  owes_more : (s : Statement) (ss : List Statement) (o : Obligation) (os : List Obligation) → Owes e at c given s place o → OwesEach e at c given place ss os → OwesEach e at c given place (s ∷ ss) (o ∷ os)

-- statements that are all justified by the same references: no instance of a scheme for one of them is too large, and an obligation for
-- each has to be left before the references are looked at
pub data JustifiesEach (e : Environment) (at : Extent) (c : Context) (first : Place) (linked : Bool) (place : Place) (t : SimpleTree) : List Statement → Left → Walked Left → Type 0 where
  none_owed : (l : Left) → JustifiesEach e at c first linked place t [] l (Made [] l)
  too_large : (s : Statement) (ss : List Statement) (l : Left) → justifications_keep e c linked t (s ∷ ss) ≡ false → JustifiesEach e at c first linked place t (s ∷ ss) l (Refused (Resolve (TooLarge first)))
  too_many : (s : Statement) (ss : List Statement) (l : Left) → justifications_keep e c linked t (s ∷ ss) ≡ true → spent_for ss l ≡ None →
      JustifiesEach e at c first linked place t (s ∷ ss) l (Refused (TooManyObligations (place_of place t)))
  not_grounded : (s : Statement) (ss : List Statement) (l m after : Left) (r : ProofRefusal) → justifications_keep e c linked t (s ∷ ss) ≡ true → spent_for ss l ≡ Some m →
      Grounds e c first linked place t m (Err r) after → JustifiesEach e at c first linked place t (s ∷ ss) l (Refused r)
  each_owed : (s : Statement) (ss : List Statement) (given : Given) (l m after : Left) (os : List Obligation) → justifications_keep e c linked t (s ∷ ss) ≡ true → spent_for ss l ≡ Some m →
      Grounds e c first linked place t m (Ok given) after → OwesEach e at c given (place_of place t) (s ∷ ss) os → JustifiesEach e at c first linked place t (s ∷ ss) l (Made os after)

-- `consider x being T such that A`: that there is such an object has to be justified. The step fits wherever it stands
pub data Considers (e : Environment) (at : Extent) (first : Place) (s : State) (t : ConsiderTree) : Walked State → Type 0 where
  follows_nothing : is_linked (is_some t.then) s.context.previous ≡ false → Considers e at first s t (Refused (StepNoFit first))
  not_read : (r : Refusal) (l : Left) → is_linked (is_some t.then) s.context.previous ≡ true →
      DescriptionRead e s.context 0 s.left first t.declarations t.such.propositions (Err r) l → Considers e at first s t (Refused (Resolve r))
  not_justified : (d : Description) (l m : Left) (r : ProofRefusal) → is_linked (is_some t.then) s.context.previous ≡ true →
      DescriptionRead e s.context 0 s.left first t.declarations t.such.propositions (Ok d) l →
      Justified e at s.context first (is_some t.then) t.semicolon t.simple (there_are (next s.context) d.variables d.statement) l (Err r) m → Considers e at first s t (Refused r)
  considered : (d : Description) (l m : Left) (x : Obligation) (o : Result State ProofRefusal) → is_linked (is_some t.then) s.context.previous ≡ true →
      DescriptionRead e s.context 0 s.left first t.declarations t.such.propositions (Ok d) l →
      Justified e at s.context first (is_some t.then) t.semicolon t.simple (there_are (next s.context) d.variables d.statement) l (Ok x) m →
      Performs e first (with_left s m) (read.Consider d.variables d.statement) d.propositions o → Considers e at first s t (behind (x ∷ []) (without_obligations o))

-- that the terms are of their types; none where one of these statements is beyond the limits
abbrev pub type_owed : Definition → Statement
type_owed d = is_of_type d.ty d.term

abbrev pub types_owed : List Definition → Option (List Statement)
types_owed ds = all_kept (map type_owed ds)

-- names for terms of a new type: for each it has to be justified that its term is of the type, by the same references and with
-- the statement just before the step; then they are in force. The step fits wherever it stands
pub data Retypes (e : Environment) (at : Extent) (first : Place) (s : State) (t : ReconsiderTree) (ds : List Definition) : Walked State → Type 0 where
  too_large : types_owed ds ≡ None → Retypes e at first s t ds (Refused (Resolve (TooLarge first)))
  not_justified : (ss : List Statement) (r : ProofRefusal) → types_owed ds ≡ Some ss → JustifiesEach e at s.context first (is_some t.then) t.semicolon t.simple ss s.left (Refused r) → Retypes e at first s t ds (Refused r)
  retyped : (ss : List Statement) (m : Left) (os : List Obligation) (o : Result State ProofRefusal) → types_owed ds ≡ Some ss →
      JustifiesEach e at s.context first (is_some t.then) t.semicolon t.simple ss s.left (Made os m) →
      OneByOne (PerformsAlone e first) (with_left s m) (map read.Reconsider ds) o → Retypes e at first s t ds (behind os (without_obligations o))

-- `reconsider x = t, y = u as T`
pub data Reconsiders (e : Environment) (at : Extent) (first : Place) (s : State) (t : ReconsiderTree) : Walked State → Type 0 where
  follows_nothing : is_linked (is_some t.then) s.context.previous ≡ false → Reconsiders e at first s t (Refused (StepNoFit first))
  not_read : (r : Refusal) (l : Left) → is_linked (is_some t.then) s.context.previous ≡ true →
      RetypedRead e s.context 0 s.left (members t.retyped) t.ty (Err r) l → Reconsiders e at first s t (Refused (Resolve r))
  reconsidered : (ds : List Definition) (l : Left) (o : Walked State) → is_linked (is_some t.then) s.context.previous ≡ true →
      RetypedRead e s.context 0 s.left (members t.retyped) t.ty (Ok ds) l → Retypes e at first (with_left s l) t ds o → Reconsiders e at first s t o

-- a name for a term
pub data SetsOne (e : Environment) (first : Place) (s : State) (n : NamedTermTree) : Result State ProofRefusal → Type 0 where
  not_read : (r : Refusal) (l : Left) → NamedRead e s.context 0 s.left n (Err r) l → SetsOne e first s n (Err (Resolve r))
  set : (d : Definition) (l : Left) (o : Result State ProofRefusal) → NamedRead e s.context 0 s.left n (Ok d) l → PerformsAlone e first (with_left s l) (read.Set d) o → SetsOne e first s n o

-- a private functor and a private predicate: it is read, and then it is in force, and there is no statement just before. The step fits
-- wherever it stands
pub data DefinesFunctor (e : Environment) (s : State) (t : DeffuncTree) : Result State ProofRefusal → Type 0 where
  not_read : (r : Refusal) (l : Left) → FunctorRead e s.context 0 s.left t (Err r) l → DefinesFunctor e s t (Err (Resolve r))
  defined : (f : PrivateFunctor) (l : Left) → FunctorRead e s.context 0 s.left t (Ok f) l → DefinesFunctor e s t (Ok (state (with_functor s.context f) s.block l))

pub data DefinesPredicate (e : Environment) (s : State) (t : DefpredTree) : Result State ProofRefusal → Type 0 where
  not_read : (r : Refusal) (l : Left) → PredicateRead e s.context 0 s.left t (Err r) l → DefinesPredicate e s t (Err (Resolve r))
  defined : (p : PrivatePredicate) (l : Left) → PredicateRead e s.context 0 s.left t (Ok p) l → DefinesPredicate e s t (Ok (state (with_predicate s.context p) s.block l))

-- a statement that introduces names
pub data Introduces (e : Environment) (at : Extent) (first : Place) (s : State) : IntroductionTree → Walked State → Type 0 where
  considers : (t : ConsiderTree) (o : Walked State) → Considers e at first s t o → Introduces e at first s (Consider t) o
  reconsiders : (t : ReconsiderTree) (o : Walked State) → Reconsiders e at first s t o → Introduces e at first s (Reconsider t) o
  sets : (t : SetTree) (o : Result State ProofRefusal) → OneByOne (SetsOne e first) s (members t.named) o → Introduces e at first s (Set t) (without_obligations o)
  private_functor : (t : DeffuncTree) (o : Result State ProofRefusal) → DefinesFunctor e s t o → Introduces e at first s (Deffunc t) (without_obligations o)
  private_predicate : (t : DefpredTree) (o : Result State ProofRefusal) → DefinesPredicate e s t o → Introduces e at first s (Defpred t) (without_obligations o)
