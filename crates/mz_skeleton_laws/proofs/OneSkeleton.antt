-- Steps of the skeleton lead to one state at most.
use Rattle.std.proofs.Common.{◌≡◌, List, [], ◌∷◌, ◌++◌, refl, sym, subst}
use Rattle.std.specs.Prelude.{Result, Ok, Err}
use Rattle.mz_base.specs.declared.place.Place.{Place}
use Rattle.mz_logic.specs.Term.{Term}
use Rattle.mz_core.specs.declared.outcome.Left.{Left}
use Rattle.mz_environment.specs.declared.environment.Environment.{Environment}
use Rattle.mz_names.specs.declared.refusal.Refusal.{Refusal}
use Rattle.mz_names.specs.declared.variable.Variable.{Variable}
use Rattle.mz_tree.specs.Trees.{DeclaredData}
use Rattle.mz_tree.specs.declared.word.Word.{Word}
use Rattle.mz_formulas.specs.Declarations.{reserved_variable}
use Rattle.mz_formulas.specs.declared.sentence.Sentence.{Sentence}
use Rattle.mz_resolve.specs.Calls.{TermRead, SentenceRead}
use Rattle.mz_cited.specs.Cited.{members}
use Rattle.mz_tree_proof.specs.declared.propositions.PropositionTree.{PropositionTree}
use Rattle.mz_tree_proof.specs.declared.skeleton.GivenTree.{GivenTree}
use Rattle.mz_tree_proof.specs.declared.skeleton.LetTree.{LetTree}
use Rattle.mz_tree_proof.specs.declared.skeleton.SkeletonTree.{SkeletonTree}
use Rattle.mz_tree_proof.specs.declared.skeleton.SkeletonTree.TheVariants.{Let, Assume, Given, Take}
use Rattle.mz_tree_proof.specs.declared.skeleton.TakenTree.{TakenTree}
use Rattle.mz_tree_proof.specs.declared.skeleton.TakenTree.TheVariants.{Plain, Named}
use Rattle.mz_steps.specs.declared.read_step.Definition.{Definition}
use Rattle.mz_steps.specs.declared.read_step.ReadStep.TheVariants as read
use Rattle.mz_parts.specs.Declarations.{declared_in}
use Rattle.mz_parts.specs.Described.{DescriptionRead}
use Rattle.mz_parts.specs.Named.{NamedRead}
use Rattle.mz_parts.specs.Propositions.{stated_by, hypotheses_in}
use Rattle.mz_parts.specs.declared.described.Description.{Description}
use Rattle.mz_justified.specs.declared.proof_fault.ProofRefusal.{ProofRefusal}
use Rattle.mz_justified.specs.declared.proof_fault.ProofRefusal.TheVariants.{StepNoFit}
use Rattle.mz_justified_laws.specs.Determined.{AtMostOne}
use Rattle.mz_justified_laws.proofs.Sequence.{one_by, one_value, IfSo, if_so, if_not, one_if, NextOk, one_next_ok, After, one_after, Makes, one_made, AfterRead, one_after_read}
use Rattle.mz_parts_laws.proofs.OneExpression.{one_term_read, one_sentence_read}
use Rattle.mz_parts_laws.proofs.OneDeclaration.{Declared, declared, DeclaresAs, declares_as, one_declared}
use Rattle.mz_parts_laws.proofs.OneProposition.{one_description}
use Rattle.mz_parts_laws.proofs.OneName.{one_named}
use Rattle.mz_walk.specs.Walked.{State, with_left, OneByOne}
use Rattle.mz_walk.specs.Performing.{Performs, PerformsAlone, stating_within, is_now}
use Rattle.mz_walk.specs.Skeleton as sk
use Rattle.mz_walk.specs.Skeleton.{lets, Letting, letting, letting_then, LetsDeclared, LetsReserved, Lets, Assuming, assuming, assuming_then, AssumesOne, Assumes, conditions_in, LetsSuch, Gives, TakesOne, StepsOn}
use Rattle.mz_skeleton_laws.specs.Laws.{OneSkeletonLaw}
use Rattle.mz_skeleton_laws.proofs.OnePerformed.{refusal, unread, one_performed, one_by_one, one_alone, one_each}

-- a declared identifier
abbrev DeclaredNext : Environment → Place → Letting → Declared → Left → Result Letting ProofRefusal → Type 0
DeclaredNext e first s x l o = Makes (OneByOne (PerformsAlone e first) (with_left s.state l) (lets x.variables)) (letting_then x.waiting) o

abbrev LetsDeclaredAs : Environment → Place → Letting → DeclaredData → Result Letting ProofRefusal → Type 0
LetsDeclaredAs e first s d o = AfterRead (DeclaresAs e s.state.context 0 s.waiting s.state.left d) unread (DeclaredNext e first s) o

lets_declared_as : (e : Environment) (first : Place) (s : Letting) (d : DeclaredData) (o : Result Letting ProofRefusal) → LetsDeclared e first s d o → LetsDeclaredAs e first s d o
lets_declared_as e first s d o (sk.not_read ws r l h) = (Err r, l, declares_as e s.state.context 0 s.waiting s.state.left d (Err r) ws l h, refl)
lets_declared_as e first s d o (sk.declared ws vs l x h k) = (Ok (declared vs ws), l, declares_as e s.state.context 0 s.waiting s.state.left d (Ok vs) ws l h, (x, k, refl))

one_lets_declared : (e : Environment) (first : Place) (s : Letting) (d : DeclaredData) → AtMostOne (LetsDeclared e first s d)
one_lets_declared e first s d =
    one_by (LetsDeclared e first s d) (LetsDeclaredAs e first s d) (lets_declared_as e first s d)
    (one_after_read (DeclaresAs e s.state.context 0 s.waiting s.state.left d) unread (DeclaredNext e first s) (one_declared e s.state.context 0 s.waiting s.state.left d)
    (λ (x : Declared) (l : Left). one_made (OneByOne (PerformsAlone e first) (with_left s.state l) (lets x.variables)) (letting_then x.waiting) (one_each e first (with_left s.state l) (lets x.variables))))

-- one with a reserved type
abbrev ReservedNext : Environment → Place → State → Variable → Result State ProofRefusal → Type 0
ReservedNext e first s v o = PerformsAlone e first s (read.Let v) o

abbrev ReservedIs : Environment → Place → State → Result Variable Refusal → Result State ProofRefusal → Type 0
ReservedIs e first s z o = NextOk unread (ReservedNext e first s) z o

lets_reserved_as : (e : Environment) (first : Place) (s : State) (w : Word) (o : Result State ProofRefusal) → LetsReserved e first s w o → ReservedIs e first s (reserved_variable 0 s.context w) o
lets_reserved_as e first s w o (sk.not_reserved r h) = subst (λ (z : Result Variable Refusal). ReservedIs e first s z o) (sym h) refl
lets_reserved_as e first s w o (sk.reserved v _ h k) = subst (λ (z : Result Variable Refusal). ReservedIs e first s z o) (sym h) k

one_lets_reserved : (e : Environment) (first : Place) (s : State) (w : Word) → AtMostOne (LetsReserved e first s w)
one_lets_reserved e first s w =
    one_by (LetsReserved e first s w) (ReservedIs e first s (reserved_variable 0 s.context w)) (lets_reserved_as e first s w)
    (one_next_ok unread (ReservedNext e first s) (λ (v : Variable). one_alone e first s (read.Let v)) (reserved_variable 0 s.context w))

-- all of them
abbrev LetsNext : Environment → Place → Letting → Result State ProofRefusal → Type 0
LetsNext e first t o = OneByOne (LetsReserved e first) t.state t.waiting o

abbrev LetsAs : Environment → Place → State → List DeclaredData → Result State ProofRefusal → Type 0
LetsAs e first s ds o = After (OneByOne (LetsDeclared e first) (letting s []) ds) (NextOk refusal (LetsNext e first)) o

lets_as : (e : Environment) (first : Place) (s : State) (ds : List DeclaredData) (o : Result State ProofRefusal) → Lets e first s ds o → LetsAs e first s ds o
lets_as e first s ds o (sk.not_declared r h) = (Err r, h, refl)
lets_as e first s ds o (sk.all_declared t _ h k) = (Ok t, h, k)

one_lets : (e : Environment) (first : Place) (s : State) (ds : List DeclaredData) → AtMostOne (Lets e first s ds)
one_lets e first s ds =
    one_by (Lets e first s ds) (LetsAs e first s ds) (lets_as e first s ds)
    (one_after (OneByOne (LetsDeclared e first) (letting s []) ds) (NextOk refusal (LetsNext e first)) (one_by_one (LetsDeclared e first) (one_lets_declared e first) ds (letting s []))
    (one_next_ok refusal (LetsNext e first) (λ (t : Letting). one_by_one (LetsReserved e first) (one_lets_reserved e first) t.waiting t.state)))

-- hypotheses
abbrev AssumedNext : Environment → Place → Assuming → PropositionTree → Sentence → Left → Result Assuming ProofRefusal → Type 0
AssumedNext e first s t x l o = Makes (PerformsAlone e first (with_left s.state l) (read.Assume x.closed)) (assuming_then (s.stated ++ stated_by t x ∷ [])) o

abbrev AssumesOneAs : Environment → Place → Assuming → PropositionTree → Result Assuming ProofRefusal → Type 0
AssumesOneAs e first s t o = AfterRead (SentenceRead e s.state.context 0 s.state.left t.formula) unread (AssumedNext e first s t) o

assumes_one_as : (e : Environment) (first : Place) (s : Assuming) (t : PropositionTree) (o : Result Assuming ProofRefusal) → AssumesOne e first s t o → AssumesOneAs e first s t o
assumes_one_as e first s t o (sk.not_read r l h) = (Err r, l, h, refl)
assumes_one_as e first s t o (sk.assumed x l y h k) = (Ok x, l, h, (y, k, refl))

one_assumes_one : (e : Environment) (first : Place) (s : Assuming) (t : PropositionTree) → AtMostOne (AssumesOne e first s t)
one_assumes_one e first s t =
    one_by (AssumesOne e first s t) (AssumesOneAs e first s t) (assumes_one_as e first s t)
    (one_after_read (SentenceRead e s.state.context 0 s.state.left t.formula) unread (AssumedNext e first s t) (one_sentence_read e s.state.context 0 s.state.left t.formula)
    (λ (x : Sentence) (l : Left). one_made (PerformsAlone e first (with_left s.state l) (read.Assume x.closed)) (assuming_then (s.stated ++ stated_by t x ∷ [])) (one_alone e first (with_left s.state l) (read.Assume x.closed))))

abbrev AssumesNext : Place → Assuming → Result State ProofRefusal → Type 0
AssumesNext first t o = o ≡ stating_within first t.state t.stated

abbrev AssumesAs : Environment → Place → State → List PropositionTree → Result State ProofRefusal → Type 0
AssumesAs e first s ts o = After (OneByOne (AssumesOne e first) (assuming s []) ts) (NextOk refusal (AssumesNext first)) o

assumes_as : (e : Environment) (first : Place) (s : State) (ts : List PropositionTree) (o : Result State ProofRefusal) → Assumes e first s ts o → AssumesAs e first s ts o
assumes_as e first s ts o (sk.not_assumed r h) = (Err r, h, refl)
assumes_as e first s ts o (sk.all_assumed t h) = (Ok t, h, refl)

one_assumes : (e : Environment) (first : Place) (s : State) (ts : List PropositionTree) → AtMostOne (Assumes e first s ts)
one_assumes e first s ts =
    one_by (Assumes e first s ts) (AssumesAs e first s ts) (assumes_as e first s ts)
    (one_after (OneByOne (AssumesOne e first) (assuming s []) ts) (NextOk refusal (AssumesNext first)) (one_by_one (AssumesOne e first) (one_assumes_one e first) ts (assuming s []))
    (one_next_ok refusal (AssumesNext first) (λ (t : Assuming). one_value (stating_within first t.state t.stated))))

-- `let .. such that`
abbrev SuchNext : Environment → Place → LetTree → State → Result State ProofRefusal → Type 0
SuchNext e first t u o = Assumes e first u (conditions_in t.such) o

abbrev SuchAs : Environment → Place → State → LetTree → Result State ProofRefusal → Type 0
SuchAs e first s t o = After (Lets e first s (declared_in t.declarations)) (NextOk refusal (SuchNext e first t)) o

such_as : (e : Environment) (first : Place) (s : State) (t : LetTree) (o : Result State ProofRefusal) → LetsSuch e first s t o → SuchAs e first s t o
such_as e first s t o (sk.not_let r h) = (Err r, h, refl)
such_as e first s t o (sk.let_such u _ h k) = (Ok u, h, k)

one_such : (e : Environment) (first : Place) (s : State) (t : LetTree) → AtMostOne (LetsSuch e first s t)
one_such e first s t =
    one_by (LetsSuch e first s t) (SuchAs e first s t) (such_as e first s t)
    (one_after (Lets e first s (declared_in t.declarations)) (NextOk refusal (SuchNext e first t)) (one_lets e first s (declared_in t.declarations))
    (one_next_ok refusal (SuchNext e first t) (λ (u : State). one_assumes e first u (conditions_in t.such))))

-- `given`
abbrev GivesNext : Environment → Place → State → Description → Left → Result State ProofRefusal → Type 0
GivesNext e first s d l o = Performs e first (with_left s l) (read.Given d.variables d.statement) d.propositions o

abbrev GivesAs : Environment → Place → State → GivenTree → Result State ProofRefusal → Type 0
GivesAs e first s t o = AfterRead (DescriptionRead e s.context 0 s.left first t.declarations t.such.propositions) unread (GivesNext e first s) o

gives_as : (e : Environment) (first : Place) (s : State) (t : GivenTree) (o : Result State ProofRefusal) → Gives e first s t o → GivesAs e first s t o
gives_as e first s t o (sk.not_read r l h) = (Err r, l, h, refl)
gives_as e first s t o (sk.given d l _ h k) = (Ok d, l, h, k)

one_gives : (e : Environment) (first : Place) (s : State) (t : GivenTree) → AtMostOne (Gives e first s t)
one_gives e first s t =
    one_by (Gives e first s t) (GivesAs e first s t) (gives_as e first s t)
    (one_after_read (DescriptionRead e s.context 0 s.left first t.declarations t.such.propositions) unread (GivesNext e first s) (one_description e s.context 0 s.left first t.declarations t.such.propositions)
    (λ (d : Description) (l : Left). one_performed e first (with_left s l) (read.Given d.variables d.statement) d.propositions))

-- an example
abbrev TakenNext : Environment → Place → State → Term → Left → Result State ProofRefusal → Type 0
TakenNext e first s a l o = PerformsAlone e first (with_left s l) (read.Take a) o

abbrev NamedNext : Environment → Place → State → Definition → Left → Result State ProofRefusal → Type 0
NamedNext e first s d l o = OneByOne (PerformsAlone e first) (with_left s l) (read.Take d.term ∷ read.Set d ∷ []) o

abbrev TakesAs : Environment → Place → State → TakenTree → Result State ProofRefusal → Type 0
TakesAs e first s (Plain t) o = AfterRead (TermRead e s.context 0 s.left t) unread (TakenNext e first s) o
TakesAs e first s (Named n) o = AfterRead (NamedRead e s.context 0 s.left n) unread (NamedNext e first s) o

takes_as : (e : Environment) (first : Place) (s : State) (t : TakenTree) (o : Result State ProofRefusal) → TakesOne e first s t o → TakesAs e first s t o
takes_as e first s t o (sk.not_read x r l h) = (Err r, l, h, refl)
takes_as e first s t o (sk.taken x a l _ h k) = (Ok a, l, h, k)
takes_as e first s t o (sk.not_named n r l h) = (Err r, l, h, refl)
takes_as e first s t o (sk.named n d l _ h k) = (Ok d, l, h, k)

one_takes : (e : Environment) (first : Place) (s : State) (t : TakenTree) → AtMostOne (TakesOne e first s t)
one_takes e first s (Plain t) =
    one_by (TakesOne e first s (Plain t)) (TakesAs e first s (Plain t)) (takes_as e first s (Plain t))
    (one_after_read (TermRead e s.context 0 s.left t) unread (TakenNext e first s) (one_term_read e s.context 0 s.left t) (λ (a : Term) (l : Left). one_alone e first (with_left s l) (read.Take a)))
one_takes e first s (Named n) =
    one_by (TakesOne e first s (Named n)) (TakesAs e first s (Named n)) (takes_as e first s (Named n))
    (one_after_read (NamedRead e s.context 0 s.left n) unread (NamedNext e first s) (one_named e s.context 0 s.left n)
    (λ (d : Definition) (l : Left). one_each e first (with_left s l) (read.Take d.term ∷ read.Set d ∷ [])))

-- a step of the skeleton
abbrev no_fit : Place → Result State ProofRefusal
no_fit first = Err (StepNoFit first)

abbrev IsNoFit : Place → Result State ProofRefusal → Type 0
IsNoFit first o = o ≡ no_fit first

abbrev StepsAs : Environment → Place → State → SkeletonTree → Result State ProofRefusal → Type 0
StepsAs e first s (Let t) o = LetsSuch e first s t o
StepsAs e first s (Assume t) o = Assumes e first s (hypotheses_in t.hypotheses) o
StepsAs e first s (Given t) o = Gives e first s t o
StepsAs e first s (Take t) o = IfSo (is_now s.block) (IsNoFit first o) (OneByOne (TakesOne e first) s (members t.taken) o)

steps_as : (e : Environment) (first : Place) (s : State) (t : SkeletonTree) (o : Result State ProofRefusal) → StepsOn e first s t o → StepsAs e first s t o
steps_as e first s t o (sk.lets_such x _ h) = h
steps_as e first s t o (sk.assumes x _ h) = h
steps_as e first s t o (sk.gives x _ h) = h
steps_as e first s t o (sk.take_in_now x h) = if_so (is_now s.block) (IsNoFit first o) (OneByOne (TakesOne e first) s (members x.taken) o) h refl
steps_as e first s t o (sk.takes x _ h k) = if_not (is_now s.block) (IsNoFit first o) (OneByOne (TakesOne e first) s (members x.taken) o) h k

one_steps_as : (e : Environment) (first : Place) (s : State) (t : SkeletonTree) → AtMostOne (StepsAs e first s t)
one_steps_as e first s (Let t) = one_such e first s t
one_steps_as e first s (Assume t) = one_assumes e first s (hypotheses_in t.hypotheses)
one_steps_as e first s (Given t) = one_gives e first s t
one_steps_as e first s (Take t) =
    one_if (is_now s.block) (IsNoFit first) (OneByOne (TakesOne e first) s (members t.taken)) (one_value (no_fit first)) (one_by_one (TakesOne e first) (one_takes e first) (members t.taken) s)

pub one_skeleton : OneSkeletonLaw
one_skeleton e first s t = one_by (StepsOn e first s t) (StepsAs e first s t) (steps_as e first s t) (one_steps_as e first s t)
