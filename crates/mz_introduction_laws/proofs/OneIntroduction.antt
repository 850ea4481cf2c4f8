-- Statements that introduce names lead to one outcome at most.
use Rattle.std.proofs.Common.{◌≡◌, Bool, true, List, [], ◌∷◌, map, Option, Some, None, refl, sym, subst}
use Rattle.std.specs.Prelude.{Result, Ok, Err, is_some}
use Rattle.mz_base.specs.declared.place.Place.{Place}
use Rattle.mz_core.specs.Statement.{Statement}
use Rattle.mz_core.specs.declared.outcome.Left.{Left}
use Rattle.mz_context.specs.Context.{next}
use Rattle.mz_context.specs.declared.context.Context.{Context}
use Rattle.mz_context.specs.declared.private.PrivateFunctor.{PrivateFunctor}
use Rattle.mz_context.specs.declared.private.PrivatePredicate.{PrivatePredicate}
use Rattle.mz_environment.specs.declared.environment.Environment.{Environment}
use Rattle.mz_names.specs.Closing.{there_are}
use Rattle.mz_names.specs.declared.refusal.Refusal.{Refusal}
use Rattle.mz_names.specs.declared.refusal.Refusal.TheVariants.{TooLarge}
use Rattle.mz_cited.specs.Cited.{members}
use Rattle.mz_tree_proof.specs.declared.introduction.ConsiderTree.{ConsiderTree}
use Rattle.mz_tree_proof.specs.declared.introduction.DeffuncTree.{DeffuncTree}
use Rattle.mz_tree_proof.specs.declared.introduction.DefpredTree.{DefpredTree}
use Rattle.mz_tree_proof.specs.declared.introduction.IntroductionTree.{IntroductionTree}
use Rattle.mz_tree_proof.specs.declared.introduction.IntroductionTree.TheVariants.{Consider, Reconsider, Set, Deffunc, Defpred}
use Rattle.mz_tree_proof.specs.declared.introduction.NamedTermTree.{NamedTermTree}
use Rattle.mz_tree_proof.specs.declared.introduction.ReconsiderTree.{ReconsiderTree}
use Rattle.mz_tree_proof.specs.declared.references.SimpleTree.{SimpleTree}
use Rattle.mz_steps.specs.declared.read_step.Definition.{Definition}
use Rattle.mz_steps.specs.declared.read_step.ReadStep.TheVariants as read
use Rattle.mz_obligations.specs.declared.obligation.Extent.{Extent}
use Rattle.mz_obligations.specs.declared.obligation.Obligation.{Obligation}
use Rattle.mz_parts.specs.Described.{DescriptionRead}
use Rattle.mz_parts.specs.Named.{NamedRead, RetypedRead}
use Rattle.mz_parts.specs.declared.described.Description.{Description}
use Rattle.mz_given.specs.declared.given.Given.{Given}
use Rattle.mz_justified.specs.Kept.{justifications_keep}
use Rattle.mz_justified.specs.Justified.{Grounds, Owes, Justified, place_of}
use Rattle.mz_justified.specs.declared.proof_fault.ProofRefusal.{ProofRefusal}
use Rattle.mz_justified.specs.declared.proof_fault.ProofRefusal.TheVariants.{StepNoFit, Resolve, TooManyObligations}
use Rattle.mz_justified_laws.specs.Determined.{AtMostOne}
use Rattle.mz_justified_laws.proofs.Sequence.{one_by, one_value, IfSo, if_so, if_not, one_if, NextSome, one_next_some, After, one_after, Makes, one_made, AfterRead, one_after_read}
use Rattle.mz_justified_laws.proofs.OneJustification.{one_ground, one_owed, one_justification}
use Rattle.mz_parts_laws.proofs.OneProposition.{one_description}
use Rattle.mz_parts_laws.proofs.OneName.{one_named, one_retyped}
use Rattle.mz_private.specs.Private.{FunctorRead, PredicateRead, with_functor, with_predicate}
use Rattle.mz_private_laws.proofs.OnePrivate.{one_functor_read, one_predicate_read}
use Rattle.mz_walk.specs.Walked.{State, state, with_left, OneByOne, Walked, Made, Refused, without_obligations, behind}
use Rattle.mz_walk.specs.Performing.{Performs, PerformsAlone, is_linked}
use Rattle.mz_walk.specs.Introductions as int
use Rattle.mz_walk.specs.Introductions.{spent_for, OwesEach, JustifiesEach, Considers, types_owed, Retypes, Reconsiders, SetsOne, DefinesFunctor, DefinesPredicate, Introduces}
use Rattle.mz_skeleton_laws.proofs.OnePerformed as pe
pub use Rattle.mz_skeleton_laws.proofs.OnePerformed.{one_performed}
pub use Rattle.mz_skeleton_laws.proofs.OneSkeleton.{one_skeleton}
use Rattle.mz_skeleton_laws.proofs.OnePerformed.{one_by_one, one_alone, one_each}
use Rattle.mz_introduction_laws.specs.Laws.{OneIntroductionLaw}
use Rattle.mz_introduction_laws.proofs.Walks.{refused, unread, NextMade, one_next_made}

-- the obligations of statements
abbrev with_first : Obligation → List Obligation → List Obligation
with_first o os = o ∷ os

abbrev OwesNext : Environment → Extent → Context → Given → Place → List Statement → Obligation → List Obligation → Type 0
OwesNext e at c given place ss x os = Makes (OwesEach e at c given place ss) (with_first x) os

abbrev OwesAs : Environment → Extent → Context → Given → Place → List Statement → List Obligation → Type 0
OwesAs e at c given place [] os = os ≡ []
OwesAs e at c given place (s ∷ ss) os = After (Owes e at c given s place) (OwesNext e at c given place ss) os

owes_as : (e : Environment) (at : Extent) (c : Context) (given : Given) (place : Place) (ss : List Statement) (os : List Obligation) → OwesEach e at c given place ss os → OwesAs e at c given place ss os
owes_as e at c given place ss os int.owes_none = refl
owes_as e at c given place ss os (int.owes_more s rest x xs h k) = (x, h, (xs, k, refl))

one_owing : (e : Environment) (at : Extent) (c : Context) (given : Given) (place : Place) (ss : List Statement) → AtMostOne (OwesEach e at c given place ss)
one_owing e at c given place [] = one_by (OwesEach e at c given place []) (OwesAs e at c given place []) (owes_as e at c given place []) (one_value [])
one_owing e at c given place (s ∷ ss) =
    one_by (OwesEach e at c given place (s ∷ ss)) (OwesAs e at c given place (s ∷ ss)) (owes_as e at c given place (s ∷ ss))
    (one_after (Owes e at c given s place) (OwesNext e at c given place ss) (one_owed e at c given s place)
    (λ (x : Obligation). one_made (OwesEach e at c given place ss) (with_first x) (one_owing e at c given place ss)))

-- statements that are justified by the same references
abbrev made_with : Left → List Obligation → Walked Left
made_with l os = Made os l

abbrev GroundedNext : Environment → Extent → Context → Place → SimpleTree → List Statement → Given → Left → Walked Left → Type 0
GroundedNext e at c place t ss given after o = Makes (OwesEach e at c given (place_of place t) ss) (made_with after) o

abbrev SpentNext : Environment → Extent → Context → Place → Bool → Place → SimpleTree → List Statement → Left → Walked Left → Type 0
SpentNext e at c first linked place t ss m o = AfterRead (Grounds e c first linked place t m) refused (GroundedNext e at c place t ss) o

abbrev too_many : Place → SimpleTree → Walked Left
too_many place t = Refused (TooManyObligations (place_of place t))

abbrev IsTooLarge : Place → Walked Left → Type 0
IsTooLarge first o = o ≡ Refused (Resolve (TooLarge first))

abbrev SpentIs : Environment → Extent → Context → Place → Bool → Place → SimpleTree → List Statement → Option Left → Walked Left → Type 0
SpentIs e at c first linked place t ss z o = NextSome (too_many place t) (SpentNext e at c first linked place t ss) z o

abbrev KeptAs : Environment → Extent → Context → Place → Bool → Place → SimpleTree → List Statement → Option Left → Walked Left → Type 0
KeptAs e at c first linked place t ss z o = IfSo (justifications_keep e c linked t ss) (SpentIs e at c first linked place t ss z o) (IsTooLarge first o)

abbrev EachAs : Environment → Extent → Context → Place → Bool → Place → SimpleTree → List Statement → Left → Walked Left → Type 0
EachAs e at c first linked place t [] l o = o ≡ Made [] l
EachAs e at c first linked place t (s ∷ ss) l o = KeptAs e at c first linked place t (s ∷ ss) (spent_for ss l) o

-- those whose instances keep the limits, where so many are left
kept_as : (e : Environment) (at : Extent) (c : Context) (first : Place) (linked : Bool) (place : Place) (t : SimpleTree) (ss : List Statement) (z q : Option Left) (o : Walked Left) →
    justifications_keep e c linked t ss ≡ true → z ≡ q → SpentIs e at c first linked place t ss q o → KeptAs e at c first linked place t ss z o
kept_as e at c first linked place t ss z q o n h k =
    if_so (justifications_keep e c linked t ss) (SpentIs e at c first linked place t ss z o) (IsTooLarge first o) n (subst (λ (y : Option Left). SpentIs e at c first linked place t ss y o) (sym h) k)

each_as : (e : Environment) (at : Extent) (c : Context) (first : Place) (linked : Bool) (place : Place) (t : SimpleTree) (ss : List Statement) (l : Left) (o : Walked Left) →
    JustifiesEach e at c first linked place t ss l o → EachAs e at c first linked place t ss l o
each_as e at c first linked place t ss l o (int.none_owed _) = refl
each_as e at c first linked place t ss l o (int.too_large s rest _ n) =
    if_not (justifications_keep e c linked t (s ∷ rest)) (SpentIs e at c first linked place t (s ∷ rest) (spent_for rest l) o) (IsTooLarge first o) n refl
each_as e at c first linked place t ss l o (int.too_many s rest _ n h) = kept_as e at c first linked place t (s ∷ rest) (spent_for rest l) None o n h refl
each_as e at c first linked place t ss l o (int.not_grounded s rest _ m after r n h k) = kept_as e at c first linked place t (s ∷ rest) (spent_for rest l) (Some m) o n h (Err r, after, k, refl)
each_as e at c first linked place t ss l o (int.each_owed s rest given _ m after os n h k i) = kept_as e at c first linked place t (s ∷ rest) (spent_for rest l) (Some m) o n h (Ok given, after, k, (os, i, refl))

one_spent : (e : Environment) (at : Extent) (c : Context) (first : Place) (linked : Bool) (place : Place) (t : SimpleTree) (ss : List Statement) (m : Left) → AtMostOne (SpentNext e at c first linked place t ss m)
one_spent e at c first linked place t ss m =
    one_after_read (Grounds e c first linked place t m) refused (GroundedNext e at c place t ss) (one_ground e c first linked place t m)
    (λ (given : Given) (after : Left). one_made (OwesEach e at c given (place_of place t) ss) (made_with after) (one_owing e at c given (place_of place t) ss))

one_each_justified : (e : Environment) (at : Extent) (c : Context) (first : Place) (linked : Bool) (place : Place) (t : SimpleTree) (ss : List Statement) (l : Left) → AtMostOne (JustifiesEach e at c first linked place t ss l)
one_each_justified e at c first linked place t [] l =
    one_by (JustifiesEach e at c first linked place t [] l) (EachAs e at c first linked place t [] l) (each_as e at c first linked place t [] l) (one_value (Made [] l))
one_each_justified e at c first linked place t (s ∷ ss) l =
    one_by (JustifiesEach e at c first linked place t (s ∷ ss) l) (EachAs e at c first linked place t (s ∷ ss) l) (each_as e at c first linked place t (s ∷ ss) l)
    (one_if (justifications_keep e c linked t (s ∷ ss)) (SpentIs e at c first linked place t (s ∷ ss) (spent_for ss l)) (IsTooLarge first)
    (one_next_some (too_many place t) (SpentNext e at c first linked place t (s ∷ ss)) (one_spent e at c first linked place t (s ∷ ss)) (spent_for ss l)) (one_value (Refused (Resolve (TooLarge first)))))

-- a step that follows no statement
abbrev no_fit : Place → Walked State
no_fit first = Refused (StepNoFit first)

abbrev IsNoFit : Place → Walked State → Type 0
IsNoFit first o = o ≡ no_fit first

abbrev linked_in : State → Option Place → Bool
linked_in s o = is_linked (is_some o) s.context.previous

-- `consider`
abbrev behind_one : Obligation → Result State ProofRefusal → Walked State
behind_one x z = behind (x ∷ []) (without_obligations z)

abbrev ConsideredNext : Environment → Place → State → Description → Obligation → Left → Walked State → Type 0
ConsideredNext e first s d x m o = Makes (Performs e first (with_left s m) (read.Consider d.variables d.statement) d.propositions) (behind_one x) o

abbrev existence : State → Description → Statement
existence s d = there_are (next s.context) d.variables d.statement

abbrev JustifiesIt : Environment → Extent → Place → State → ConsiderTree → Description → Left → Result Obligation ProofRefusal → Left → Type 0
JustifiesIt e at first s t d l o a = Justified e at s.context first (is_some t.then) t.semicolon t.simple (existence s d) l o a

abbrev DescribedNext : Environment → Extent → Place → State → ConsiderTree → Description → Left → Walked State → Type 0
DescribedNext e at first s t d l o = AfterRead (JustifiesIt e at first s t d l) refused (ConsideredNext e first s d) o

abbrev Describes : Environment → Place → State → ConsiderTree → Result Description Refusal → Left → Type 0
Describes e first s t o a = DescriptionRead e s.context 0 s.left first t.declarations t.such.propositions o a

abbrev ConsidersBehind : Environment → Extent → Place → State → ConsiderTree → Walked State → Type 0
ConsidersBehind e at first s t o = AfterRead (Describes e first s t) unread (DescribedNext e at first s t) o

abbrev ConsidersAs : Environment → Extent → Place → State → ConsiderTree → Walked State → Type 0
ConsidersAs e at first s t o = IfSo (linked_in s t.then) (ConsidersBehind e at first s t o) (IsNoFit first o)

considers_as : (e : Environment) (at : Extent) (first : Place) (s : State) (t : ConsiderTree) (o : Walked State) → Considers e at first s t o → ConsidersAs e at first s t o
considers_as e at first s t o (int.follows_nothing h) = if_not (linked_in s t.then) (ConsidersBehind e at first s t o) (IsNoFit first o) h refl
considers_as e at first s t o (int.not_read r l h i) = if_so (linked_in s t.then) (ConsidersBehind e at first s t o) (IsNoFit first o) h (Err r, l, i, refl)
considers_as e at first s t o (int.not_justified d l m r h i j) = if_so (linked_in s t.then) (ConsidersBehind e at first s t o) (IsNoFit first o) h (Ok d, l, i, (Err r, m, j, refl))
considers_as e at first s t o (int.considered d l m x y h i j g) = if_so (linked_in s t.then) (ConsidersBehind e at first s t o) (IsNoFit first o) h (Ok d, l, i, (Ok x, m, j, (y, g, refl)))

one_described : (e : Environment) (at : Extent) (first : Place) (s : State) (t : ConsiderTree) (d : Description) (l : Left) → AtMostOne (DescribedNext e at first s t d l)
one_described e at first s t d l =
    one_after_read (JustifiesIt e at first s t d l) refused (ConsideredNext e first s d) (one_justification e at s.context first (is_some t.then) t.semicolon t.simple (existence s d) l)
    (λ (x : Obligation) (m : Left). one_made (Performs e first (with_left s m) (read.Consider d.variables d.statement) d.propositions) (behind_one x) (one_performed e first (with_left s m) (read.Consider d.variables d.statement) d.propositions))

one_considers : (e : Environment) (at : Extent) (first : Place) (s : State) (t : ConsiderTree) → AtMostOne (Considers e at first s t)
one_considers e at first s t =
    one_by (Considers e at first s t) (ConsidersAs e at first s t) (considers_as e at first s t)
    (one_if (linked_in s t.then) (ConsidersBehind e at first s t) (IsNoFit first)
    (one_after_read (Describes e first s t) unread (DescribedNext e at first s t) (one_description e s.context 0 s.left first t.declarations t.such.propositions) (one_described e at first s t))
    (one_value (no_fit first)))

-- `reconsider`
abbrev behind_all : List Obligation → Result State ProofRefusal → Walked State
behind_all os z = behind os (without_obligations z)

abbrev RetypedNext : Environment → Place → State → List Definition → List Obligation → Left → Walked State → Type 0
RetypedNext e first s ds os m o = Makes (OneByOne (PerformsAlone e first) (with_left s m) (map read.Reconsider ds)) (behind_all os) o

abbrev JustifiesTypes : Environment → Extent → Place → State → ReconsiderTree → List Statement → Walked Left → Type 0
JustifiesTypes e at first s t ss o = JustifiesEach e at s.context first (is_some t.then) t.semicolon t.simple ss s.left o

abbrev OwedNext : Environment → Extent → Place → State → ReconsiderTree → List Definition → List Statement → Walked State → Type 0
OwedNext e at first s t ds ss o = After (JustifiesTypes e at first s t ss) (NextMade (RetypedNext e first s ds)) o

abbrev too_large : Place → Walked State
too_large first = Refused (Resolve (TooLarge first))

abbrev OwedIs : Environment → Extent → Place → State → ReconsiderTree → List Definition → Option (List Statement) → Walked State → Type 0
OwedIs e at first s t ds z o = NextSome (too_large first) (OwedNext e at first s t ds) z o

retypes_as : (e : Environment) (at : Extent) (first : Place) (s : State) (t : ReconsiderTree) (ds : List Definition) (o : Walked State) → Retypes e at first s t ds o → OwedIs e at first s t ds (types_owed ds) o
retypes_as e at first s t ds o (int.too_large h) = subst (λ (z : Option (List Statement)). OwedIs e at first s t ds z o) (sym h) refl
retypes_as e at first s t ds o (int.not_justified ss r h i) = subst (λ (z : Option (List Statement)). OwedIs e at first s t ds z o) (sym h) (Refused r, i, refl)
retypes_as e at first s t ds o (int.retyped ss m os x h i j) = subst (λ (z : Option (List Statement)). OwedIs e at first s t ds z o) (sym h) (Made os m, i, (x, j, refl))

one_owed_next : (e : Environment) (at : Extent) (first : Place) (s : State) (t : ReconsiderTree) (ds : List Definition) (ss : List Statement) → AtMostOne (OwedNext e at first s t ds ss)
one_owed_next e at first s t ds ss =
    one_after (JustifiesTypes e at first s t ss) (NextMade (RetypedNext e first s ds)) (one_each_justified e at s.context first (is_some t.then) t.semicolon t.simple ss s.left)
    (one_next_made (RetypedNext e first s ds)
    (λ (os : List Obligation) (m : Left). one_made (OneByOne (PerformsAlone e first) (with_left s m) (map read.Reconsider ds)) (behind_all os) (one_each e first (with_left s m) (map read.Reconsider ds))))

one_retypes : (e : Environment) (at : Extent) (first : Place) (s : State) (t : ReconsiderTree) (ds : List Definition) → AtMostOne (Retypes e at first s t ds)
one_retypes e at first s t ds =
    one_by (Retypes e at first s t ds) (OwedIs e at first s t ds (types_owed ds)) (retypes_as e at first s t ds)
    (one_next_some (too_large first) (OwedNext e at first s t ds) (one_owed_next e at first s t ds) (types_owed ds))

abbrev ReadNext : Environment → Extent → Place → State → ReconsiderTree → List Definition → Left → Walked State → Type 0
ReadNext e at first s t ds l o = Retypes e at first (with_left s l) t ds o

abbrev ReadsRetyped : Environment → State → ReconsiderTree → Result (List Definition) Refusal → Left → Type 0
ReadsRetyped e s t o a = RetypedRead e s.context 0 s.left (members t.retyped) t.ty o a

abbrev ReconsidersBehind : Environment → Extent → Place → State → ReconsiderTree → Walked State → Type 0
ReconsidersBehind e at first s t o = AfterRead (ReadsRetyped e s t) unread (ReadNext e at first s t) o

abbrev ReconsidersAs : Environment → Extent → Place → State → ReconsiderTree → Walked State → Type 0
ReconsidersAs e at first s t o = IfSo (linked_in s t.then) (ReconsidersBehind e at first s t o) (IsNoFit first o)

reconsiders_as : (e : Environment) (at : Extent) (first : Place) (s : State) (t : ReconsiderTree) (o : Walked State) → Reconsiders e at first s t o → ReconsidersAs e at first s t o
reconsiders_as e at first s t o (int.follows_nothing h) = if_not (linked_in s t.then) (ReconsidersBehind e at first s t o) (IsNoFit first o) h refl
reconsiders_as e at first s t o (int.not_read r l h i) = if_so (linked_in s t.then) (ReconsidersBehind e at first s t o) (IsNoFit first o) h (Err r, l, i, refl)
reconsiders_as e at first s t o (int.reconsidered ds l _ h i j) = if_so (linked_in s t.then) (ReconsidersBehind e at first s t o) (IsNoFit first o) h (Ok ds, l, i, j)

one_reconsiders : (e : Environment) (at : Extent) (first : Place) (s : State) (t : ReconsiderTree) → AtMostOne (Reconsiders e at first s t)
one_reconsiders e at first s t =
    one_by (Reconsiders e at first s t) (ReconsidersAs e at first s t) (reconsiders_as e at first s t)
    (one_if (linked_in s t.then) (ReconsidersBehind e at first s t) (IsNoFit first)
    (one_after_read (ReadsRetyped e s t) unread (ReadNext e at first s t) (one_retyped e s.context 0 s.left (members t.retyped) t.ty)
    (λ (ds : List Definition) (l : Left). one_retypes e at first (with_left s l) t ds))
    (one_value (no_fit first)))

-- `set`
abbrev SetNext : Environment → Place → State → Definition → Left → Result State ProofRefusal → Type 0
SetNext e first s d l o = PerformsAlone e first (with_left s l) (read.Set d) o

abbrev SetsAs : Environment → Place → State → NamedTermTree → Result State ProofRefusal → Type 0
SetsAs e first s n o = AfterRead (NamedRead e s.context 0 s.left n) pe.unread (SetNext e first s) o

sets_as : (e : Environment) (first : Place) (s : State) (n : NamedTermTree) (o : Result State ProofRefusal) → SetsOne e first s n o → SetsAs e first s n o
sets_as e first s n o (int.not_read r l h) = (Err r, l, h, refl)
sets_as e first s n o (int.set d l _ h k) = (Ok d, l, h, k)

one_set : (e : Environment) (first : Place) (s : State) (n : NamedTermTree) → AtMostOne (SetsOne e first s n)
one_set e first s n =
    one_by (SetsOne e first s n) (SetsAs e first s n) (sets_as e first s n)
    (one_after_read (NamedRead e s.context 0 s.left n) pe.unread (SetNext e first s) (one_named e s.context 0 s.left n) (λ (d : Definition) (l : Left). one_alone e first (with_left s l) (read.Set d)))

-- `deffunc` and `defpred`
abbrev FunctorNext : State → PrivateFunctor → Left → Result State ProofRefusal → Type 0
FunctorNext s f l o = o ≡ Ok (state (with_functor s.context f) s.block l)

abbrev FunctorAs : Environment → State → DeffuncTree → Result State ProofRefusal → Type 0
FunctorAs e s t o = AfterRead (FunctorRead e s.context 0 s.left t) pe.unread (FunctorNext s) o

functor_as : (e : Environment) (s : State) (t : DeffuncTree) (o : Result State ProofRefusal) → DefinesFunctor e s t o → FunctorAs e s t o
functor_as e s t o (int.not_read r l h) = (Err r, l, h, refl)
functor_as e s t o (int.defined f l h) = (Ok f, l, h, refl)

one_functor : (e : Environment) (s : State) (t : DeffuncTree) → AtMostOne (DefinesFunctor e s t)
one_functor e s t =
    one_by (DefinesFunctor e s t) (FunctorAs e s t) (functor_as e s t)
    (one_after_read (FunctorRead e s.context 0 s.left t) pe.unread (FunctorNext s) (one_functor_read e s.context 0 s.left t) (λ (f : PrivateFunctor) (l : Left). one_value (Ok (state (with_functor s.context f) s.block l))))

abbrev PredicateNext : State → PrivatePredicate → Left → Result State ProofRefusal → Type 0
PredicateNext s p l o = o ≡ Ok (state (with_predicate s.context p) s.block l)

abbrev PredicateAs : Environment → State → DefpredTree → Result State ProofRefusal → Type 0
PredicateAs e s t o = AfterRead (PredicateRead e s.context 0 s.left t) pe.unread (PredicateNext s) o

predicate_as : (e : Environment) (s : State) (t : DefpredTree) (o : Result State ProofRefusal) → DefinesPredicate e s t o → PredicateAs e s t o
predicate_as e s t o (int.not_read r l h) = (Err r, l, h, refl)
predicate_as e s t o (int.defined p l h) = (Ok p, l, h, refl)

one_predicate : (e : Environment) (s : State) (t : DefpredTree) → AtMostOne (DefinesPredicate e s t)
one_predicate e s t =
    one_by (DefinesPredicate e s t) (PredicateAs e s t) (predicate_as e s t)
    (one_after_read (PredicateRead e s.context 0 s.left t) pe.unread (PredicateNext s) (one_predicate_read e s.context 0 s.left t) (λ (p : PrivatePredicate) (l : Left). one_value (Ok (state (with_predicate s.context p) s.block l))))

-- a statement that introduces names
abbrev IntroducesAs : Environment → Extent → Place → State → IntroductionTree → Walked State → Type 0
IntroducesAs e at first s (Consider t) o = Considers e at first s t o
IntroducesAs e at first s (Reconsider t) o = Reconsiders e at first s t o
IntroducesAs e at first s (Set t) o = Makes (OneByOne (SetsOne e first) s (members t.named)) without_obligations o
IntroducesAs e at first s (Deffunc t) o = Makes (DefinesFunctor e s t) without_obligations o
IntroducesAs e at first s (Defpred t) o = Makes (DefinesPredicate e s t) without_obligations o

introduces_as : (e : Environment) (at : Extent) (first : Place) (s : State) (t : IntroductionTree) (o : Walked State) → Introduces e at first s t o → IntroducesAs e at first s t o
introduces_as e at first s t o (int.considers x _ h) = h
introduces_as e at first s t o (int.reconsiders x _ h) = h
introduces_as e at first s t o (int.sets x y h) = (y, h, refl)
introduces_as e at first s t o (int.private_functor x y h) = (y, h, refl)
introduces_as e at first s t o (int.private_predicate x y h) = (y, h, refl)

one_introduces_as : (e : Environment) (at : Extent) (first : Place) (s : State) (t : IntroductionTree) → AtMostOne (IntroducesAs e at first s t)
one_introduces_as e at first s (Consider t) = one_considers e at first s t
one_introduces_as e at first s (Reconsider t) = one_reconsiders e at first s t
one_introduces_as e at first s (Set t) = one_made (OneByOne (SetsOne e first) s (members t.named)) without_obligations (one_by_one (SetsOne e first) (one_set e first) (members t.named) s)
one_introduces_as e at first s (Deffunc t) = one_made (DefinesFunctor e s t) without_obligations (one_functor e s t)
one_introduces_as e at first s (Defpred t) = one_made (DefinesPredicate e s t) without_obligations (one_predicate e s t)

pub one_introduction : OneIntroductionLaw
one_introduction e at first s t = one_by (Introduces e at first s t) (IntroducesAs e at first s t) (introduces_as e at first s t) (one_introduces_as e at first s t)
