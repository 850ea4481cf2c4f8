-- What obligations carry.
use Rattle.std.proofs.Common.{◌≡◌, ◌<◌, inl, inr, ℕ, zero, suc, Bool, true, false, List, [], ◌∷◌, ◌++◌, map, refl, ◌∙◌, subst, arith, Result, Ok, Err}
use Rattle.std.specs.Prelude.{is_some}
use Rattle.std.proofs.lemmas.List.Elements.{Contains-append_cases}
use Rattle.mz_base.specs.declared.place.Place.{Place}
use Rattle.mz_core.specs.Statement.{Statement}
use Rattle.mz_core.specs.declared.outcome.Left.{Left}
use Rattle.mz_context.specs.declared.context.Context.{Context}
use Rattle.mz_context.specs.declared.labelled.LabelledStatement.{LabelledStatement}
use Rattle.mz_context.specs.declared.letters.NamedLetter.{NamedLetter}
use Rattle.mz_environment.specs.declared.environment.Environment.{Environment}
use Rattle.mz_names.specs.Closing.{with_variables}
use Rattle.mz_names.specs.declared.refusal.Refusal.{Refusal}
use Rattle.mz_tree.specs.Trees.{DeclaredData}
use Rattle.mz_tree.specs.declared.word.Word.{Word}
use Rattle.mz_cited.specs.Cited.{members}
use Rattle.mz_formulas.specs.declared.sentence.Sentence.{Sentence}
use Rattle.mz_tree_proof.specs.Reasoning.{JustData, CompactData, StatementData, StepData, StepList, SupposeList, more_supposes}
use Rattle.mz_tree_proof.specs.declared.equality_step.EqualityStepTree.{EqualityStepTree}
use Rattle.mz_tree_proof.specs.declared.introduction.ConsiderTree.{ConsiderTree}
use Rattle.mz_tree_proof.specs.declared.introduction.DeffuncTree.{DeffuncTree}
use Rattle.mz_tree_proof.specs.declared.introduction.DefpredTree.{DefpredTree}
use Rattle.mz_tree_proof.specs.declared.introduction.IntroductionTree.{IntroductionTree}
use Rattle.mz_tree_proof.specs.declared.introduction.NamedTermTree.{NamedTermTree}
use Rattle.mz_tree_proof.specs.declared.introduction.ReconsiderTree.{ReconsiderTree}
use Rattle.mz_tree_proof.specs.declared.propositions.PropositionTree.{PropositionTree}
use Rattle.mz_tree_proof.specs.declared.references.SimpleTree.{SimpleTree}
use Rattle.mz_tree_proof.specs.declared.skeleton.GivenTree.{GivenTree}
use Rattle.mz_tree_proof.specs.declared.skeleton.LetTree.{LetTree}
use Rattle.mz_tree_proof.specs.declared.skeleton.SkeletonTree.{SkeletonTree}
use Rattle.mz_tree_proof.specs.declared.skeleton.SplitTree.{SplitTree}
use Rattle.mz_tree_proof.specs.declared.skeleton.TakenTree.{TakenTree}
use Rattle.mz_steps.specs.Rows.{with_constants}
use Rattle.mz_steps.specs.Changes.{with_stated, at_start_of_proof, at_start_of_now}
use Rattle.mz_steps.specs.declared.block.Block.TheVariants.{Proof, Now}
use Rattle.mz_steps.specs.declared.read_step.Definition.{Definition}
use Rattle.mz_steps.specs.declared.read_step.ReadStep.{ReadStep}
use Rattle.mz_steps.specs.declared.read_step.ReadStep.TheVariants as read
use Rattle.mz_obligations.specs.declared.obligation.Extent.{Extent}
use Rattle.mz_obligations.specs.declared.obligation.Obligation.{Obligation}
use Rattle.mz_parts.specs.Declarations.{declared_in}
use Rattle.mz_parts.specs.Propositions.{hypotheses_in}
use Rattle.mz_parts.specs.Joined.{joined_within}
use Rattle.mz_given.specs.declared.given.Given.{Given}
use Rattle.mz_given.specs.declared.given.Given.TheVariants.{ByStatements, ByScheme}
use Rattle.mz_justified.specs.Justified as justified
use Rattle.mz_justified.specs.Justified.{Owes, Justified}
use Rattle.mz_justified.specs.declared.proof_fault.ProofRefusal.{ProofRefusal}
use Rattle.mz_walk.specs.Walked as walked
use Rattle.mz_walk.specs.Walked.{State, state, with_left, OneByOne, Walked, Made, Refused, without_obligations, behind, led_to, one_made}
use Rattle.mz_walk.specs.Performing as performing
use Rattle.mz_walk.specs.Performing.{Performs, PerformsAlone, stating, stating_if, stating_within}
use Rattle.mz_walk.specs.Skeleton as skeleton
use Rattle.mz_walk.specs.Skeleton.{lets, Letting, letting, letting_then, LetsDeclared, LetsReserved, Lets, Assuming, assuming, assuming_then, AssumesOne, Assumes, conditions_in, LetsSuch, Gives, TakesOne, StepsOn}
use Rattle.mz_walk.specs.Introductions as introductions
use Rattle.mz_walk.specs.Introductions.{OwesEach, JustifiesEach, Considers, Retypes, Reconsiders, SetsOne, DefinesFunctor, DefinesPredicate, Introduces}
use Rattle.mz_walk.specs.Compact as compact
use Rattle.mz_walk.specs.Compact.{place_behind, JustifiesSides}
use Rattle.mz_walk.specs.Walk as walk
use Rattle.mz_walk.specs.Walk.{Cases, with_case, Justifies, Proves, Says, SaysNow, States, Goes, Splits, Supposes, GoesAll}
use Rattle.mz_walk_laws.specs.MadeLaws.{IsMadeAt, AreMadeAt, JustificationMadeLaw, StatementMadeLaw}
use Rattle.mz_walk_laws.proofs.Outcomes.{WhereOk, WhereMade, ok_mapped, made_mapped, made_without, made_behind, made_led, made_one}
use Rattle.mz_walk_laws.proofs.PerformLemmas.{variables_letters, constants_letters, thesis_letters}
use Rattle.mz_walk_laws.proofs.WalkProofs.{case_made}

-- lists of obligations
none_made : (at : Extent) (ls : List NamedLetter) → AreMadeAt at ls []
none_made at ls o is = let lt : is.0 < 0 = is.1 in absurd (omega arith)

more_made : (at : Extent) (ls : List NamedLetter) (x : Obligation) (os : List Obligation) → IsMadeAt at ls x → AreMadeAt at ls os → AreMadeAt at ls (x ∷ os)
more_made at ls x os m all o (zero, lt, e) = subst (IsMadeAt at ls) e m
more_made at ls x os m all o (suc i, lt, e) = all o (i, omega (arith, lt), e)

both_made : (at : Extent) (ls : List NamedLetter) (os ps : List Obligation) → AreMadeAt at ls os → AreMadeAt at ls ps → AreMadeAt at ls (os ++ ps)
both_made at ls os ps m n o is = elim (Contains-append_cases os ps o is) [ inl a ↦ m o a | inr b ↦ n o b ]

-- the letters of a state
abbrev letters_at : State → List NamedLetter
letters_at s = s.context.letters

abbrev SameLetters : State → State → Type 0
SameLetters s t = letters_at t ≡ letters_at s

each_same : {S X : Type 0} (one : S → X → Result S ProofRefusal → Type 0) (key : S → List NamedLetter) → ((s : S) (x : X) (o : Result S ProofRefusal) → one s x o → WhereOk o (λ t. key t ≡ key s)) → (s : S) (xs : List X) (o : Result S ProofRefusal) → OneByOne one s xs o → WhereOk o (λ t. key t ≡ key s)
each_same one key step s xs o (walked.none_left x) = refl
each_same one key step s xs o (walked.one_refused x y ys r h) = tt
each_same one key step s xs o (walked.one_taken x t y ys q h more) =
    let first : key t ≡ key x = step x y (Ok t) h in
    ok_mapped (λ u. key u ≡ key t) (λ u. key u ≡ key x) q (λ u e. e ∙ first) (each_same one key step t ys q more)

performs_same : (e : Environment) (first : Place) (s : State) (r : ReadStep) (ps : List LabelledStatement) (o : Result State ProofRefusal) → Performs e first s r ps o → WhereOk o (SameLetters s)
performs_same e first s r ps o (performing.unfit h) = tt
performs_same e first s r ps o (performing.beyond a h k) = tt
performs_same e first s r ps o (performing.performed a h k) = thesis_letters (with_constants s.context r) a ∙ constants_letters s.context r

alone_same : (e : Environment) (first : Place) (s : State) (r : ReadStep) (o : Result State ProofRefusal) → PerformsAlone e first s r o → WhereOk o (SameLetters s)
alone_same e first s r o h = performs_same e first s r [] o h

-- the skeleton
let_letters : (ws : List Word) (s : State) (o : Result State ProofRefusal) → WhereOk o (SameLetters s) → WhereOk (letting_then ws o) (λ a. letters_at a.state ≡ letters_at s)
let_letters ws s (Ok t) h = h
let_letters ws s (Err r) h = tt

declared_same : (e : Environment) (first : Place) (a : Letting) (d : DeclaredData) (o : Result Letting ProofRefusal) → LetsDeclared e first a d o → WhereOk o (λ x. letters_at x.state ≡ letters_at a.state)
declared_same e first a d o (skeleton.not_read others r l h) = tt
declared_same e first a d o (skeleton.declared others vs l q h k) = let_letters others a.state q (each_same (PerformsAlone e first) letters_at (alone_same e first) (with_left a.state l) (lets vs) q k)

reserved_same : (e : Environment) (first : Place) (s : State) (w : Word) (o : Result State ProofRefusal) → LetsReserved e first s w o → WhereOk o (SameLetters s)
reserved_same e first s w o (skeleton.not_reserved r h) = tt
reserved_same e first s w o (skeleton.reserved v q h k) = alone_same e first s (read.Let v) q k

lets_same : (e : Environment) (first : Place) (s : State) (ds : List DeclaredData) (o : Result State ProofRefusal) → Lets e first s ds o → WhereOk o (SameLetters s)
lets_same e first s ds o (skeleton.not_declared r h) = tt
lets_same e first s ds o (skeleton.all_declared t q h k) =
    let one : letters_at t.state ≡ letters_at s = each_same (LetsDeclared e first) (λ a. letters_at a.state) (declared_same e first) (letting s []) ds (Ok t) h in
    ok_mapped (SameLetters t.state) (SameLetters s) q (λ u i. i ∙ one) (each_same (LetsReserved e first) letters_at (reserved_same e first) t.state t.waiting q k)

assume_letters : (ps : List LabelledStatement) (s : State) (o : Result State ProofRefusal) → WhereOk o (SameLetters s) → WhereOk (assuming_then ps o) (λ a. letters_at a.state ≡ letters_at s)
assume_letters ps s (Ok t) h = h
assume_letters ps s (Err r) h = tt

assumed_same : (e : Environment) (first : Place) (a : Assuming) (t : PropositionTree) (o : Result Assuming ProofRefusal) → AssumesOne e first a t o → WhereOk o (λ x. letters_at x.state ≡ letters_at a.state)
assumed_same e first a t o (skeleton.not_read r l h) = tt
assumed_same e first a t o (skeleton.assumed p l q h k) = assume_letters _ a.state q (alone_same e first (with_left a.state l) (read.Assume p.closed) q k)

stating_same : (s : State) (ps : List LabelledStatement) (o : Result Statement Refusal) → WhereOk (stating_if s ps o) (SameLetters s)
stating_same s ps (Ok t) = refl
stating_same s ps (Err r) = tt

assumes_same : (e : Environment) (first : Place) (s : State) (ts : List PropositionTree) (o : Result State ProofRefusal) → Assumes e first s ts o → WhereOk o (SameLetters s)
assumes_same e first s ts o (skeleton.not_assumed r h) = tt
assumes_same e first s ts o (skeleton.all_assumed t h) =
    let one : letters_at t.state ≡ letters_at s = each_same (AssumesOne e first) (λ a. letters_at a.state) (assumed_same e first) (assuming s []) ts (Ok t) h in
    ok_mapped (SameLetters t.state) (SameLetters s) (stating_within first t.state t.stated) (λ u i. i ∙ one) (stating_same t.state t.stated (joined_within first t.stated))

such_same : (e : Environment) (first : Place) (s : State) (t : LetTree) (o : Result State ProofRefusal) → LetsSuch e first s t o → WhereOk o (SameLetters s)
such_same e first s t o (skeleton.not_let r h) = tt
such_same e first s t o (skeleton.let_such u q h k) =
    let one : letters_at u ≡ letters_at s = lets_same e first s (declared_in t.declarations) (Ok u) h in
    ok_mapped (SameLetters u) (SameLetters s) q (λ x i. i ∙ one) (assumes_same e first u (conditions_in t.such) q k)

given_same : (e : Environment) (first : Place) (s : State) (t : GivenTree) (o : Result State ProofRefusal) → Gives e first s t o → WhereOk o (SameLetters s)
given_same e first s t o (skeleton.not_read r l h) = tt
given_same e first s t o (skeleton.given d l q h k) = performs_same e first (with_left s l) (read.Given d.variables d.statement) d.propositions q k

taken_same : (e : Environment) (first : Place) (s : State) (t : TakenTree) (o : Result State ProofRefusal) → TakesOne e first s t o → WhereOk o (SameLetters s)
taken_same e first s t o (skeleton.not_read u r l h) = tt
taken_same e first s t o (skeleton.taken u a l q h k) = alone_same e first (with_left s l) (read.Take a) q k
taken_same e first s t o (skeleton.not_named n r l h) = tt
taken_same e first s t o (skeleton.named n d l q h k) = each_same (PerformsAlone e first) letters_at (alone_same e first) (with_left s l) (read.Take d.term ∷ read.Set d ∷ []) q k

on_same : (e : Environment) (first : Place) (s : State) (t : SkeletonTree) (o : Result State ProofRefusal) → StepsOn e first s t o → WhereOk o (SameLetters s)
on_same e first s t o (skeleton.lets_such u q h) = such_same e first s u q h
on_same e first s t o (skeleton.assumes u q h) = assumes_same e first s (hypotheses_in u.hypotheses) q h
on_same e first s t o (skeleton.gives u q h) = given_same e first s u q h
on_same e first s t o (skeleton.take_in_now u h) = tt
on_same e first s t o (skeleton.takes u q h k) = each_same (TakesOne e first) letters_at (taken_same e first) s (members u.taken) q k

set_same : (e : Environment) (first : Place) (s : State) (n : NamedTermTree) (o : Result State ProofRefusal) → SetsOne e first s n o → WhereOk o (SameLetters s)
set_same e first s n o (introductions.not_read r l h) = tt
set_same e first s n o (introductions.set d l q h k) = alone_same e first (with_left s l) (read.Set d) q k

functor_same : (e : Environment) (s : State) (t : DeffuncTree) (o : Result State ProofRefusal) → DefinesFunctor e s t o → WhereOk o (SameLetters s)
functor_same e s t o (introductions.not_read r l h) = tt
functor_same e s t o (introductions.defined f l h) = refl

predicate_same : (e : Environment) (s : State) (t : DefpredTree) (o : Result State ProofRefusal) → DefinesPredicate e s t o → WhereOk o (SameLetters s)
predicate_same e s t o (introductions.not_read r l h) = tt
predicate_same e s t o (introductions.defined p l h) = refl

-- justifications
owed_made : (e : Environment) (at : Extent) (c : Context) (given : Given) (s : Statement) (place : Place) (o : Obligation) → Owes e at c given s place o → IsMadeAt at c.letters o
owed_made e at c (ByStatements ss) s place o h = (h.extent_is, h.letters_are)
owed_made e at c (ByScheme x ss) s place o h = (h.extent_is, h.letters_are)

justified_made : (e : Environment) (at : Extent) (c : Context) (first place : Place) (linked : Bool) (t : SimpleTree) (s : Statement) (l : Left) (o : Result Obligation ProofRefusal) (m : Left) → Justified e at c first linked place t s l o m → WhereOk o (IsMadeAt at c.letters)
justified_made e at c first place linked t s l o m (justified.too_large after n) = tt
justified_made e at c first place linked t s l o m (justified.not_grounded r after n h) = tt
justified_made e at c first place linked t s l o m (justified.owed ss x after n h k) = owed_made e at c ss s (justified.place_of place t) x k

each_made : (e : Environment) (at : Extent) (c : Context) (given : Given) (place : Place) (ss : List Statement) (os : List Obligation) → OwesEach e at c given place ss os → AreMadeAt at c.letters os
each_made e at c given place ss os introductions.owes_none = none_made at c.letters
each_made e at c given place ss os (introductions.owes_more s ts o ps h more) = more_made at c.letters o ps (owed_made e at c given s place o h) (each_made e at c given place ts ps more)

all_made : (e : Environment) (at : Extent) (c : Context) (first place : Place) (linked : Bool) (t : SimpleTree) (ss : List Statement) (l : Left) (w : Walked Left) → JustifiesEach e at c first linked place t ss l w → WhereMade w (λ os m. AreMadeAt at c.letters os)
all_made e at c first place linked t ss l w (introductions.none_owed x) = none_made at c.letters
all_made e at c first place linked t ss l w (introductions.too_large s ts x y) = tt
all_made e at c first place linked t ss l w (introductions.too_many s ts x y h) = tt
all_made e at c first place linked t ss l w (introductions.not_grounded s ts x m after r y h k) = tt
all_made e at c first place linked t ss l w (introductions.each_owed s ts given x m after os y h k owes) = each_made e at c given (justified.place_of place t) (s ∷ ts) os owes

sides_made : (e : Environment) (at : Extent) (c : Context) (first semicolon : Place) (ks : List EqualityStepTree) (ss : List Statement) (l : Left) (w : Walked Left) → JustifiesSides e at c first semicolon ks ss l w → WhereMade w (λ os m. AreMadeAt at c.letters os)
sides_made e at c first semicolon ks ss l w (compact.none_owed x) = none_made at c.letters
sides_made e at c first semicolon ks ss l w (compact.not_justified k js s ts x after r h) = tt
sides_made e at c first semicolon ks ss l w (compact.one_more k js s ts x after o q h more) =
    made_behind (λ os m. AreMadeAt at c.letters os) (o ∷ []) q
    (made_mapped (λ os m. AreMadeAt at c.letters os) (λ os m. AreMadeAt at c.letters (o ∷ os)) q
    (λ os m all. more_made at c.letters o os (justified_made e at c first (place_behind js semicolon) false k.simple s x (Ok o) after h) all)
    (sides_made e at c first semicolon js ts after q more))

-- what comes of a part of a walk
abbrev MadeFrom : Extent → State → List Obligation → State → Type 0
MadeFrom at s os t = AreMadeAt at (letters_at s) os × SameLetters s t

alone_made : (at : Extent) (s : State) (o : Result State ProofRefusal) → WhereOk o (SameLetters s) → WhereMade (without_obligations o) (MadeFrom at s)
alone_made at s o h = made_without (MadeFrom at s) o (ok_mapped (SameLetters s) (MadeFrom at s []) o (λ t e. (none_made at (letters_at s), e)) h)

behind_made : (at : Extent) (s : State) (os : List Obligation) → AreMadeAt at (letters_at s) os → (o : Result State ProofRefusal) → WhereOk o (SameLetters s) → WhereMade (behind os (without_obligations o)) (MadeFrom at s)
behind_made at s os m o h =
    made_behind (MadeFrom at s) os (without_obligations o)
    (made_mapped (MadeFrom at s) (λ ps t. MadeFrom at s (os ++ ps) t) (without_obligations o) (λ ps t r. (both_made at (letters_at s) os ps m r.0, r.1)) (alone_made at s o h))

considered_made : (e : Environment) (at : Extent) (first : Place) (s : State) (t : ConsiderTree) (o : Walked State) → Considers e at first s t o → WhereMade o (MadeFrom at s)
considered_made e at first s t o (introductions.follows_nothing h) = tt
considered_made e at first s t o (introductions.not_read r l h k) = tt
considered_made e at first s t o (introductions.not_justified d l m r h k i) = tt
considered_made e at first s t o (introductions.considered d l m x q h k i j) =
    behind_made at s (x ∷ []) (more_made at (letters_at s) x [] (justified_made e at s.context first t.semicolon (is_some t.then) t.simple _ l (Ok x) m i) (none_made at (letters_at s))) q
    (performs_same e first (with_left s m) (read.Consider d.variables d.statement) d.propositions q j)

retyped_made : (e : Environment) (at : Extent) (first : Place) (s : State) (t : ReconsiderTree) (ds : List Definition) (o : Walked State) → Retypes e at first s t ds o → WhereMade o (MadeFrom at s)
retyped_made e at first s t ds o (introductions.too_large h) = tt
retyped_made e at first s t ds o (introductions.not_justified ss r h k) = tt
retyped_made e at first s t ds o (introductions.retyped ss m os q h k i) =
    behind_made at s os (all_made e at s.context first t.semicolon (is_some t.then) t.simple ss s.left (Made os m) k) q
    (each_same (PerformsAlone e first) letters_at (alone_same e first) (with_left s m) (map read.Reconsider ds) q i)

reconsidered_made : (e : Environment) (at : Extent) (first : Place) (s : State) (t : ReconsiderTree) (o : Walked State) → Reconsiders e at first s t o → WhereMade o (MadeFrom at s)
reconsidered_made e at first s t o (introductions.follows_nothing h) = tt
reconsidered_made e at first s t o (introductions.not_read r l h k) = tt
reconsidered_made e at first s t o (introductions.reconsidered ds l q h k i) = retyped_made e at first (with_left s l) t ds q i

introduced_made : (e : Environment) (at : Extent) (first : Place) (s : State) (t : IntroductionTree) (o : Walked State) → Introduces e at first s t o → WhereMade o (MadeFrom at s)
introduced_made e at first s t o (introductions.considers u q h) = considered_made e at first s u q h
introduced_made e at first s t o (introductions.reconsiders u q h) = reconsidered_made e at first s u q h
introduced_made e at first s t o (introductions.sets u q h) = alone_made at s q (each_same (SetsOne e first) letters_at (set_same e first) s (members u.named) q h)
introduced_made e at first s t o (introductions.private_functor u q h) = alone_made at s q (functor_same e s u q h)
introduced_made e at first s t o (introductions.private_predicate u q h) = alone_made at s q (predicate_same e s u q h)

mutual
  justifies_made : (e : Environment) (at : Extent) (c : Context) (first place : Place) (linked : Bool) (j : JustData) (x : Sentence) (l : Left) (w : Walked Left) → Justifies e at c first linked place j x l w → WhereMade w (λ os m. AreMadeAt at c.letters os)
  justifies_made e at c first place linked j x l w (walk.simply k f h n t y m after o just) =
      made_one (λ os z. AreMadeAt at k.letters os) o after
      (ok_mapped (IsMadeAt at k.letters) (λ z. AreMadeAt at k.letters (z ∷ [])) o (λ z i. more_made at k.letters z [] i (none_made at k.letters)) (justified_made e at k f h n t y.closed m o after just))
  justifies_made e at c first place linked j x l w (walk.by_proof k f h q d n ds y m o proves) =
      subst (λ ls. WhereMade o (λ os z. AreMadeAt at ls os)) (variables_letters k y.variables) (proves_made e at (at_start_of_proof (with_variables k y.variables) y.inner) ds d m o proves)

  proves_made : (e : Environment) (at : Extent) (c : Context) (ds : StepList) (end : Place) (l : Left) (w : Walked Left) → Proves e at c ds end l w → WhereMade w (λ os m. AreMadeAt at c.letters os)
  proves_made e at c ds d l w (walk.proof_stopped k es f m r h) = tt
  proves_made e at c ds d l w (walk.thesis_left k es f m os t h is) = tt
  proves_made e at c ds d l w (walk.proved k es f m os t h is) = let r : MadeFrom at (state k Proof m) os t = steps_made e at (state k Proof m) es (Made os t) h in r.0

  says_made : (e : Environment) (at : Extent) (s : State) (first : Place) (linked concluded : Bool) (t : CompactData) (w : Walked State) → Says e at s first linked concluded t w → WhereMade w (MadeFrom at s)
  says_made e at s first linked concluded t w (walk.follows_nothing z f n c y h) = tt
  says_made e at s first linked concluded t w (walk.not_read z f d n c q j ks r l kept h i a) = tt
  says_made e at s first linked concluded t w (walk.unfit z f d n c q j ks x l r h i k) = tt
  says_made e at s first linked concluded t w (walk.instance_too_large z u f d n c q j ks x l h i k a) = tt
  says_made e at s first linked concluded t w (walk.not_justified z u f d n c q j ks x l r h i k a y) = tt
  says_made e at s first linked concluded t w (walk.justified z u f d n c q j ks x l m os o h i k a y sides) =
      let same : SameLetters z u = performs_same e f (with_left z l) _ _ (Ok u) k in
      made_led (MadeFrom at z) u (behind os o)
      (made_behind (λ ps v. MadeFrom at z ps (with_left u v)) os o
      (made_mapped (λ ps v. AreMadeAt at (letters_at z) ps) (λ ps v. MadeFrom at z (os ++ ps) (with_left u v)) o
      (λ ps v all. (both_made at (letters_at z) os ps (justifies_made e at z.context f (place_behind ks d) n j x.sentence l (Made os m) y) all, same))
      (sides_made e at z.context f d ks x.said.further m o sides)))

  now_made : (e : Environment) (at : Extent) (s : State) (first : Place) (concluded : Bool) (label : List ℕ) (ds : StepList) (w : Walked State) → SaysNow e at s first concluded label ds w → WhereMade w (MadeFrom at s)
  now_made e at s first concluded label ds w (walk.now_stopped z f c n es r h) = tt
  now_made e at s first concluded label ds w (walk.now_too_large z t f c n es os h i) = tt
  now_made e at s first concluded label ds w (walk.now_stated z t f c n es os x o h i k) =
      let r : MadeFrom at (state (at_start_of_now z.context) (Now []) z.left) os t = steps_made e at (state (at_start_of_now z.context) (Now []) z.left) es (Made os t) h in
      behind_made at z os r.0 o (performs_same e f (with_left z t.left) _ _ o k)

  states_made : (e : Environment) (at : Extent) (s : State) (first : Place) (t : StatementData) (w : Walked State) → States e at s first t w → WhereMade w (MadeFrom at s)
  states_made e at s first t w (walk.says z f n c o h) = says_made e at z f (is_some n) false c o h
  states_made e at s first t w (walk.says_now z f q d m label ds o h) = now_made e at z f false _ ds o h
  states_made e at s first t w (walk.introduces z f c o h) = introduced_made e at f z c o h

  goes_made : (e : Environment) (at : Extent) (s : State) (first : Place) (d : StepData) (w : Walked State) → Goes e at s first d w → WhereMade w (MadeFrom at s)
  goes_made e at s first d w (walk.states z f t o h) = states_made e at z f t o h
  goes_made e at s first d w (walk.thus z f q t o h) = says_made e at z f false true t o h
  goes_made e at s first d w (walk.hence z f q t o h) = says_made e at z f true true t o h
  goes_made e at s first d w (walk.hereby z f q x m ds o h) = now_made e at z f true [] ds o h
  goes_made e at s first d w (walk.steps_on z f t o h) = alone_made at z o (on_same e f z t o h)
  goes_made e at s first d w (walk.split_in_now z f t u us h) = tt
  goes_made e at s first d w (walk.splits z f t u us o h i) = splits_made e at z f t (more_supposes u us) o i

  splits_made : (e : Environment) (at : Extent) (s : State) (first : Place) (t : SplitTree) (us : SupposeList) (w : Walked State) → Splits e at s first t us w → WhereMade w (MadeFrom at s)
  splits_made e at s first t us w (walk.foreseen z f c vs r a) = tt
  splits_made e at s first t us w (walk.not_grounded z f c vs r l a h) = tt
  splits_made e at s first t us w (walk.cases_stopped z f c vs given l r a h i) = tt
  splits_made e at s first t us w (walk.cases_too_large z f c vs given l os x r a h i k) = tt
  splits_made e at s first t us w (walk.split z f c vs given l os x y o a h i k owes) =
      let all : AreMadeAt at (letters_at z) os = supposes_made e at z.context vs l (Made os x) i in
      (more_made at (letters_at z) o os (owed_made e at z.context given y _ o owes) all, refl)

  supposes_made : (e : Environment) (at : Extent) (c : Context) (us : SupposeList) (l : Left) (w : Walked Cases) → Supposes e at c us l w → WhereMade w (λ os x. AreMadeAt at c.letters os)
  supposes_made e at c us l w (walk.no_case k m) = none_made at k.letters
  supposes_made e at c us l w (walk.not_supposed k m n q f d s hs ds vs r h) = tt
  supposes_made e at c us l w (walk.supposition_too_large k m n q f d s hs ds vs ps r h i) = tt
  supposes_made e at c us l w (walk.case_not_proved k m n q f d s hs ds vs ps x r h i y) = tt
  supposes_made e at c us l w (walk.one_more k m n z q f d s hs ds vs ps x os o h i y rest) =
      let proof : AreMadeAt at k.letters os = proves_made e at (with_stated k ps) ds d n (Made os z) y in
      made_behind (λ ps v. AreMadeAt at k.letters ps) os (with_case x o)
      (case_made (λ qs v. AreMadeAt at k.letters (os ++ qs)) x o
      (made_mapped (λ qs v. AreMadeAt at k.letters qs) (λ qs v. AreMadeAt at k.letters (os ++ qs)) o (λ qs v all. both_made at k.letters os qs proof all) (supposes_made e at k vs z o rest)))

  steps_made : (e : Environment) (at : Extent) (s : State) (ds : StepList) (w : Walked State) → GoesAll e at s ds w → WhereMade w (MadeFrom at s)
  steps_made e at s ds w (walk.no_more z) = (none_made at (letters_at z), refl)
  steps_made e at s ds w (walk.stopped z d es f r h i) = tt
  steps_made e at s ds w (walk.goes_on z t d es f os o h i rest) =
      let one : MadeFrom at z os t = goes_made e at z f d (Made os t) i in
      made_behind (MadeFrom at z) os o
      (made_mapped (MadeFrom at t) (λ ps u. MadeFrom at z (os ++ ps) u) o
      (λ ps u r. (both_made at (letters_at z) os ps one.0 (subst (λ ls. AreMadeAt at ls ps) one.1 r.0), r.1 ∙ one.1))
      (steps_made e at t es o rest))

pub justification_made_law : JustificationMadeLaw
justification_made_law e at c first place linked j x l m os h = justifies_made e at c first place linked j x l (Made os m) h

pub statement_made_law : StatementMadeLaw
statement_made_law e at c first t l os d h = states_made e at (state c Proof l) first t (Made os d) h
