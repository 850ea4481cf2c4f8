-- Walks only add to the lists of a context, and leaving a block cuts these back.
use Rattle.std.proofs.Common.{◌≡◌, ℕ, List, [], ◌∷◌, ◌++◌, length, take, Bool, true, false, refl, sym, ap, ◌∙◌, append_assoc, Some, None}
use Rattle.std.specs.Prelude.{flat_map, Result, Ok, Err}
use Rattle.std.proofs.lemmas.List.{append-nil}
use Rattle.mz_core.specs.Statement.{Statement, Truth}
use Rattle.mz_base.specs.declared.place.Place.{Place}
use Rattle.mz_core.specs.declared.outcome.Left.{Left}
use Rattle.mz_context.specs.Changes.{with_constant}
use Rattle.mz_context.specs.declared.constants.Constant.{Constant}
use Rattle.mz_context.specs.declared.context.Context.{Context}
use Rattle.mz_context.specs.declared.labelled.LabelledStatement.{LabelledStatement}
use Rattle.mz_context.specs.declared.private.PrivateFunctor.{PrivateFunctor}
use Rattle.mz_context.specs.declared.private.PrivatePredicate.{PrivatePredicate}
use Rattle.mz_environment.specs.declared.environment.Environment.{Environment}
use Rattle.mz_names.specs.Closing.{constant_of, with_variables}
use Rattle.mz_names.specs.declared.refusal.Refusal.{Refusal}
use Rattle.mz_names.specs.declared.variable.Variable.{Variable}
use Rattle.mz_steps.specs.Rows.{with_constants, constant_for}
use Rattle.mz_steps.specs.Changes.{with_thesis, label_of, with_stated, context_after, outside_of, at_start_of_proof, at_start_of_now}
use Rattle.mz_steps.specs.declared.block.Effect.{Effect}
use Rattle.mz_steps.specs.declared.block.Effect.TheVariants.{Unchanged, Leaves, Says as SaysParts}
use Rattle.mz_steps.specs.declared.read_step.Definition.{Definition}
use Rattle.mz_steps.specs.declared.read_step.ReadStep.{ReadStep}
use Rattle.mz_steps.specs.declared.read_step.ReadStep.TheVariants.{Let, Assume, Given, Thus, Take, Consider, Reconsider, Set, State as Stated}
use Rattle.mz_tree.specs.Trees.{DeclaredData}
use Rattle.mz_tree.specs.declared.word.Word.{Word}
use Rattle.mz_tree_proof.specs.Reasoning.{CompactData, StatementData, StepData, StepList, SupposeList}
use Rattle.mz_tree_proof.specs.declared.introduction.ConsiderTree.{ConsiderTree}
use Rattle.mz_tree_proof.specs.declared.introduction.DeffuncTree.{DeffuncTree}
use Rattle.mz_tree_proof.specs.declared.introduction.DefpredTree.{DefpredTree}
use Rattle.mz_tree_proof.specs.declared.introduction.IntroductionTree.{IntroductionTree}
use Rattle.mz_tree_proof.specs.declared.introduction.NamedTermTree.{NamedTermTree}
use Rattle.mz_tree_proof.specs.declared.introduction.ReconsiderTree.{ReconsiderTree}
use Rattle.mz_tree_proof.specs.declared.propositions.PropositionTree.{PropositionTree}
use Rattle.mz_tree_proof.specs.declared.skeleton.GivenTree.{GivenTree}
use Rattle.mz_tree_proof.specs.declared.skeleton.LetTree.{LetTree}
use Rattle.mz_tree_proof.specs.declared.skeleton.SkeletonTree.{SkeletonTree}
use Rattle.mz_tree_proof.specs.declared.skeleton.SplitTree.{SplitTree}
use Rattle.mz_tree_proof.specs.declared.skeleton.TakenTree.{TakenTree}
use Rattle.mz_obligations.specs.declared.obligation.Extent.{Extent}
use Rattle.mz_obligations.specs.declared.obligation.Obligation.{Obligation}
use Rattle.mz_parts.specs.Joined.{joined_within}
use Rattle.mz_private.specs.Private.{with_functor, with_predicate}
use Rattle.mz_justified.specs.declared.proof_fault.ProofRefusal.{ProofRefusal}
use Rattle.mz_walk.specs.Walked as wk
use Rattle.mz_walk.specs.Walked.{State, Walked, Made, Refused, OneByOne, without_obligations, behind, led_to}
use Rattle.mz_walk.specs.Performing as pf
use Rattle.mz_walk.specs.Performing.{Performs, PerformsAlone, stating_if, stating_within}
use Rattle.mz_walk.specs.Skeleton as sk
use Rattle.mz_walk.specs.Skeleton.{Letting, letting_then, LetsDeclared, LetsReserved, Lets, Assuming, assuming_then, AssumesOne, Assumes, LetsSuch, Gives, TakesOne, StepsOn}
use Rattle.mz_walk.specs.Introductions as it
use Rattle.mz_walk.specs.Introductions.{Considers, Retypes, Reconsiders, SetsOne, DefinesFunctor, DefinesPredicate, Introduces}
use Rattle.mz_walk.specs.Walk as wa
use Rattle.mz_walk.specs.Walk.{Says, SaysNow, States, Goes, Splits, GoesAll}
use Rattle.mz_performing.specs.Blocks.{restored}
use Rattle.mz_context.specs.Grown.{Grew}

-- a list is itself and nothing more
itself : {X : Type 0} (xs : List X) → (ys : List X) × (xs ≡ xs ++ ys)
itself xs = ([], sym (append-nil xs))

further : {X : Type 0} (xs ys zs : List X) → (us : List X) × (ys ≡ xs ++ us) → (vs : List X) × (zs ≡ ys ++ vs) → (ws : List X) × (zs ≡ xs ++ ws)
further xs ys zs p q = (p.0 ++ q.0, q.1 ∙ (ap (λ ys. ys ++ q.0) p.1 ∙ append_assoc xs p.0 q.0))

pub grows_more : (c d e : Context) → Grew c d → Grew d e → Grew c e
grows_more c d e g h = record {
  article = h.article ∙ g.article;
  counts = h.counts ∙ g.counts;
  constants = further c.constants d.constants e.constants g.constants h.constants;
  reserved = further c.reserved d.reserved e.reserved g.reserved h.reserved;
  labelled = further c.labelled d.labelled e.labelled g.labelled h.labelled;
  schemes = h.schemes ∙ g.schemes;
  functors = further c.functors d.functors e.functors g.functors h.functors;
  predicates = further c.predicates d.predicates e.predicates g.predicates h.predicates;
  letters = further c.letters d.letters e.letters g.letters h.letters;
  it_is = h.it_is ∙ g.it_is;
  arguments = h.arguments ∙ g.arguments;
  subject = h.subject ∙ g.subject;
}

pub grows_itself : (c : Context) → Grew c c
grows_itself c = record {
  article = refl;
  counts = refl;
  constants = itself c.constants;
  reserved = itself c.reserved;
  labelled = itself c.labelled;
  schemes = refl;
  functors = itself c.functors;
  predicates = itself c.predicates;
  letters = itself c.letters;
  it_is = refl;
  arguments = refl;
  subject = refl;
}

pub grows_constant : (c : Context) (k : Constant) → Grew c (with_constant c k)
grows_constant c k = record {
  article = refl;
  counts = refl;
  constants = (Some k ∷ [], refl);
  reserved = itself c.reserved;
  labelled = itself c.labelled;
  schemes = refl;
  functors = itself c.functors;
  predicates = itself c.predicates;
  letters = itself c.letters;
  it_is = refl;
  arguments = refl;
  subject = refl;
}

pub grows_variables : (c : Context) (vs : List Variable) → Grew c (with_variables c vs)
grows_variables c [] = grows_itself c
grows_variables c (v ∷ vs) = grows_more c (with_constant c (constant_of v)) (with_variables (with_constant c (constant_of v)) vs) (grows_constant c (constant_of v)) (grows_variables (with_constant c (constant_of v)) vs)

grows_constants : (c : Context) (s : ReadStep) → Grew c (with_constants c s)
grows_constants c (Let v) = grows_constant c (constant_of v)
grows_constants c (Assume s) = grows_itself c
grows_constants c (Given vs s) = grows_variables c vs
grows_constants c (Thus s) = grows_itself c
grows_constants c (Take t) = grows_itself c
grows_constants c (Consider vs s) = grows_variables c vs
grows_constants c (Reconsider d) = grows_constant c (constant_for d)
grows_constants c (Set d) = grows_constant c (constant_for d)
grows_constants c (Stated s) = grows_itself c

grows_left : (c : Context) (s : Statement) → Grew c (with_thesis c (Leaves s))
grows_left c s = record {
  article = refl;
  counts = refl;
  constants = itself c.constants;
  reserved = itself c.reserved;
  labelled = itself c.labelled;
  schemes = refl;
  functors = itself c.functors;
  predicates = itself c.predicates;
  letters = itself c.letters;
  it_is = refl;
  arguments = refl;
  subject = refl;
}

grows_thesis : (c : Context) (e : Effect) → Grew c (with_thesis c e)
grows_thesis c Unchanged = grows_itself c
grows_thesis c (Leaves s) = grows_left c s
grows_thesis c (SaysParts ps) = grows_itself c

pub grows_stated : (c : Context) (ps : List LabelledStatement) → Grew c (with_stated c ps)
grows_stated c ps = record {
  article = refl;
  counts = refl;
  constants = itself c.constants;
  reserved = itself c.reserved;
  labelled = (flat_map label_of ps, refl);
  schemes = refl;
  functors = itself c.functors;
  predicates = itself c.predicates;
  letters = itself c.letters;
  it_is = refl;
  arguments = refl;
  subject = refl;
}

grows_functor : (c : Context) (f : PrivateFunctor) → Grew c (with_functor c f)
grows_functor c f = record {
  article = refl;
  counts = refl;
  constants = itself c.constants;
  reserved = itself c.reserved;
  labelled = itself c.labelled;
  schemes = refl;
  functors = (f ∷ [], refl);
  predicates = itself c.predicates;
  letters = itself c.letters;
  it_is = refl;
  arguments = refl;
  subject = refl;
}

grows_predicate : (c : Context) (p : PrivatePredicate) → Grew c (with_predicate c p)
grows_predicate c p = record {
  article = refl;
  counts = refl;
  constants = itself c.constants;
  reserved = itself c.reserved;
  labelled = itself c.labelled;
  schemes = refl;
  functors = itself c.functors;
  predicates = (p ∷ [], refl);
  letters = itself c.letters;
  it_is = refl;
  arguments = refl;
  subject = refl;
}

pub grows_after : (c : Context) (r : ReadStep) (a : Effect) (ps : List LabelledStatement) → Grew c (context_after c r a ps)
grows_after c r a ps =
    grows_more c (with_thesis (with_constants c r) a) (context_after c r a ps) (grows_more c (with_constants c r) (with_thesis (with_constants c r) a) (grows_constants c r) (grows_thesis (with_constants c r) a)) (grows_stated (with_thesis (with_constants c r) a) ps)

pub grows_into_proof : (c : Context) (vs : List Variable) (thesis : Statement) → Grew c (at_start_of_proof (with_variables c vs) thesis)
grows_into_proof c vs thesis = let g = grows_variables c vs in record {
  article = g.article;
  counts = g.counts;
  constants = g.constants;
  reserved = g.reserved;
  labelled = g.labelled;
  schemes = g.schemes;
  functors = g.functors;
  predicates = g.predicates;
  letters = g.letters;
  it_is = g.it_is;
  arguments = g.arguments;
  subject = g.subject;
}

pub grows_into_now : (c : Context) → Grew c (at_start_of_now c)
grows_into_now c = let g = grows_itself c in record {
  article = g.article;
  counts = g.counts;
  constants = g.constants;
  reserved = g.reserved;
  labelled = g.labelled;
  schemes = g.schemes;
  functors = g.functors;
  predicates = g.predicates;
  letters = g.letters;
  it_is = g.it_is;
  arguments = g.arguments;
  subject = g.subject;
}

-- what leaving a block gives
take-took : {X : Type 0} (xs ys : List X) → take (length xs) (xs ++ ys) ≡ xs
take-took [] [] = refl
take-took [] (y ∷ ys) = refl
take-took (x ∷ xs) ys = ap (λ zs. x ∷ zs) (take-took xs ys)

take-cut : {X : Type 0} (xs zs : List X) → (ys : List X) × (zs ≡ xs ++ ys) → take (length xs) zs ≡ xs
take-cut xs zs p = ap (take (length xs)) p.1 ∙ take-took xs p.0

pub restored-grown : (c d : Context) → Grew c d → restored d (outside_of c) ≡ c
restored-grown c d g =
    let constants = take-cut c.constants d.constants g.constants in
    let reserved = take-cut c.reserved d.reserved g.reserved in
    let labelled = take-cut c.labelled d.labelled g.labelled in
    let functors = take-cut c.functors d.functors g.functors in
    let predicates = take-cut c.predicates d.predicates g.predicates in
    let letters = take-cut c.letters d.letters g.letters in
    λ i. record {
      article = g.article i;
      counts = g.counts i;
      constants = constants i;
      reserved = reserved i;
      labelled = labelled i;
      previous = c.previous;
      schemes = g.schemes i;
      functors = functors i;
      predicates = predicates i;
      letters = letters i;
      thesis = c.thesis;
      it = g.it_is i;
      arguments = g.arguments i;
      subject = g.subject i;
    }

-- where a walk goes on, its context has grown
abbrev pub GrowsTo : Context → Result State ProofRefusal → Type 0
GrowsTo c (Ok t) = Grew c t.context
GrowsTo c (Err r) = Unit {0}

abbrev pub GrowsIn : Context → Walked State → Type 0
GrowsIn c (Made os t) = Grew c t.context
GrowsIn c (Refused r) = Unit {0}

performs_grow : (e : Environment) (first : Place) (s : State) (r : ReadStep) (ps : List LabelledStatement) (o : Result State ProofRefusal) → Performs e first s r ps o → GrowsTo s.context o
performs_grow e first s r ps _ (pf.unfit h) = tt
performs_grow e first s r ps _ (pf.beyond a h k) = tt
performs_grow e first s r ps _ (pf.performed a h k) = grows_after s.context r a ps

then_grows : (c d : Context) (o : Result State ProofRefusal) → Grew c d → GrowsTo d o → GrowsTo c o
then_grows c d (Ok t) g h = grows_more c d t.context g h
then_grows c d (Err r) g h = tt

alone_grow : (e : Environment) (first : Place) (s : State) (rs : List ReadStep) (o : Result State ProofRefusal) → OneByOne (PerformsAlone e first) s rs o → GrowsTo s.context o
alone_grow e first s _ _ (wk.none_left _) = grows_itself s.context
alone_grow e first s _ _ (wk.one_refused _ x xs r h) = tt
alone_grow e first s _ _ (wk.one_taken _ t x xs o h k) = then_grows s.context t.context o (performs_grow e first s x [] (Ok t) h) (alone_grow e first t xs o k)

stating_grows : (s : State) (ps : List LabelledStatement) (q : Result Statement Refusal) → GrowsTo s.context (stating_if s ps q)
stating_grows s ps (Ok t) = grows_stated s.context ps
stating_grows s ps (Err r) = tt

-- `let`
abbrev GrowsLet : Context → Result Letting ProofRefusal → Type 0
GrowsLet c (Ok t) = Grew c t.state.context
GrowsLet c (Err r) = Unit {0}

let_then : (c : Context) (ws : List Word) (o : Result State ProofRefusal) → GrowsTo c o → GrowsLet c (letting_then ws o)
let_then c ws (Ok t) g = g
let_then c ws (Err r) g = tt

let_more : (c d : Context) (o : Result Letting ProofRefusal) → Grew c d → GrowsLet d o → GrowsLet c o
let_more c d (Ok t) g h = grows_more c d t.state.context g h
let_more c d (Err r) g h = tt

declared_grow : (e : Environment) (first : Place) (s : Letting) (d : DeclaredData) (o : Result Letting ProofRefusal) → LetsDeclared e first s d o → GrowsLet s.state.context o
declared_grow e first s d _ (sk.not_read others r l h) = tt
declared_grow e first s d _ (sk.declared others vs l o h k) = let_then s.state.context others o (alone_grow e first (record { context = s.state.context; block = s.state.block; left = l }) (sk.lets vs) o k)

all_declared_grow : (e : Environment) (first : Place) (s : Letting) (ds : List DeclaredData) (o : Result Letting ProofRefusal) → OneByOne (LetsDeclared e first) s ds o → GrowsLet s.state.context o
all_declared_grow e first s _ _ (wk.none_left _) = grows_itself s.state.context
all_declared_grow e first s _ _ (wk.one_refused _ x xs r h) = tt
all_declared_grow e first s _ _ (wk.one_taken _ t x xs o h k) = let_more s.state.context t.state.context o (declared_grow e first s x (Ok t) h) (all_declared_grow e first t xs o k)

reserved_grow : (e : Environment) (first : Place) (s : State) (w : Word) (o : Result State ProofRefusal) → LetsReserved e first s w o → GrowsTo s.context o
reserved_grow e first s w _ (sk.not_reserved r h) = tt
reserved_grow e first s w _ (sk.reserved v o h k) = performs_grow e first s (Let v) [] o k

words_grow : (e : Environment) (first : Place) (s : State) (ws : List Word) (o : Result State ProofRefusal) → OneByOne (LetsReserved e first) s ws o → GrowsTo s.context o
words_grow e first s _ _ (wk.none_left _) = grows_itself s.context
words_grow e first s _ _ (wk.one_refused _ x xs r h) = tt
words_grow e first s _ _ (wk.one_taken _ t x xs o h k) = then_grows s.context t.context o (reserved_grow e first s x (Ok t) h) (words_grow e first t xs o k)

lets_grow : (e : Environment) (first : Place) (s : State) (ds : List DeclaredData) (o : Result State ProofRefusal) → Lets e first s ds o → GrowsTo s.context o
lets_grow e first s ds _ (sk.not_declared r h) = tt
lets_grow e first s ds _ (sk.all_declared t o h k) = then_grows s.context t.state.context o (all_declared_grow e first (sk.letting s []) ds (Ok t) h) (words_grow e first t.state t.waiting o k)

-- `assume`
abbrev GrowsAssume : Context → Result Assuming ProofRefusal → Type 0
GrowsAssume c (Ok t) = Grew c t.state.context
GrowsAssume c (Err r) = Unit {0}

assume_then : (c : Context) (ps : List LabelledStatement) (o : Result State ProofRefusal) → GrowsTo c o → GrowsAssume c (assuming_then ps o)
assume_then c ps (Ok t) g = g
assume_then c ps (Err r) g = tt

assume_more : (c d : Context) (o : Result Assuming ProofRefusal) → Grew c d → GrowsAssume d o → GrowsAssume c o
assume_more c d (Ok t) g h = grows_more c d t.state.context g h
assume_more c d (Err r) g h = tt

assumed_grow : (e : Environment) (first : Place) (s : Assuming) (t : PropositionTree) (o : Result Assuming ProofRefusal) → AssumesOne e first s t o → GrowsAssume s.state.context o
assumed_grow e first s t _ (sk.not_read r l h) = tt
assumed_grow e first s t _ (sk.assumed p l o h k) = assume_then s.state.context _ o (performs_grow e first (record { context = s.state.context; block = s.state.block; left = l }) (Assume p.closed) [] o k)

all_assumed_grow : (e : Environment) (first : Place) (s : Assuming) (ts : List PropositionTree) (o : Result Assuming ProofRefusal) → OneByOne (AssumesOne e first) s ts o → GrowsAssume s.state.context o
all_assumed_grow e first s _ _ (wk.none_left _) = grows_itself s.state.context
all_assumed_grow e first s _ _ (wk.one_refused _ x xs r h) = tt
all_assumed_grow e first s _ _ (wk.one_taken _ t x xs o h k) = assume_more s.state.context t.state.context o (assumed_grow e first s x (Ok t) h) (all_assumed_grow e first t xs o k)

assumes_grow : (e : Environment) (first : Place) (s : State) (ts : List PropositionTree) (o : Result State ProofRefusal) → Assumes e first s ts o → GrowsTo s.context o
assumes_grow e first s ts _ (sk.not_assumed r h) = tt
assumes_grow e first s ts _ (sk.all_assumed t h) = then_grows s.context t.state.context (stating_within first t.state t.stated) (all_assumed_grow e first (sk.assuming s []) ts (Ok t) h) (stating_grows t.state t.stated (joined_within first t.stated))

-- the skeleton
lets_such_grow : (e : Environment) (first : Place) (s : State) (t : LetTree) (o : Result State ProofRefusal) → LetsSuch e first s t o → GrowsTo s.context o
lets_such_grow e first s t _ (sk.not_let r h) = tt
lets_such_grow e first s t _ (sk.let_such u o h k) = then_grows s.context u.context o (lets_grow e first s _ (Ok u) h) (assumes_grow e first u _ o k)

gives_grow : (e : Environment) (first : Place) (s : State) (t : GivenTree) (o : Result State ProofRefusal) → Gives e first s t o → GrowsTo s.context o
gives_grow e first s t _ (sk.not_read r l h) = tt
gives_grow e first s t _ (sk.given d l o h k) = performs_grow e first (record { context = s.context; block = s.block; left = l }) (Given d.variables d.statement) d.propositions o k

taken_grow : (e : Environment) (first : Place) (s : State) (t : TakenTree) (o : Result State ProofRefusal) → TakesOne e first s t o → GrowsTo s.context o
taken_grow e first s _ _ (sk.not_read t r l h) = tt
taken_grow e first s _ _ (sk.taken t a l o h k) = performs_grow e first (record { context = s.context; block = s.block; left = l }) (Take a) [] o k
taken_grow e first s _ _ (sk.not_named n r l h) = tt
taken_grow e first s _ _ (sk.named n d l o h k) = alone_grow e first (record { context = s.context; block = s.block; left = l }) _ o k

takes_grow : (e : Environment) (first : Place) (s : State) (ts : List TakenTree) (o : Result State ProofRefusal) → OneByOne (TakesOne e first) s ts o → GrowsTo s.context o
takes_grow e first s _ _ (wk.none_left _) = grows_itself s.context
takes_grow e first s _ _ (wk.one_refused _ x xs r h) = tt
takes_grow e first s _ _ (wk.one_taken _ t x xs o h k) = then_grows s.context t.context o (taken_grow e first s x (Ok t) h) (takes_grow e first t xs o k)

steps_on_grow : (e : Environment) (first : Place) (s : State) (t : SkeletonTree) (o : Result State ProofRefusal) → StepsOn e first s t o → GrowsTo s.context o
steps_on_grow e first s _ _ (sk.lets_such t o h) = lets_such_grow e first s t o h
steps_on_grow e first s _ _ (sk.assumes t o h) = assumes_grow e first s _ o h
steps_on_grow e first s _ _ (sk.gives t o h) = gives_grow e first s t o h
steps_on_grow e first s _ _ (sk.take_in_now t h) = tt
steps_on_grow e first s _ _ (sk.takes t o h k) = takes_grow e first s _ o k

-- with obligations
behind_grows : (c : Context) (os : List Obligation) (o : Result State ProofRefusal) → GrowsTo c o → GrowsIn c (behind os (without_obligations o))
behind_grows c os (Ok t) g = g
behind_grows c os (Err r) g = tt

without_grows : (c : Context) (o : Result State ProofRefusal) → GrowsTo c o → GrowsIn c (without_obligations o)
without_grows c (Ok t) g = g
without_grows c (Err r) g = tt

considers_grow : (e : Environment) (at : Extent) (first : Place) (s : State) (t : ConsiderTree) (o : Walked State) → Considers e at first s t o → GrowsIn s.context o
considers_grow e at first s t _ (it.follows_nothing h) = tt
considers_grow e at first s t _ (it.not_read r l h k) = tt
considers_grow e at first s t _ (it.not_justified d l m r h k j) = tt
considers_grow e at first s t _ (it.considered d l m x o h k j p) = behind_grows s.context (x ∷ []) o (performs_grow e first (record { context = s.context; block = s.block; left = m }) (Consider d.variables d.statement) d.propositions o p)

retypes_grow : (e : Environment) (at : Extent) (first : Place) (s : State) (t : ReconsiderTree) (ds : List Definition) (o : Walked State) → Retypes e at first s t ds o → GrowsIn s.context o
retypes_grow e at first s t ds _ (it.too_large h) = tt
retypes_grow e at first s t ds _ (it.not_justified ss r h j) = tt
retypes_grow e at first s t ds _ (it.retyped ss m os o h j p) = behind_grows s.context os o (alone_grow e first (record { context = s.context; block = s.block; left = m }) _ o p)

reconsiders_grow : (e : Environment) (at : Extent) (first : Place) (s : State) (t : ReconsiderTree) (o : Walked State) → Reconsiders e at first s t o → GrowsIn s.context o
reconsiders_grow e at first s t _ (it.follows_nothing h) = tt
reconsiders_grow e at first s t _ (it.not_read r l h k) = tt
reconsiders_grow e at first s t _ (it.reconsidered ds l o h k p) = retypes_grow e at first (record { context = s.context; block = s.block; left = l }) t ds o p

set_grow : (e : Environment) (first : Place) (s : State) (n : NamedTermTree) (o : Result State ProofRefusal) → SetsOne e first s n o → GrowsTo s.context o
set_grow e first s n _ (it.not_read r l h) = tt
set_grow e first s n _ (it.set d l o h k) = performs_grow e first (record { context = s.context; block = s.block; left = l }) (Set d) [] o k

sets_grow : (e : Environment) (first : Place) (s : State) (ns : List NamedTermTree) (o : Result State ProofRefusal) → OneByOne (SetsOne e first) s ns o → GrowsTo s.context o
sets_grow e first s _ _ (wk.none_left _) = grows_itself s.context
sets_grow e first s _ _ (wk.one_refused _ x xs r h) = tt
sets_grow e first s _ _ (wk.one_taken _ t x xs o h k) = then_grows s.context t.context o (set_grow e first s x (Ok t) h) (sets_grow e first t xs o k)

functor_grow : (e : Environment) (s : State) (t : DeffuncTree) (o : Result State ProofRefusal) → DefinesFunctor e s t o → GrowsTo s.context o
functor_grow e s t _ (it.not_read r l h) = tt
functor_grow e s t _ (it.defined f l h) = grows_functor s.context f

predicate_grow : (e : Environment) (s : State) (t : DefpredTree) (o : Result State ProofRefusal) → DefinesPredicate e s t o → GrowsTo s.context o
predicate_grow e s t _ (it.not_read r l h) = tt
predicate_grow e s t _ (it.defined p l h) = grows_predicate s.context p

introduces_grow : (e : Environment) (at : Extent) (first : Place) (s : State) (t : IntroductionTree) (o : Walked State) → Introduces e at first s t o → GrowsIn s.context o
introduces_grow e at first s _ _ (it.considers t o h) = considers_grow e at first s t o h
introduces_grow e at first s _ _ (it.reconsiders t o h) = reconsiders_grow e at first s t o h
introduces_grow e at first s _ _ (it.sets t o h) = without_grows s.context o (sets_grow e first s _ o h)
introduces_grow e at first s _ _ (it.private_functor t o h) = without_grows s.context o (functor_grow e s t o h)
introduces_grow e at first s _ _ (it.private_predicate t o h) = without_grows s.context o (predicate_grow e s t o h)

-- the walk
led_grows : (c : Context) (u : State) (os : List Obligation) (o : Walked Left) → Grew c u.context → GrowsIn c (led_to u (behind os o))
led_grows c u os (Made ps l) g = g
led_grows c u os (Refused r) g = tt

says_grow : (e : Environment) (at : Extent) (s : State) (first : Place) (linked concluded : Bool) (t : CompactData) (o : Walked State) → Says e at s first linked concluded t o → GrowsIn s.context o
says_grow e at _ _ _ _ _ _ (wa.follows_nothing s first linked concluded t h) = tt
says_grow e at _ _ _ _ _ _ (wa.not_read s first semicolon linked concluded p j ks r l kept h k a) = tt
says_grow e at _ _ _ _ _ _ (wa.unfit s first semicolon linked concluded p j ks x l r h k f) = tt
says_grow e at _ _ _ _ _ _ (wa.instance_too_large s u first semicolon linked concluded p j ks x l h k f a) = tt
says_grow e at _ _ _ _ _ _ (wa.not_justified s u first semicolon linked concluded p j ks x l r h k f a y) = tt
says_grow e at _ _ _ _ _ _ (wa.justified s u first semicolon linked concluded p j ks x l m os o h k f a y z) =
    led_grows s.context u os o (performs_grow e first (record { context = s.context; block = s.block; left = l }) _ _ (Ok u) f)

says_now_grow : (e : Environment) (at : Extent) (s : State) (first : Place) (concluded : Bool) (label : List ℕ) (ds : StepList) (o : Walked State) → SaysNow e at s first concluded label ds o → GrowsIn s.context o
says_now_grow e at _ _ _ _ _ _ (wa.now_stopped s first concluded label ds r h) = tt
says_now_grow e at _ _ _ _ _ _ (wa.now_too_large s t first concluded label ds os h k) = tt
says_now_grow e at _ _ _ _ _ _ (wa.now_stated s t first concluded label ds os x o h k p) = behind_grows s.context os o (performs_grow e first (record { context = s.context; block = s.block; left = t.left }) _ _ o p)

states_grow : (e : Environment) (at : Extent) (s : State) (first : Place) (t : StatementData) (o : Walked State) → States e at s first t o → GrowsIn s.context o
states_grow e at _ _ _ _ (wa.says s first then t o h) = says_grow e at s first _ false t o h
states_grow e at _ _ _ _ (wa.says_now s first p end semicolon label ds o h) = says_now_grow e at s first false _ ds o h
states_grow e at _ _ _ _ (wa.introduces s first t o h) = introduces_grow e at first s t o h

split_grows : (c : Context) → Grew c (record c { thesis = Some Truth; previous = None })
split_grows c = let g = grows_itself c in record {
  article = g.article;
  counts = g.counts;
  constants = g.constants;
  reserved = g.reserved;
  labelled = g.labelled;
  schemes = g.schemes;
  functors = g.functors;
  predicates = g.predicates;
  letters = g.letters;
  it_is = g.it_is;
  arguments = g.arguments;
  subject = g.subject;
}

splits_grow : (e : Environment) (at : Extent) (s : State) (first : Place) (t : SplitTree) (us : SupposeList) (o : Walked State) → Splits e at s first t us o → GrowsIn s.context o
splits_grow e at _ _ _ _ _ (wa.foreseen s first t us r a) = tt
splits_grow e at _ _ _ _ _ (wa.not_grounded s first t us r l a h) = tt
splits_grow e at _ _ _ _ _ (wa.cases_stopped s first t us given l r a h k) = tt
splits_grow e at _ _ _ _ _ (wa.cases_too_large s first t us given l os x r a h k y) = tt
splits_grow e at _ _ _ _ _ (wa.split s first t us given l os x y o a h k z w) = split_grows s.context

goes_grow : (e : Environment) (at : Extent) (s : State) (first : Place) (d : StepData) (o : Walked State) → Goes e at s first d o → GrowsIn s.context o
goes_grow e at _ _ _ _ (wa.states s first t o h) = states_grow e at s first t o h
goes_grow e at _ _ _ _ (wa.thus s first p t o h) = says_grow e at s first false true t o h
goes_grow e at _ _ _ _ (wa.hence s first p t o h) = says_grow e at s first true true t o h
goes_grow e at _ _ _ _ (wa.hereby s first p end semicolon ds o h) = says_now_grow e at s first true [] ds o h
goes_grow e at _ _ _ _ (wa.steps_on s first t o h) = without_grows s.context o (steps_on_grow e first s t o h)
goes_grow e at _ _ _ _ (wa.split_in_now s first t u us h) = tt
goes_grow e at _ _ _ _ (wa.splits s first t u us o h k) = splits_grow e at s first t _ o k

behind_more_grows : (c d : Context) (os : List Obligation) (o : Walked State) → Grew c d → GrowsIn d o → GrowsIn c (behind os o)
behind_more_grows c d os (Made ps t) g h = grows_more c d t.context g h
behind_more_grows c d os (Refused r) g h = tt

pub goes_all_grow : (e : Environment) (at : Extent) (s : State) (ds : StepList) (o : Walked State) → GoesAll e at s ds o → GrowsIn s.context o
goes_all_grow e at _ _ _ (wa.no_more s) = grows_itself s.context
goes_all_grow e at _ _ _ (wa.stopped s d ds first r h k) = tt
goes_all_grow e at _ _ _ (wa.goes_on s t d ds first os o h k m) = behind_more_grows s.context t.context os o (goes_grow e at s first d (Made os t) k) (goes_all_grow e at t ds o m)
