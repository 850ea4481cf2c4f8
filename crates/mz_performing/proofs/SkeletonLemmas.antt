-- What the code of the steps of the skeleton tells.
use Rattle.std.proofs.Common.{◌≡◌, ℕ, List, [], ◌∷◌, length, map, Bool, true, false, refl, sym, ap, ◌∙◌, subst}
use Rattle.std.specs.Prelude.{Result, Ok, Err}
use Rattle.mz_base.specs.declared.place.Place.{Place}
use Rattle.mz_logic.specs.Term.{Term}
use Rattle.mz_core.specs.declared.outcome.Left.{Left}
use Rattle.mz_context.specs.declared.context.Context.{Context}
use Rattle.mz_context.specs.declared.labelled.LabelledStatement.{LabelledStatement}
use Rattle.mz_environment.specs.declared.environment.Environment.{Environment}
use Rattle.mz_names.specs.declared.refusal.Refusal.{Refusal}
use Rattle.mz_fits.proofs.FitLemmas.{empty}
use Rattle.mz_tree.specs.Trees.{TermData}
use Rattle.mz_tree.specs.declared.chain.Next.{Next}
use Rattle.mz_tree.specs.declared.lists.Separated.{Separated}
use Rattle.mz_tree.specs.declared.word.Comma.{Comma}
use Rattle.mz_cited.specs.Cited.{members, tree_of}
use Rattle.mz_resolve.specs.Answers.{OnRead}
use Rattle.mz_resolve.specs.Calls.{TermRead}
use Rattle.mz_resolve.specs.declared.resolve_fault.ResolveFault.{ResolveFault}
use Rattle.mz_tree_proof.specs.declared.introduction.NamedTermTree.{NamedTermTree}
use Rattle.mz_tree_proof.specs.declared.skeleton.AssumeTree.{AssumeTree}
use Rattle.mz_tree_proof.specs.declared.skeleton.GivenTree.{GivenTree}
use Rattle.mz_tree_proof.specs.declared.skeleton.LetTree.{LetTree}
use Rattle.mz_tree_proof.specs.declared.skeleton.SkeletonTree.{SkeletonTree}
use Rattle.mz_tree_proof.specs.declared.skeleton.SkeletonTree.TheVariants.{Let, Assume, Given, Take}
use Rattle.mz_tree_proof.specs.declared.skeleton.TakeTree.{TakeTree}
use Rattle.mz_tree_proof.specs.declared.skeleton.TakenTree.{TakenTree}
use Rattle.mz_tree_proof.specs.declared.skeleton.TakenTree.TheVariants.{Plain, Named}
use Rattle.mz_parts.specs.Declarations.{declared_in}
use Rattle.mz_parts.specs.Described.{DescriptionRead}
use Rattle.mz_parts.specs.Named.{NamedRead}
use Rattle.mz_parts.specs.Propositions.{hypotheses_in}
use Rattle.mz_parts.specs.declared.described.Description.{Description}
use Rattle.mz_steps.specs.declared.block.Block.{Block}
use Rattle.mz_steps.specs.declared.read_step.Definition.{Definition}
use Rattle.mz_steps.specs.declared.read_step.ReadStep.{ReadStep}
use Rattle.mz_steps.specs.declared.read_step.ReadStep.TheVariants as read
use Rattle.mz_justified.specs.Answers.{OnMade}
use Rattle.mz_justified.specs.declared.proof_fault.ProofFault.{ProofFault}
use Rattle.mz_justified.specs.declared.proof_fault.ProofRefusal.{ProofRefusal}
use Rattle.mz_justified.specs.declared.proof_fault.ProofRefusal.TheVariants.{StepNoFit, Resolve}
use Rattle.mz_walk.specs.Walked.{State, state, OneByOne}
use Rattle.mz_walk.specs.Performing.{Performs, PerformsAlone, is_now}
use Rattle.mz_walk.specs.Skeleton as sk
use Rattle.mz_walk.specs.Skeleton.{Lets, Assumes, conditions_in, LetsSuch, Gives, TakesOne, StepsOn}
use Rattle.mz_walk.specs.Answers.{resolved, reached}
use Rattle.mz_performing.proofs.AnswerLemmas.{on_err, on_ok, on_made, on_unread, on_read}
use Rattle.mz_performing.proofs.TakingLemmas.{Taking, taking_end, taking_stop, taking_turn, first_refused, first_taken}

-- `let`
pub told_not_let : {Y : Type 0} (Z : Type 0) (e : Environment) (first : Place) (s t u : State) (tree : LetTree) (y : Result Y ProofFault) (f : ProofFault) →
    OnMade y (λ o. Lets e first s (declared_in tree.declarations) (reached o u)) → y ≡ Err f → OnMade {X = Z} (Err f) (λ o. LetsSuch e first s tree (reached o t))
told_not_let {Y} Z e first s t u tree y f h ey =
    let P : Result Y ProofRefusal → Type 0 = λ o. Lets e first s (declared_in tree.declarations) (reached o u) in
    let Q : Result Z ProofRefusal → Type 0 = λ o. LetsSuch e first s tree (reached o t) in
    on_err P Q y f ey h (λ r k. sk.not_let r k)

pub told_let_such : {Y Z : Type 0} (e : Environment) (first : Place) (s t u : State) (tree : LetTree) (y : Result Y ProofFault) (z : Y) (q : Result Z ProofFault) →
    OnMade y (λ o. Lets e first s (declared_in tree.declarations) (reached o u)) → y ≡ Ok z → OnMade q (λ o. Assumes e first u (conditions_in tree.such) (reached o t)) → OnMade q (λ o. LetsSuch e first s tree (reached o t))
told_let_such {Y} {Z} e first s t u tree y z q h ey k =
    let P : Result Y ProofRefusal → Type 0 = λ o. Lets e first s (declared_in tree.declarations) (reached o u) in
    let Q : Result Z ProofRefusal → Type 0 = λ o. Assumes e first u (conditions_in tree.such) (reached o t) in
    let R : Result Z ProofRefusal → Type 0 = λ o. LetsSuch e first s tree (reached o t) in
    let is_let : Lets e first s (declared_in tree.declarations) (Ok u) = on_ok P y z ey h in
    on_made Q R q k (λ w g. sk.let_such u (Ok t) is_let g) (λ r g. sk.let_such u (Err r) is_let g)

pub ruleset let_rules = (told_not_let, told_let_such)

-- `given`
pub told_given_step : {Y : Type 0} (e : Environment) (first : Place) (c d : Context) (b b' : Block) (r r' : ReadStep) (ps : List LabelledStatement) (y : Result Y ProofFault) → r ≡ r' →
    ((l : Left) → OnMade y (λ o. Performs e first (state c b l) r ps (reached o (state d b' l)))) → (l : Left) → OnMade y (λ o. Performs e first (state c b l) r' ps (reached o (state d b' l)))
told_given_step e first c d b b' r r' ps y er h l = subst (λ z. OnMade y (λ o. Performs e first (state c b l) z ps (reached o (state d b' l)))) er (h l)

pub ruleset given_step_rules = (told_given_step)

pub told_not_given : (Y : Type 0) (e : Environment) (first : Place) (c : Context) (b : Block) (l l' : Left) (tree : GivenTree) (x : Result Description ResolveFault) (f : ResolveFault) (g : ProofFault) (t : State) →
    OnRead x (λ o. DescriptionRead e c 0 l first tree.declarations tree.such.propositions o l') → x ≡ Err f → g ≡ resolved f → OnMade {X = Y} (Err g) (λ o. Gives e first (state c b l) tree (reached o t))
told_not_given Y e first c b l l' tree x f g t h ex eg =
    let P : Result Description Refusal → Type 0 = λ o. DescriptionRead e c 0 l first tree.declarations tree.such.propositions o l' in
    let Q : Result Y ProofRefusal → Type 0 = λ o. Gives e first (state c b l) tree (reached o t) in
    on_unread P Q x f g ex eg h (λ r k. sk.not_read r l' k)

pub told_given : {Y : Type 0} (e : Environment) (first : Place) (c c' c'' : Context) (b b' : Block) (l l' : Left) (tree : GivenTree) (x : Result Description ResolveFault) (d : Description) (y : Result Y ProofFault) →
    OnRead x (λ o. DescriptionRead e c 0 l first tree.declarations tree.such.propositions o l') → x ≡ Ok d → c' ≡ c →
    ((m : Left) → OnMade y (λ o. Performs e first (state c' b m) (read.Given d.variables d.statement) d.propositions (reached o (state c'' b' m)))) → OnMade y (λ o. Gives e first (state c b l) tree (reached o (state c'' b' l')))
told_given {Y} e first c c' c'' b b' l l' tree x d y h ex ec k =
    let P : Result Description Refusal → Type 0 = λ o. DescriptionRead e c 0 l first tree.declarations tree.such.propositions o l' in
    let Q : Result Y ProofRefusal → Type 0 = λ o. Performs e first (state c b l') (read.Given d.variables d.statement) d.propositions (reached o (state c'' b' l')) in
    let R : Result Y ProofRefusal → Type 0 = λ o. Gives e first (state c b l) tree (reached o (state c'' b' l')) in
    let at_c : OnMade y Q = subst (λ z. OnMade y (λ o. Performs e first (state z b l') (read.Given d.variables d.statement) d.propositions (reached o (state c'' b' l')))) ec (k l') in
    let is_read : DescriptionRead e c 0 l first tree.declarations tree.such.propositions (Ok d) l' = on_read P x d ex h in
    on_made Q R y at_c (λ w g. sk.given d l' (Ok (state c'' b' l')) is_read g) (λ r g. sk.given d l' (Err r) is_read g)

pub ruleset given_rules = (told_not_given, told_given)

-- `take`
pub told_not_taken : (Y : Type 0) (e : Environment) (first : Place) (c : Context) (b : Block) (l l' : Left) (tree : TakenTree) (t : TermData) (x : Result Term ResolveFault) (f : ResolveFault) (g : ProofFault) (u : State) → tree ≡ Plain t →
    OnRead x (λ o. TermRead e c 0 l t o l') → x ≡ Err f → g ≡ resolved f → OnMade {X = Y} (Err g) (λ o. TakesOne e first (state c b l) tree (reached o u))
told_not_taken Y e first c b l l' tree t x f g u et h ex eg =
    let P : Result Term Refusal → Type 0 = λ o. TermRead e c 0 l t o l' in
    let Q : Result Y ProofRefusal → Type 0 = λ o. TakesOne e first (state c b l) (Plain t) (reached o u) in
    subst (λ z. OnMade {X = Y} (Err g) (λ o. TakesOne e first (state c b l) z (reached o u))) (sym et) (on_unread P Q x f g ex eg h (λ r k. sk.not_read t r l' k))

pub told_taken : {Y : Type 0} (e : Environment) (first : Place) (c c'' : Context) (b b' : Block) (l l' : Left) (tree : TakenTree) (t : TermData) (x : Result Term ResolveFault) (a : Term) (y : Result Y ProofFault) → tree ≡ Plain t →
    OnRead x (λ o. TermRead e c 0 l t o l') → x ≡ Ok a → ((m : Left) → OnMade y (λ o. PerformsAlone e first (state c b m) (read.Take a) (reached o (state c'' b' m)))) → OnMade y (λ o. TakesOne e first (state c b l) tree (reached o (state c'' b' l')))
told_taken {Y} e first c c'' b b' l l' tree t x a y et h ex k =
    let P : Result Term Refusal → Type 0 = λ o. TermRead e c 0 l t o l' in
    let Q : Result Y ProofRefusal → Type 0 = λ o. PerformsAlone e first (state c b l') (read.Take a) (reached o (state c'' b' l')) in
    let R : Result Y ProofRefusal → Type 0 = λ o. TakesOne e first (state c b l) (Plain t) (reached o (state c'' b' l')) in
    let is_read : TermRead e c 0 l t (Ok a) l' = on_read P x a ex h in
    subst (λ z. OnMade y (λ o. TakesOne e first (state c b l) z (reached o (state c'' b' l')))) (sym et)
    (on_made Q R y (k l') (λ w g. sk.taken t a l' (Ok (state c'' b' l')) is_read g) (λ r g. sk.taken t a l' (Err r) is_read g))

pub told_not_named : (Y : Type 0) (e : Environment) (first : Place) (c : Context) (b : Block) (l l' : Left) (tree : TakenTree) (n : NamedTermTree) (x : Result Definition ResolveFault) (f : ResolveFault) (g : ProofFault) (u : State) → tree ≡ Named n →
    OnRead x (λ o. NamedRead e c 0 l n o l') → x ≡ Err f → g ≡ resolved f → OnMade {X = Y} (Err g) (λ o. TakesOne e first (state c b l) tree (reached o u))
told_not_named Y e first c b l l' tree n x f g u et h ex eg =
    let P : Result Definition Refusal → Type 0 = λ o. NamedRead e c 0 l n o l' in
    let Q : Result Y ProofRefusal → Type 0 = λ o. TakesOne e first (state c b l) (Named n) (reached o u) in
    subst (λ z. OnMade {X = Y} (Err g) (λ o. TakesOne e first (state c b l) z (reached o u))) (sym et) (on_unread P Q x f g ex eg h (λ r k. sk.not_named n r l' k))

pub told_named : {Y : Type 0} (e : Environment) (first : Place) (c c'' : Context) (b b' : Block) (l l' : Left) (tree : TakenTree) (n : NamedTermTree) (x : Result Definition ResolveFault) (d : Definition) (rs : List ReadStep) (y : Result Y ProofFault) → tree ≡ Named n →
    OnRead x (λ o. NamedRead e c 0 l n o l') → x ≡ Ok d → rs ≡ read.Take d.term ∷ read.Set d ∷ [] → ((m : Left) → OnMade y (λ o. OneByOne (PerformsAlone e first) (state c b m) rs (reached o (state c'' b' m)))) →
    OnMade y (λ o. TakesOne e first (state c b l) tree (reached o (state c'' b' l')))
told_named {Y} e first c c'' b b' l l' tree n x d rs y et h ex er k =
    let P : Result Definition Refusal → Type 0 = λ o. NamedRead e c 0 l n o l' in
    let Q : Result Y ProofRefusal → Type 0 = λ o. OneByOne (PerformsAlone e first) (state c b l') (read.Take d.term ∷ read.Set d ∷ []) (reached o (state c'' b' l')) in
    let R : Result Y ProofRefusal → Type 0 = λ o. TakesOne e first (state c b l) (Named n) (reached o (state c'' b' l')) in
    let is_read : NamedRead e c 0 l n (Ok d) l' = on_read P x d ex h in
    let both : OnMade y Q = subst (λ z. OnMade y (λ o. OneByOne (PerformsAlone e first) (state c b l') z (reached o (state c'' b' l')))) er (k l') in
    subst (λ z. OnMade y (λ o. TakesOne e first (state c b l) z (reached o (state c'' b' l')))) (sym et)
    (on_made Q R y both (λ w g. sk.named n d l' (Ok (state c'' b' l')) is_read g) (λ r g. sk.named n d l' (Err r) is_read g))

pub ruleset take_rules = (told_not_taken, told_taken, told_not_named, told_named)

-- examples one after another
abbrev pub TakingAll : Environment → Place → State → List (Next Comma TakenTree) → State → List (Next Comma TakenTree) → Type 0
TakingAll e first s rest t all = Taking (TakesOne e first) s (map tree_of rest) t (map tree_of all)

pub told_each_begun : (e : Environment) (first : Place) (s : State) (all : List (Next Comma TakenTree)) → TakingAll e first s all s all
told_each_begun e first s all o h = h

pub told_each_end : (e : Environment) (first : Place) (s t : State) (rest all : List (Next Comma TakenTree)) → length rest ≡ 0 → TakingAll e first s rest t all → OneByOne (TakesOne e first) t (map tree_of all) (Ok s)
told_each_end e first s t rest all er g = taking_end (TakesOne e first) s t (map tree_of rest) (map tree_of all) (ap (map tree_of) (empty rest er)) g

pub told_each_stop : {Y : Type 0} (Z : Type 0) (e : Environment) (first : Place) (s t u v : State) (n : Next Comma TakenTree) (rest others all : List (Next Comma TakenTree)) (y : Result Y ProofFault) (f : ProofFault) → rest ≡ n ∷ others →
    OnMade y (λ o. TakesOne e first s n.tree (reached o u)) → y ≡ Err f → TakingAll e first s rest t all → OnMade {X = Z} (Err f) (λ o. OneByOne (TakesOne e first) t (map tree_of all) (reached o v))
told_each_stop Z e first s t u v n rest others all y f er h ey g = taking_stop Z (TakesOne e first) s t u v n.tree (map tree_of rest) (map tree_of others) (map tree_of all) y f (ap (map tree_of) er) h ey g

pub told_each_turn : {Y : Type 0} (e : Environment) (first : Place) (s t u : State) (n : Next Comma TakenTree) (rest others all : List (Next Comma TakenTree)) (y : Result Y ProofFault) (z : Y) → rest ≡ n ∷ others →
    OnMade y (λ o. TakesOne e first s n.tree (reached o u)) → y ≡ Ok z → TakingAll e first s rest t all → TakingAll e first u others t all
told_each_turn e first s t u n rest others all y z er h ey g = taking_turn (TakesOne e first) s t u n.tree (map tree_of rest) (map tree_of others) (map tree_of all) y z (ap (map tree_of) er) h ey g

pub ruleset take_each_rules = (told_each_begun, told_each_end, told_each_stop, told_each_turn)

pub told_first_refused : {Y : Type 0} (Z : Type 0) (e : Environment) (first : Place) (s u v : State) (xs : Separated TakenTree) (y : Result Y ProofFault) (f : ProofFault) →
    OnMade y (λ o. TakesOne e first s xs.first (reached o u)) → y ≡ Err f → OnMade {X = Z} (Err f) (λ o. OneByOne (TakesOne e first) s (members xs) (reached o v))
told_first_refused Z e first s u v xs y f h ey = first_refused Z (TakesOne e first) s u v xs.first (map tree_of xs.more) y f h ey

pub told_first_taken : {Y Z : Type 0} (e : Environment) (first : Place) (s u v : State) (xs : Separated TakenTree) (y : Result Y ProofFault) (z : Y) (q : Result Z ProofFault) →
    OnMade y (λ o. TakesOne e first s xs.first (reached o u)) → y ≡ Ok z → OnMade q (λ o. OneByOne (TakesOne e first) u (map tree_of xs.more) (reached o v)) → OnMade q (λ o. OneByOne (TakesOne e first) s (members xs) (reached o v))
told_first_taken e first s u v xs y z q h ey k = first_taken (TakesOne e first) s u v xs.first (map tree_of xs.more) y z q h ey k

pub ruleset take_all_rules = (told_first_refused, told_first_taken)

-- a step
step_as : {Z : Type 0} (e : Environment) (first : Place) (s v : State) (tree other : SkeletonTree) (q : Result Z ProofFault) → tree ≡ other → OnMade q (λ o. StepsOn e first s other (reached o v)) → OnMade q (λ o. StepsOn e first s tree (reached o v))
step_as e first s v tree other q et h = subst (λ z. OnMade q (λ o. StepsOn e first s z (reached o v))) (sym et) h

pub told_lets : {Z : Type 0} (e : Environment) (first : Place) (s v : State) (tree : SkeletonTree) (t : LetTree) (q : Result Z ProofFault) → tree ≡ Let t → OnMade q (λ o. LetsSuch e first s t (reached o v)) → OnMade q (λ o. StepsOn e first s tree (reached o v))
told_lets {Z} e first s v tree t q et h =
    let P : Result Z ProofRefusal → Type 0 = λ o. LetsSuch e first s t (reached o v) in
    let R : Result Z ProofRefusal → Type 0 = λ o. StepsOn e first s (Let t) (reached o v) in
    step_as e first s v tree (Let t) q et (on_made P R q h (λ w g. sk.lets_such t (Ok v) g) (λ r g. sk.lets_such t (Err r) g))

pub told_assumes : {Z : Type 0} (e : Environment) (first : Place) (s v : State) (tree : SkeletonTree) (t : AssumeTree) (q : Result Z ProofFault) → tree ≡ Assume t → OnMade q (λ o. Assumes e first s (hypotheses_in t.hypotheses) (reached o v)) → OnMade q (λ o. StepsOn e first s tree (reached o v))
told_assumes {Z} e first s v tree t q et h =
    let P : Result Z ProofRefusal → Type 0 = λ o. Assumes e first s (hypotheses_in t.hypotheses) (reached o v) in
    let R : Result Z ProofRefusal → Type 0 = λ o. StepsOn e first s (Assume t) (reached o v) in
    step_as e first s v tree (Assume t) q et (on_made P R q h (λ w g. sk.assumes t (Ok v) g) (λ r g. sk.assumes t (Err r) g))

pub told_gives : {Z : Type 0} (e : Environment) (first : Place) (s v : State) (tree : SkeletonTree) (t : GivenTree) (q : Result Z ProofFault) → tree ≡ Given t → OnMade q (λ o. Gives e first s t (reached o v)) → OnMade q (λ o. StepsOn e first s tree (reached o v))
told_gives {Z} e first s v tree t q et h =
    let P : Result Z ProofRefusal → Type 0 = λ o. Gives e first s t (reached o v) in
    let R : Result Z ProofRefusal → Type 0 = λ o. StepsOn e first s (Given t) (reached o v) in
    step_as e first s v tree (Given t) q et (on_made P R q h (λ w g. sk.gives t (Ok v) g) (λ r g. sk.gives t (Err r) g))

pub told_take_in_now : (e : Environment) (first : Place) (s : State) (tree : SkeletonTree) (t : TakeTree) (k : Bool) → tree ≡ Take t → k ≡ is_now s.block → k ≡ true → StepsOn e first s tree (Err (StepNoFit first))
told_take_in_now e first s tree t k et ek e1 = subst (λ z. StepsOn e first s z (Err (StepNoFit first))) (sym et) (sk.take_in_now t (sym ek ∙ e1))

pub told_takes : {Z : Type 0} (e : Environment) (first : Place) (s v : State) (tree : SkeletonTree) (t : TakeTree) (k : Bool) (q : Result Z ProofFault) → tree ≡ Take t → k ≡ is_now s.block → k ≡ false →
    OnMade q (λ o. OneByOne (TakesOne e first) s (members t.taken) (reached o v)) → OnMade q (λ o. StepsOn e first s tree (reached o v))
told_takes {Z} e first s v tree t k q et ek e0 h =
    let P : Result Z ProofRefusal → Type 0 = λ o. OneByOne (TakesOne e first) s (members t.taken) (reached o v) in
    let R : Result Z ProofRefusal → Type 0 = λ o. StepsOn e first s (Take t) (reached o v) in
    step_as e first s v tree (Take t) q et (on_made P R q h (λ w g. sk.takes t (Ok v) (sym ek ∙ e0) g) (λ r g. sk.takes t (Err r) (sym ek ∙ e0) g))

pub ruleset step_rules = (told_lets, told_assumes, told_gives, told_take_in_now, told_takes)
