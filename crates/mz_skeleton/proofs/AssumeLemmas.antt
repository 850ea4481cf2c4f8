-- What the code of `assume` tells.
use Rattle.std.proofs.Common.{◌≡◌, ℕ, List, [], ◌∷◌, ◌++◌, length, map, refl, sym, ap, ◌∙◌, subst, Option, Some, None}
use Rattle.std.specs.Prelude.{Result, Ok, Err}
use Rattle.mz_base.specs.declared.place.Place.{Place}
use Rattle.mz_core.specs.declared.outcome.Left.{Left}
use Rattle.mz_context.specs.declared.context.Context.{Context}
use Rattle.mz_context.specs.declared.labelled.LabelledStatement.{LabelledStatement}
use Rattle.mz_environment.specs.declared.environment.Environment.{Environment}
use Rattle.mz_names.specs.declared.refusal.Refusal.{Refusal}
use Rattle.mz_fits.proofs.FitLemmas.{empty}
use Rattle.mz_formulas.specs.declared.sentence.Sentence.{Sentence}
use Rattle.mz_resolve.specs.Answers.{OnRead}
use Rattle.mz_resolve.specs.Calls.{SentenceRead}
use Rattle.mz_resolve.specs.declared.resolve_fault.ResolveFault.{ResolveFault}
use Rattle.mz_tree_proof.specs.declared.propositions.AndPropositionTree.{AndPropositionTree}
use Rattle.mz_tree_proof.specs.declared.propositions.HypothesesTree.{HypothesesTree}
use Rattle.mz_tree_proof.specs.declared.propositions.HypothesesTree.TheVariants.{One, That}
use Rattle.mz_tree_proof.specs.declared.propositions.PropositionTree.{PropositionTree}
use Rattle.mz_tree_proof.specs.declared.propositions.PropositionsTree.{PropositionsTree}
use Rattle.mz_tree_proof.specs.declared.propositions.SuchTree.{SuchTree}
use Rattle.mz_parts.specs.Propositions.{stated_by, behind_and, propositions_in, hypotheses_in}
use Rattle.mz_steps.specs.declared.block.Block.{Block}
use Rattle.mz_steps.specs.declared.read_step.ReadStep.{ReadStep}
use Rattle.mz_steps.specs.declared.read_step.ReadStep.TheVariants as read
use Rattle.mz_justified.specs.Answers.{OnMade}
use Rattle.mz_justified.specs.declared.proof_fault.ProofFault.{ProofFault}
use Rattle.mz_justified.specs.declared.proof_fault.ProofRefusal.{ProofRefusal}
use Rattle.mz_justified.specs.declared.proof_fault.ProofRefusal.TheVariants.{Resolve}
use Rattle.mz_walk.specs.Walked as wk
use Rattle.mz_walk.specs.Walked.{State, state, OneByOne}
use Rattle.mz_walk.specs.Performing.{PerformsAlone, stating_within}
use Rattle.mz_walk.specs.Skeleton as sk
use Rattle.mz_walk.specs.Skeleton.{Assuming, assuming, AssumesOne, Assumes, conditions_in}
use Rattle.mz_walk.specs.Answers.{resolved, reached}
use Rattle.mz_performing.proofs.AnswerLemmas.{on_err, on_ok, on_made, on_unread, on_read}
use Rattle.mz_performing.proofs.TakingLemmas.{Taking, taking_end, taking_stop, taking_turn, first_refused, alone}
use Rattle.mz_skeleton.proofs.SliceLemmas.{first_taken_each}

-- a hypothesis
pub told_unread : (Y : Type 0) (e : Environment) (first : Place) (c : Context) (b : Block) (l l' : Left) (ps : List LabelledStatement) (t : PropositionTree) (x : Result Sentence ResolveFault) (f : ResolveFault) (g : ProofFault) (u : Assuming) →
    OnRead x (λ o. SentenceRead e c 0 l t.formula o l') → x ≡ Err f → g ≡ resolved f → OnMade {X = Y} (Err g) (λ o. AssumesOne e first (assuming (state c b l) ps) t (reached o u))
told_unread Y e first c b l l' ps t x f g u h ex eg =
    let P : Result Sentence Refusal → Type 0 = λ o. SentenceRead e c 0 l t.formula o l' in
    let Q : Result Y ProofRefusal → Type 0 = λ o. AssumesOne e first (assuming (state c b l) ps) t (reached o u) in
    on_unread P Q x f g ex eg h (λ r k. sk.not_read r l' k)

pub told_assumed : {Y : Type 0} (e : Environment) (first : Place) (c c' c'' : Context) (b b' : Block) (l l' : Left) (ps qs : List LabelledStatement) (t : PropositionTree) (x : Result Sentence ResolveFault) (s : Sentence) (a : ReadStep) (y : Result Y ProofFault) →
    OnRead x (λ o. SentenceRead e c 0 l t.formula o l') → x ≡ Ok s → c' ≡ c → a ≡ read.Assume s.closed → qs ≡ ps ++ stated_by t s ∷ [] → ((m : Left) → OnMade y (λ o. PerformsAlone e first (state c' b m) a (reached o (state c'' b' m)))) →
    OnMade y (λ o. AssumesOne e first (assuming (state c b l) ps) t (reached o (assuming (state c'' b' l') qs)))
told_assumed {Y} e first c c' c'' b b' l l' ps qs t x s a y h ex ec ea es k =
    let P : Result Sentence Refusal → Type 0 = λ o. SentenceRead e c 0 l t.formula o l' in
    let Q : Result Y ProofRefusal → Type 0 = λ o. PerformsAlone e first (state c b l') (read.Assume s.closed) (reached o (state c'' b' l')) in
    let R : Result Y ProofRefusal → Type 0 = λ o. AssumesOne e first (assuming (state c b l) ps) t (reached o (assuming (state c'' b' l') (ps ++ stated_by t s ∷ []))) in
    let at_c : OnMade y (λ o. PerformsAlone e first (state c b l') a (reached o (state c'' b' l'))) = subst (λ z. OnMade y (λ o. PerformsAlone e first (state z b l') a (reached o (state c'' b' l')))) ec (k l') in
    let assumed : OnMade y Q = subst (λ z. OnMade y (λ o. PerformsAlone e first (state c b l') z (reached o (state c'' b' l')))) ea at_c in
    let is_read : SentenceRead e c 0 l t.formula (Ok s) l' = on_read P x s ex h in
    subst (λ zs. OnMade y (λ o. AssumesOne e first (assuming (state c b l) ps) t (reached o (assuming (state c'' b' l') zs)))) (sym es)
    (on_made Q R y assumed (λ z g. sk.assumed s l' (Ok (state c'' b' l')) is_read g) (λ r g. sk.assumed s l' (Err r) is_read g))

pub ruleset one_rules = (told_unread, told_assumed)

-- one after another
abbrev pub AssumingAll : Environment → Place → Assuming → List AndPropositionTree → Assuming → List AndPropositionTree → Type 0
AssumingAll e first s rest t all = Taking (AssumesOne e first) s (map behind_and rest) t (map behind_and all)

pub told_each_begun : (e : Environment) (first : Place) (s : Assuming) (all : List AndPropositionTree) → AssumingAll e first s all s all
told_each_begun e first s all o h = h

pub told_each_end : (e : Environment) (first : Place) (s t : Assuming) (rest all : List AndPropositionTree) → length rest ≡ 0 → AssumingAll e first s rest t all → OneByOne (AssumesOne e first) t (map behind_and all) (Ok s)
told_each_end e first s t rest all er g = taking_end (AssumesOne e first) s t (map behind_and rest) (map behind_and all) (ap (map behind_and) (empty rest er)) g

pub told_each_stop : {Y : Type 0} (Z : Type 0) (e : Environment) (first : Place) (s t u v : Assuming) (n : AndPropositionTree) (rest others all : List AndPropositionTree) (y : Result Y ProofFault) (f : ProofFault) → rest ≡ n ∷ others →
    OnMade y (λ o. AssumesOne e first s n.proposition (reached o u)) → y ≡ Err f → AssumingAll e first s rest t all → OnMade {X = Z} (Err f) (λ o. OneByOne (AssumesOne e first) t (map behind_and all) (reached o v))
told_each_stop Z e first s t u v n rest others all y f er h ey g = taking_stop Z (AssumesOne e first) s t u v n.proposition (map behind_and rest) (map behind_and others) (map behind_and all) y f (ap (map behind_and) er) h ey g

pub told_each_turn : {Y : Type 0} (e : Environment) (first : Place) (s t u : Assuming) (n : AndPropositionTree) (rest others all : List AndPropositionTree) (y : Result Y ProofFault) (z : Y) → rest ≡ n ∷ others →
    OnMade y (λ o. AssumesOne e first s n.proposition (reached o u)) → y ≡ Ok z → AssumingAll e first s rest t all → AssumingAll e first u others t all
told_each_turn e first s t u n rest others all y z er h ey g = taking_turn (AssumesOne e first) s t u n.proposition (map behind_and rest) (map behind_and others) (map behind_and all) y z (ap (map behind_and) er) h ey g

pub ruleset each_rules = (told_each_begun, told_each_end, told_each_stop, told_each_turn)

-- the first, and then the others; the tree is seen through a view
pub told_first_refused : {Y : Type 0} (Z : Type 0) (e : Environment) (first : Place) (s u v : Assuming) (ts ws : PropositionsTree) (y : Result Y ProofFault) (f : ProofFault) → ts ≡ ws →
    OnMade y (λ o. AssumesOne e first s ts.first (reached o u)) → y ≡ Err f → OnMade {X = Z} (Err f) (λ o. OneByOne (AssumesOne e first) s (propositions_in ws) (reached o v))
told_first_refused Z e first s u v ts ws y f et h ey =
    subst (λ w. OnMade {X = Z} (Err f) (λ o. OneByOne (AssumesOne e first) s (propositions_in w) (reached o v))) et (first_refused Z (AssumesOne e first) s u v ts.first (map behind_and ts.more) y f h ey)

pub told_first_taken : {Y Z : Type 0} (e : Environment) (first : Place) (s u v : Assuming) (ts ws : PropositionsTree) (slice : List AndPropositionTree) (y : Result Y ProofFault) (z : Y) (q : Result Z ProofFault) → ts ≡ ws →
    OnMade y (λ o. AssumesOne e first s ts.first (reached o u)) → y ≡ Ok z → slice ≡ ts.more → OnMade q (λ o. OneByOne (AssumesOne e first) u (map behind_and slice) (reached o v)) → OnMade q (λ o. OneByOne (AssumesOne e first) s (propositions_in ws) (reached o v))
told_first_taken e first s u v ts ws slice y z q et h ey es k =
    subst (λ w. OnMade q (λ o. OneByOne (AssumesOne e first) s (propositions_in w) (reached o v))) et (first_taken_each (AssumesOne e first) behind_and s u v ts.first slice ts.more y z q h ey es k)

pub ruleset all_rules = (told_first_refused, told_first_taken)

-- one or several
pub told_one : {Z : Type 0} (e : Environment) (first : Place) (s v : Assuming) (hs : HypothesesTree) (p : PropositionTree) (q : Result Z ProofFault) → hs ≡ One p → OnMade q (λ o. AssumesOne e first s p (reached o v)) → OnMade q (λ o. OneByOne (AssumesOne e first) s (hypotheses_in hs) (reached o v))
told_one e first s v hs p q eh h = subst (λ z. OnMade q (λ o. OneByOne (AssumesOne e first) s (hypotheses_in z) (reached o v))) (sym eh) (alone (AssumesOne e first) s v p q h)

pub told_several : {Z : Type 0} (e : Environment) (first : Place) (s v : Assuming) (hs : HypothesesTree) (that : Place) (ps : PropositionsTree) (q : Result Z ProofFault) → hs ≡ That that ps → OnMade q (λ o. OneByOne (AssumesOne e first) s (propositions_in ps) (reached o v)) →
    OnMade q (λ o. OneByOne (AssumesOne e first) s (hypotheses_in hs) (reached o v))
told_several e first s v hs that ps q eh h = subst (λ z. OnMade q (λ o. OneByOne (AssumesOne e first) s (hypotheses_in z) (reached o v))) (sym eh) h

pub ruleset hypotheses_rules = (told_one, told_several)

-- hypotheses, and what they state together
pub told_not_assumed : {Y : Type 0} (Z : Type 0) (e : Environment) (first : Place) (s t : State) (u : Assuming) (ps : List LabelledStatement) (ts : List PropositionTree) (y : Result Y ProofFault) (f : ProofFault) → ps ≡ [] →
    OnMade y (λ o. OneByOne (AssumesOne e first) (assuming s ps) ts (reached o u)) → y ≡ Err f → OnMade {X = Z} (Err f) (λ o. Assumes e first s ts (reached o t))
told_not_assumed {Y} Z e first s t u ps ts y f ep h ey =
    let P : Result Y ProofRefusal → Type 0 = λ o. OneByOne (AssumesOne e first) (assuming s ps) ts (reached o u) in
    let Q : Result Z ProofRefusal → Type 0 = λ o. Assumes e first s ts (reached o t) in
    on_err P Q y f ey h (λ r k. sk.not_assumed r (subst (λ qs. OneByOne (AssumesOne e first) (assuming s qs) ts (Err r)) ep k))

pub told_all_assumed : {Y Z : Type 0} (e : Environment) (first : Place) (s : State) (c d : Context) (b : Block) (l : Left) (ps qs : List LabelledStatement) (ts : List PropositionTree) (y : Result Y ProofFault) (z : Y) (q : Result Z ProofFault) → ps ≡ [] →
    OnMade y (λ o. OneByOne (AssumesOne e first) (assuming s ps) ts (reached o (assuming (state c b l) qs))) → y ≡ Ok z →
    ((m : Left) → OnMade q (λ o. reached o (state d b m) ≡ stating_within first (state c b m) qs)) → OnMade q (λ o. Assumes e first s ts (reached o (state d b l)))
told_all_assumed {Y} {Z} e first s c d b l ps qs ts y z q ep h ey k =
    let P : Result Y ProofRefusal → Type 0 = λ o. OneByOne (AssumesOne e first) (assuming s ps) ts (reached o (assuming (state c b l) qs)) in
    let Q : Result Z ProofRefusal → Type 0 = λ o. reached o (state d b l) ≡ stating_within first (state c b l) qs in
    let R : Result Z ProofRefusal → Type 0 = λ o. Assumes e first s ts (reached o (state d b l)) in
    let all : Assumes e first s ts (stating_within first (state c b l) qs) = sk.all_assumed (assuming (state c b l) qs) (subst (λ rs. OneByOne (AssumesOne e first) (assuming s rs) ts (Ok (assuming (state c b l) qs))) ep (on_ok P y z ey h)) in
    on_made Q R q (k l) (λ w g. subst (Assumes e first s ts) (sym g) all) (λ r g. subst (Assumes e first s ts) (sym g) all)

pub ruleset assumes_rules = (told_not_assumed, told_all_assumed)

-- what is assumed behind `let`
pub told_no_condition : {Z : Type 0} (e : Environment) (first : Place) (c d : Context) (b : Block) (l : Left) (ps : List LabelledStatement) (t : Option SuchTree) (q : Result Z ProofFault) → t ≡ None → ps ≡ [] →
    ((m : Left) → OnMade q (λ o. reached o (state d b m) ≡ stating_within first (state c b m) ps)) → OnMade q (λ o. Assumes e first (state c b l) (conditions_in t) (reached o (state d b l)))
told_no_condition {Z} e first c d b l ps t q et ep k =
    let Q : Result Z ProofRefusal → Type 0 = λ o. reached o (state d b l) ≡ stating_within first (state c b l) ps in
    let R : Result Z ProofRefusal → Type 0 = λ o. Assumes e first (state c b l) [] (reached o (state d b l)) in
    let all : Assumes e first (state c b l) [] (stating_within first (state c b l) ps) = subst (λ rs. Assumes e first (state c b l) [] (stating_within first (state c b l) rs)) (sym ep) (sk.all_assumed (assuming (state c b l) []) (wk.none_left (assuming (state c b l) []))) in
    subst (λ z. OnMade q (λ o. Assumes e first (state c b l) (conditions_in z) (reached o (state d b l)))) (sym et)
    (on_made Q R q (k l) (λ w g. subst (Assumes e first (state c b l) []) (sym g) all) (λ r g. subst (Assumes e first (state c b l) []) (sym g) all))

pub told_unassumed_condition : {Y : Type 0} (Z : Type 0) (e : Environment) (first : Place) (s t : State) (u : Assuming) (ps : List LabelledStatement) (o' : Option SuchTree) (such : SuchTree) (y : Result Y ProofFault) (f : ProofFault) → o' ≡ Some such → ps ≡ [] →
    OnMade y (λ o. OneByOne (AssumesOne e first) (assuming s ps) (propositions_in such.propositions) (reached o u)) → y ≡ Err f → OnMade {X = Z} (Err f) (λ o. Assumes e first s (conditions_in o') (reached o t))
told_unassumed_condition {Y} Z e first s t u ps o' such y f eo ep h ey =
    subst (λ z. OnMade {X = Z} (Err f) (λ o. Assumes e first s (conditions_in z) (reached o t))) (sym eo) (told_not_assumed Z e first s t u ps (propositions_in such.propositions) y f ep h ey)

pub told_condition : {Y Z : Type 0} (e : Environment) (first : Place) (s : State) (c d : Context) (b : Block) (l : Left) (ps qs : List LabelledStatement) (o' : Option SuchTree) (such : SuchTree) (y : Result Y ProofFault) (z : Y) (q : Result Z ProofFault) → o' ≡ Some such → ps ≡ [] →
    OnMade y (λ o. OneByOne (AssumesOne e first) (assuming s ps) (propositions_in such.propositions) (reached o (assuming (state c b l) qs))) → y ≡ Ok z →
    ((m : Left) → OnMade q (λ o. reached o (state d b m) ≡ stating_within first (state c b m) qs)) → OnMade q (λ o. Assumes e first s (conditions_in o') (reached o (state d b l)))
told_condition e first s c d b l ps qs o' such y z q eo ep h ey k =
    subst (λ x. OnMade q (λ o. Assumes e first s (conditions_in x) (reached o (state d b l)))) (sym eo) (told_all_assumed e first s c d b l ps qs (propositions_in such.propositions) y z q ep h ey k)

pub ruleset conditions_rules = (told_no_condition, told_unassumed_condition, told_condition)
